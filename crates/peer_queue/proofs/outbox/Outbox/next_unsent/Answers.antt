use Rattle.std.proofs.Common.{Bor}
use Rattle.ledger_core.specs.declared.note.Note.{Note}
use Rattle.peer_queue.proofs.Boxes.{shown}
use Rattle.peer_queue.proofs.outbox.Outbox.next_unsent.Goals as goal

pub returns-clause-some : goal.returns-clause-some
returns-clause-some c =
    let outbox = c.args.self.now in
    shown (λ (note : Bor Note). note.now) c.get.result outbox.notes.items outbox.lying outbox.sent c.get.ensures.lookup
    c.get.ensures.item.0
