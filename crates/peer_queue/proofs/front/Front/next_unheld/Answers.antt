use Rattle.std.proofs.Common.{ℕ, sym, ap, ◌∙◌, add-one, arith}
use Rattle.std.specs.Prelude.{find, nat_le}
use Rattle.ledger_core.specs.Shape.{keys_sized, shape_marks}
use Rattle.peer_queue.specs.Front.{front_shape, places_of}
use Rattle.peer_queue.specs.DebtPlace.{unheld}
use Rattle.peer_queue.proofs.Prefixes.{found_last}
use Rattle.peer_queue.proofs.Shaped.{past_outline}
use Rattle.peer_queue.proofs.front.Front.next_unheld.Goals as goal

pub returns-in-Some-clause-next : goal.returns-in-Some-clause-next
returns-in-Some-clause-next c =
    c.unheld_from.ensures.first
    ∙ ap (λ (k : ℕ). find (λ m. nat_le k m) (unheld (places_of c.args.self.now)))
    (c.in-Some.ensures.some ∙ add-one c.args.key)

pub returns-in-None-clause-next : goal.returns-in-None-clause-next
returns-in-None-clause-next c =
    let front = c.args.self.now in
    let shape = front_shape front in
    sym (found_last c.args.key front.index (shape_marks shape) (keys_sized shape.sizes) front.all_placed
    (past_outline front.outbox.outline) (omega (arith, c.closed-closed.ensures.closed, c.closed-closed.ensures.fits))
    (omega (arith, c.import_mark-import_mark.ensures)) c.in-None.ensures.none)
