use Rattle.std.proofs.Common.{ap, sym, ◌∙◌}
use Rattle.crossbeam_queue.specs.Passes.{view}
use Rattle.ledger_core.specs.Shape.{shape_of}
use Rattle.recovery.specs.Words.{ledger_of}
use Rattle.peer_queue.specs.Front.{unsent_of}
use Rattle.note_queue.specs.Owns.{kept_list}
use Rattle.note_queue.proofs.Joining.{folded-ledger}
use Rattle.note_queue.proofs.joined.join.Goals as goal

pub returns-clause-ledger : goal.returns-clause-ledger
returns-clause-ledger g c =
    let sender = c.args.sender in
    let log = view sender.pass in
    let left = c.join-tape.result in
    folded-ledger (ledger_of left.tape) log.sent_on log.sent (kept_list left.kept) left.queued.items
    (unsent_of sender.front) c.join-tape.ensures.folds

pub returns-clause-folds : goal.returns-clause-folds
returns-clause-folds g c =
    let sender = c.args.sender in
    let log = view sender.pass in
    let left = c.join-tape.result in
    sender.noted.shape
    ∙ ap shape_of (sym (folded-ledger (ledger_of left.tape) log.sent_on log.sent (kept_list left.kept)
    left.queued.items (unsent_of sender.front) c.join-tape.ensures.folds))
