use Rattle.std.proofs.Common.{sym, ap, ◌∙◌, [], take, take_all, arith}
use Rattle.ledger_core.specs.Shape.{keys_sized, shape_marks}
use Rattle.peer_queue.specs.Front.{front_shape}
use Rattle.peer_queue.proofs.Prefixes.{none_last}
use Rattle.peer_queue.proofs.Shaped.{past_outline}
use Rattle.peer_queue.proofs.front.Front.unheld_after.Goals as goal

pub returns-in-None : goal.returns-in-None
returns-in-None c =
    let front = c.args.self.now in
    let shape = front_shape front in
    let last = none_last c.args.key front.index (shape_marks shape) (keys_sized shape.sizes) front.all_placed
    (past_outline front.outbox.outline) (omega (arith, c.closed-closed.ensures.closed, c.closed-closed.ensures.fits))
    (omega (arith, c.import_mark-import_mark.ensures)) c.in-None.ensures.none in
    c.new.ensures.items ∙ sym (ap (take c.args.most) last ∙ take_all c.args.most [] (omega arith))
