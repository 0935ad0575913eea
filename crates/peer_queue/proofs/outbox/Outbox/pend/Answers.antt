use Rattle.std.proofs.Common.{List, ◌∷◌, [], length, sym, ap, subst, arith}
use Rattle.ledger_core.specs.Shape.{FitsShape, Shape}
use Rattle.ledger_core.specs.declared.note.Note.{Note}
use Rattle.peer_queue.proofs.Boxes.{room_pends, room_same}
use Rattle.peer_queue.proofs.outbox.Outbox.pend.Goals as goal

pub push-requires-clause-legal : goal.push-requires-clause-legal
push-requires-clause-legal c =
    subst (λ (s : Shape). FitsShape s c.args.note) (sym c.make_room.ensures.same.shape) c.requires.legal

pub push-requires-clause-room : goal.push-requires-clause-room
push-requires-clause-room c =
    omega (arith, ap (λ (l : List Note). length l) c.make_room.ensures.same.unsettled, c.requires.room)

pub returns-in-Ok-clause-ok : goal.returns-in-Ok-clause-ok
returns-in-Ok-clause-ok c =
    room_pends c.push.result (c.args.note ∷ []) c.args.self.now c.make_room.new.self c.push.new.self
    c.make_room.ensures.same c.push.ensures.ok

pub returns-in-Ok-clause-unchanged : goal.returns-in-Ok-clause-unchanged
returns-in-Ok-clause-unchanged c =
    room_same c.push.result c.args.self.now c.make_room.new.self c.push.new.self c.make_room.ensures.same
    c.push.ensures.unchanged
