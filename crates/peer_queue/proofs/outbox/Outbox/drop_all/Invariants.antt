use Rattle.std.proofs.Common.{◌≡◌, ◌+◌, ◌≤◌, ◌++◌, length, take, drop}
use Rattle.std.specs.VecDeque.{deque_capacity}
use Rattle.recovery.specs.Notes.{drops}
use Rattle.peer_queue.specs.Outbox.{box_shape, notes_in}
use Rattle.peer_queue.specs.Shapes.{AllFit, shape_after}
use Rattle.peer_queue.proofs.outbox.Outbox.drop_all.Given as goal

abbrev pub invariant-loop-key : goal.invariant-loop-key
invariant-loop-key l = record {
  legal : AllFit (box_shape l.self) (drops l.cause (drop l.key-index l.keys));
  left : shape_after (box_shape l.self) (drops l.cause (drop l.key-index l.keys))
      ≡ shape_after (box_shape l.fn.self) (drops l.cause l.keys);
  notes : notes_in l.self ≡ notes_in l.fn.self ++ drops l.cause (take l.key-index l.keys);
  lying : l.self.lying ≡ l.fn.self.lying;
  sent : l.self.sent ≡ l.fn.self.sent;
  settled : l.self.settled ≡ l.fn.self.settled;
  place : l.self.place ≡ l.fn.self.place;
  works : l.self.broken ≡ l.fn.self.broken;
  spare : length (notes_in l.self) + length l.keys ≤ deque_capacity l.self.notes + l.key-index;
}
