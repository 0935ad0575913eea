use Rattle.std.proofs.Common.{length, ◌+◌, ◌-◌, ◌≤◌}
use Rattle.peer_queue.specs.DebtPlace.{unheld}
use Rattle.peer_queue.specs.Shed.{sized_without}
use Rattle.peer_queue.specs.Front.{front_shape, places_of}
use Rattle.peer_queue.proofs.Sheds.{IsPrefix}
use Rattle.peer_queue.proofs.front.Front.shed_set.Given as goal

abbrev pub invariant-loop-next : goal.invariant-loop-next
invariant-loop-next l = record {
  front : IsPrefix l.limit (sized_without (front_shape l.self).sizes) (places_of l.self) l.set.items l.next l.owed;
  few : length l.set.items ≤ l.room + 1;
}

abbrev pub decreases-loop-next : goal.decreases-loop-next
decreases-loop-next l = length (unheld (places_of l.self)) - length l.set.items
