use Rattle.std.proofs.Common.{length, ◌+◌, ◌-◌, ◌≤◌}
use Rattle.peer_queue.specs.DebtPlace.{unheld}
use Rattle.peer_queue.specs.Shed.{owed_without}
use Rattle.peer_queue.specs.Words.{ledger_of, places_of}
use Rattle.peer_queue.proofs.Sheds.{IsPrefix}
use Rattle.peer_queue.proofs.station.Station.shed_set.Given as goal

abbrev pub invariant-loop-next : goal.invariant-loop-next
invariant-loop-next g l = record {
  prefix : IsPrefix l.limit (owed_without (ledger_of l.self)) (places_of l.self) l.set.items l.next l.owed;
  few : length l.set.items ≤ l.room + 1;
}

abbrev pub decreases-loop-next : goal.decreases-loop-next
decreases-loop-next g l = length (unheld (places_of l.self)) - length l.set.items
