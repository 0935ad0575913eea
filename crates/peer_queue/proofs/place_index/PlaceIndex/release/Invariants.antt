use Rattle.std.proofs.Common.{◌≡◌, ◌+◌}
use Rattle.peer_queue.specs.DebtPlace.{held_count, released}
use Rattle.peer_queue.proofs.place_index.PlaceIndex.release.Given as goal

abbrev pub invariant-loop-key : goal.invariant-loop-key
invariant-loop-key l = record {
  counted : l.count + held_count l.connection.0 l.self ≡ held_count l.connection.0 l.initial.self;
  same : released l.connection.0 l.self ≡ released l.connection.0 l.initial.self;
}

abbrev pub decreases-loop-key : goal.decreases-loop-key
decreases-loop-key l = held_count l.connection.0 l.self
