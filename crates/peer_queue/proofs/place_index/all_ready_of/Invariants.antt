use Rattle.std.proofs.Common.{◌≡◌, take}
use Rattle.peer_queue.specs.DebtPlace.{all_ready}
use Rattle.peer_queue.proofs.place_index.all_ready_of.Given as goal

abbrev pub invariant-loop-key : goal.invariant-loop-key
invariant-loop-key l = l.index ≡ all_ready (take l.key-index l.keys)
