use Rattle.std.proofs.Common.{drop}
use Rattle.peer_queue.proofs.Unheld.{IsLeft}
use Rattle.peer_queue.proofs.place_index.PlaceIndex.remove_all.Given as goal

abbrev pub invariant-loop-key : goal.invariant-loop-key
invariant-loop-key l = IsLeft l.initial.self l.self l.keys (drop l.key-index l.keys)
