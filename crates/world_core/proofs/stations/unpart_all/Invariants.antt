use Rattle.std.proofs.Common.{◌≡◌, ◌++◌, map, take, drop}
use Rattle.world_core.specs.Stands.{unparted}
use Rattle.world_core.proofs.stations.unpart_all.Given as goal

-- each so far counts as not flushed
abbrev pub invariant-loop-peer : goal.invariant-loop-peer
invariant-loop-peer g l =
    l.peers ≡ map unparted (take l.peer-index l.initial.peers) ++ drop l.peer-index l.initial.peers
