use Rattle.std.proofs.Common.{take}
use Rattle.std.specs.List.{AllZip}
use Rattle.world_core.specs.Halting.{IsLeftOf}
use Rattle.world_core.proofs.halt.left_each.Given as goal

-- the choice has left the disks of each so far
abbrev pub invariant-loop-peer : goal.invariant-loop-peer
invariant-loop-peer l = AllZip (IsLeftOf l.choice) (take l.peer-index l.peers) l.disks.items
