use Rattle.std.proofs.Common.{◌≡◌, map, take}
use Rattle.world_core.specs.Stepped.{opened_view}
use Rattle.world_core.specs.Output.{view_of}
use Rattle.world_core.proofs.restart.mark_outputs.Given as goal

-- what is reported of those so far
abbrev pub invariant-loop-peer : goal.invariant-loop-peer
invariant-loop-peer l = map view_of l.outputs.items ≡ map opened_view (take l.peer-index l.peers)
