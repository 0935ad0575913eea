-- One more at each turn.
use Rattle.std.proofs.Common.{arith}
use Rattle.world_core.specs.Stands.{unparted}
use Rattle.world_core.proofs.NumberKept.{changed_more}
use Rattle.world_core.proofs.stations.unpart_all.Goals as goal

pub loop-peer-preserved : goal.loop-peer-preserved
loop-peer-preserved g c =
    let loop = c.loop-peer in
    changed_more unparted c.args.peers.now loop.peers loop.peer-index c.peer-item.result
    (omega (arith, c.loop-peer-test.true)) loop.invariant
