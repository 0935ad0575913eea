-- One more is reported at each turn.
use Rattle.std.proofs.Common.{arith}
use Rattle.world_core.specs.Stepped.{opened_view}
use Rattle.world_core.specs.Output.{view_of}
use Rattle.world_core.proofs.PeerCounts.{name_more}
use Rattle.world_core.proofs.restart.mark_outputs.Goals as goal

pub loop-peer-preserved : goal.loop-peer-preserved
loop-peer-preserved c =
    let l = c.loop-peer in
    name_more opened_view view_of c.args.peers.now l.peer-index c.peer-item.result l.outputs.items
    c.push.new.self.items _
    c.in_ok-push.ensures.items c.in_ok-mark_of.ensures c.peer-item.is (omega (arith, c.loop-peer-test.true)) l.invariant
