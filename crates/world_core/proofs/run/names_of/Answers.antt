-- One more name at each turn.
use Rattle.std.proofs.Common.{arith}
use Rattle.world_core.proofs.PeerCounts.{name_more}
use Rattle.world_core.proofs.run.names_of.Goals as goal

pub loop-peer-preserved : goal.loop-peer-preserved
loop-peer-preserved c =
    let l = c.loop-peer in
    name_more (λ peer. peer.conf.name) (λ peer. peer.name) c.args.peers.now l.peer-index c.peer-item.result
    l.totals.items c.push.new.self.items _
    c.in_ok-push.ensures.items c.in_ok-name.ensures.cases c.peer-item.is (omega (arith, c.loop-peer-test.true))
    l.invariant
