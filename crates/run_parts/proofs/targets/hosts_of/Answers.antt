use Rattle.run_parts.proofs.TargetLists.{hosts_step}
use Rattle.run_parts.proofs.targets.hosts_of.Goals as goal

pub loop-peer-preserved : goal.loop-peer-preserved
loop-peer-preserved c =
    hosts_step c.args.peers.now c.loop-peer.peer-index c.peer-item.result c.loop-peer.hosts.items
    c.in_ok-host_of.field-0
    c.push.new.self.items c.loop-peer-test.true c.peer-item.is c.loop-peer.invariant
    (search c.in_ok-host_of.ensures) (search c.in_ok-push.ensures.items)
