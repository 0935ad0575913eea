use Rattle.conf_text.proofs.Adding.{one-more}
use Rattle.conf_text.proofs.file.add_each.Goals as goal

pub loop-peer-preserved : goal.loop-peer-preserved
loop-peer-preserved c =
    one-more c.args.peers.now c.loop-peer.peer-index c.peer-item.result c.args.out.now.items c.loop-peer.out.items
    c.add_peer.new.out.items c.loop-peer-test.true c.peer-item.is c.loop-peer.invariant c.in_ok-add_peer.ensures
