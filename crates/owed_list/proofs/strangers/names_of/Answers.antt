use Rattle.std.proofs.lemmas.List.{take_all}
use Rattle.feed_conf.specs.declared.conf.PeerConf.{PeerConf}
use Rattle.owed_list.specs.Names.{names_in}
use Rattle.owed_list.proofs.Files.{names_end, names_step}
use Rattle.owed_list.proofs.strangers.names_of.Goals as goal

pub loop-peer-preserved : goal.loop-peer-preserved
loop-peer-preserved c =
    names_step (λ (peer : PeerConf). peer.name) c.args.peers.now c.loop-peer.peer-index c.peer-item.result
    c.bytes.result.now
    (names_in c.loop-peer.names) (names_in c.add_name.new.names) c.loop-peer-test.true c.peer-item.is
    c.bytes.ensures.value c.loop-peer.invariant c.in_ok-add_name.ensures

pub returns : goal.returns
returns c =
    let peers = c.args.peers.now in
    let index = c.loop-peer.peer-index in
    names_end (λ (peer : PeerConf). peer.name) peers index (names_in c.loop-peer.names)
    (take_all index peers c.loop-peer-test.false) c.loop-peer.invariant
