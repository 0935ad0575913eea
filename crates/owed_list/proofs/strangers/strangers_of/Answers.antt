use Rattle.std.proofs.Common.{ℕ, Global, Vec, map}
use Rattle.std.specs.Vec.{vec_items}
use Rattle.std.proofs.lemmas.List.{take_all}
use Rattle.feed_conf.specs.declared.conf.PeerConf.{PeerConf}
use Rattle.owed_list.specs.Names.{names_in}
use Rattle.owed_list.proofs.Files.{strangers_end, strangers_step}
use Rattle.owed_list.proofs.strangers.strangers_of.Goals as goal

pub loop-file-preserved : goal.loop-file-preserved
loop-file-preserved c =
    strangers_step (vec_items {X = ℕ} {Z = Global}) c.args.files.now c.loop-file.file-index c.file-item.result
    c.deref.result.now (names_in c.in_ok-known.known) (names_in c.loop-file.names) (names_in c.add_stranger.new.names)
    c.loop-file-test.true c.file-item.is c.deref.ensures.value c.loop-file.invariant c.in_ok-add_stranger.ensures

pub returns : goal.returns
returns c =
    let files = c.args.files.now in
    let index = c.loop-file.file-index in
    strangers_end (vec_items {X = ℕ} {Z = Global}) files index (names_in c.loop-file.names)
    (names_in c.in_ok-known.known) (map (λ (peer : PeerConf). peer.name) c.args.peers.now)
    (take_all index files c.loop-file-test.false) c.in_ok-known.ensures c.loop-file.invariant
