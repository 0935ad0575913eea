-- Each peer adds its values, or is the first whose shares are crossed.
use Rattle.std.proofs.Common.{sym, refl, ◌∙◌}
use Rattle.feed_conf.specs.ReaderView.{declared_view}
use Rattle.feed_conf.proofs.Judging.{crossed, passed, more-confs}
use Rattle.feed_conf.proofs.peers.peer_confs.Goals as goal

pub returns-then-conf : goal.returns-then-conf
returns-then-conf c = λ uses t k.
    let inv = c.loop-peer.invariant uses t in
    let first =
    crossed uses c.args.outer.now c.args.peers.now c.loop-peer.peer-index c.peer-item.result c.in-Ok.conf c.loop-peer-test.true c.peer-item.is (c.in-Ok.ensures.value uses t) c.if-conf.true in
    (declared_view c.peer-item.result, sym inv.1 ∙ first, refl)

pub loop-peer-preserved : goal.loop-peer-preserved
loop-peer-preserved c = λ uses t.
    let inv = c.loop-peer.invariant uses t in
    let value = c.in-Ok.ensures.value uses t in (
      more-confs uses c.args.outer.now c.args.peers.now c.loop-peer.peer-index c.peer-item.result c.in-Ok.conf c.loop-peer.confs.items _ c.loop-peer-test.true c.peer-item.is value c.in-Ok-add_conf.ensures inv.0,
      passed uses c.args.outer.now c.args.peers.now c.loop-peer.peer-index c.peer-item.result c.in-Ok.conf c.loop-peer-test.true c.peer-item.is value c.if-conf.false ∙ inv.1,
    )
