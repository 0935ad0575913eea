use Rattle.std.proofs.Common.{subst}
use Rattle.std.specs.Io.KnownBytes.{Appends}
use Rattle.status.specs.Metrics.{peer_text, sample_text}
use Rattle.status.specs.Prefixes.{AppendsPrefix}
use Rattle.status.proofs.Parts.{next_prefix, next_whole, on_err}
use Rattle.status.proofs.Same.{same_of_3}
use Rattle.status.proofs.metrics.put_samples.Goals as goal

pub returns-in_err-put_sample-clause-prefix : goal.returns-in_err-put_sample-clause-prefix
returns-in_err-put_sample-clause-prefix g c =
    let contents = g.W.Write.contents in
    let e = same_of_3 sample_text _ _ _ _ _ _ c.name_of.ensures c.bytes.ensures.value c.value_of.ensures in
    on_err c.from_residual.result (
    next_prefix (contents c.args.out.now) (contents c.loop-peer.out) (contents c.put_sample.new.out)
    (peer_text c.args.family) c.args.peers.now
    c.loop-peer.peer-index c.peer-item.result c.loop-peer-test.true c.peer-item.is
    c.loop-peer.invariant
    (subst (AppendsPrefix (contents c.loop-peer.out) (contents c.put_sample.new.out)) e
    c.in_err-put_sample.ensures.prefix))

pub loop-peer-preserved : goal.loop-peer-preserved
loop-peer-preserved g c =
    let contents = g.W.Write.contents in
    let e = same_of_3 sample_text _ _ _ _ _ _ c.name_of.ensures c.bytes.ensures.value c.value_of.ensures in
    next_whole (contents c.args.out.now) (contents c.loop-peer.out) (contents c.put_sample.new.out)
    (peer_text c.args.family) c.args.peers.now
    c.loop-peer.peer-index c.peer-item.result c.loop-peer-test.true c.peer-item.is
    c.loop-peer.invariant
    (subst (Appends (contents c.loop-peer.out) (contents c.put_sample.new.out)) e c.in_ok-put_sample.ensures.whole)
