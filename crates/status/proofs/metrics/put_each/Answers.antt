use Rattle.status.specs.Metrics.{family_text}
use Rattle.status.proofs.Loops.{prefix_at, whole_at}
use Rattle.status.proofs.Parts.{on_err}
use Rattle.status.proofs.metrics.put_each.Goals as goal

pub returns-in_err-put_family-clause-prefix : goal.returns-in_err-put_family-clause-prefix
returns-in_err-put_family-clause-prefix g c =
    let contents = g.W.Write.contents in
    on_err c.from_residual.result (
    prefix_at (contents c.args.out.now) (contents c.loop-family.out) (contents c.put_family.new.out)
    (family_text c.args.peers.now) c.args.families.now c.loop-family.family-index _ c.loop-family-test.true
    c.loop-family.invariant c.in_err-put_family.ensures.prefix)

pub loop-family-preserved : goal.loop-family-preserved
loop-family-preserved g c =
    let contents = g.W.Write.contents in
    whole_at (contents c.args.out.now) (contents c.loop-family.out) (contents c.put_family.new.out)
    (family_text c.args.peers.now) c.args.families.now c.loop-family.family-index _ c.loop-family-test.true
    c.loop-family.invariant c.in_ok-put_family.ensures.whole
