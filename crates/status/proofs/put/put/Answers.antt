use Rattle.status.proofs.Parts.{leaves_prefix, leaves_less, on_err}
use Rattle.status.proofs.put.put.Goals as goal

pub returns-in_err-count-clause-prefix : goal.returns-in_err-count-clause-prefix
returns-in_err-count-clause-prefix g c =
    on_err c.from_residual.result (leaves_prefix _ _ _ _ _ c.loop.invariant c.in_err-count.ensures.prefix)

pub loop-preserved : goal.loop-preserved
loop-preserved g c =
    let contents = g.W.Write.contents in
    rw c.split_at.ensures.back (
    leaves_less (contents c.args.out.now) (contents c.loop.out) (contents c.put_some.new.out)
    c.args.text.now c.loop.rest.now
    c.in_ok-count.count c.loop.invariant c.in_ok-count.ensures.some)
