use Rattle.status.specs.Pieces.{octet_text}
use Rattle.status.proofs.Loops.{prefix_at, whole_at}
use Rattle.status.proofs.Parts.{on_err}
use Rattle.status.proofs.pieces.put_escaped.Goals as goal

pub returns-in_err-put_octet-clause-prefix : goal.returns-in_err-put_octet-clause-prefix
returns-in_err-put_octet-clause-prefix g c =
    let contents = g.W.Write.contents in
    on_err c.from_residual.result (
    prefix_at (contents c.args.out.now) (contents c.loop-octet.out) (contents c.put_octet.new.out)
    octet_text c.args.text.now c.loop-octet.octet-index 0 c.loop-octet-test.true
    c.loop-octet.invariant c.in_err-put_octet.ensures.prefix)

pub loop-octet-preserved : goal.loop-octet-preserved
loop-octet-preserved g c =
    let contents = g.W.Write.contents in
    whole_at (contents c.args.out.now) (contents c.loop-octet.out) (contents c.put_octet.new.out)
    octet_text c.args.text.now c.loop-octet.octet-index 0 c.loop-octet-test.true
    c.loop-octet.invariant c.in_ok-put_octet.ensures.whole
