use Rattle.funnel.proofs.Cuts.{cut-more, items-push}
use Rattle.funnel.proofs.cutter.LineCutter.of.Goals as goal

pub loop-line-preserved : goal.loop-line-preserved
loop-line-preserved c =
    cut-more c.args.octets.now c.loop-line.left.now c.in-Some.line.now c.in-Some.behind.now _ _ c.loop-line.invariant c.in-Some.ensures.line
    (items-push c.loop-line.lines.items c.push_back.new.self.items c.in_ok-clip.field-0 _ c.in_ok-push_back.ensures.items c.in_ok-clip.ensures)
