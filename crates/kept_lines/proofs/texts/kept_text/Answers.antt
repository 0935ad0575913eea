use Rattle.std.proofs.Common.{[]}
use Rattle.kept_lines.specs.Texts.{kept_of}
use Rattle.kept_lines.proofs.Joined.{joined_on}
use Rattle.kept_lines.proofs.texts.kept_text.Goals as goal

pub loop-line-preserved : goal.loop-line-preserved
loop-line-preserved c =
    joined_on (kept_of c.args.name.now) c.args.lines.now c.loop-line.line-index c.line-item.result []
    c.loop-line.text.items c.add_kept.new.text.items c.loop-line-test.true c.line-item.is c.loop-line.invariant
    (search c.in_ok-add_kept.ensures)
