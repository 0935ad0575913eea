use Rattle.sections.proofs.Lines.{lines_are_kept}
use Rattle.sections.proofs.acknowledged_lines_are_kept.Goals as goal

pub returns : goal.returns
returns c = lines_are_kept
