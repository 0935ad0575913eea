use Rattle.sections.proofs.Lines.{lines_stand}
use Rattle.sections.proofs.acknowledged_lines_stand.Goals as goal

pub returns : goal.returns
returns c = lines_stand
