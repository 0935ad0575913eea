use Rattle.sections.proofs.Lines.{sealed_stand}
use Rattle.sections.proofs.sealed_lines_stand.Goals as goal

pub returns : goal.returns
returns c = sealed_stand
