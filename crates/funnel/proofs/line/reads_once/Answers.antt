use Rattle.funnel.specs.LineLaws.{line_once}
use Rattle.funnel.proofs.line.reads_once.Goals as goal

pub returns : goal.returns
returns c = line_once
