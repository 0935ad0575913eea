use Rattle.funnel.specs.LineLaws.{backlog_from_funnel, backlog_once}
use Rattle.funnel.proofs.backlog_line.reads_backlog_once.Goals as goal

pub returns : goal.returns
returns c = record { once = backlog_once; funnel = backlog_from_funnel }
