use Rattle.ledger_core.specs.ShapeLaws.{shape-counts, shape-fits, shape-lacks, shape-next, shape-old, shape-overflows}
use Rattle.ledger_core.specs.ShapeLaws.{shape-steps}
use Rattle.ledger_core.proofs.shape.shape_tells.Goals as goal

pub returns-clause-steps : goal.returns-clause-steps
returns-clause-steps c = shape-steps

pub returns-clause-fits : goal.returns-clause-fits
returns-clause-fits c = shape-fits

pub returns-clause-old : goal.returns-clause-old
returns-clause-old c = shape-old

pub returns-clause-lacks : goal.returns-clause-lacks
returns-clause-lacks c = shape-lacks

pub returns-clause-overflows : goal.returns-clause-overflows
returns-clause-overflows c = shape-overflows

pub returns-clause-next : goal.returns-clause-next
returns-clause-next c = shape-next

pub returns-clause-counts : goal.returns-clause-counts
returns-clause-counts c = shape-counts
