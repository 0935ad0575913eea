use Rattle.drill_script.proofs.Ends.{never, once}
use Rattle.drill_script.proofs.laws.breaks_once.Goals as goal

pub returns-clause-never : goal.returns-clause-never
returns-clause-never c = never

pub returns-clause-once : goal.returns-clause-once
returns-clause-once c = once
