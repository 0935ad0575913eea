use Rattle.drill_script.proofs.Once.{says_once}
use Rattle.drill_script.proofs.laws.says_once.Goals as goal

pub returns : goal.returns
returns c = says_once
