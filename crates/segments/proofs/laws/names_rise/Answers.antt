use Rattle.segments.specs.NameLaws.{names_rise}
use Rattle.segments.proofs.laws.names_rise.Goals as goal

pub returns : goal.returns
returns c = names_rise
