use Rattle.section_steps.proofs.OfEnds.{splits}
use Rattle.section_steps.proofs.ends.a_split_begins.Goals as goal

pub returns : goal.returns
returns g c = splits
