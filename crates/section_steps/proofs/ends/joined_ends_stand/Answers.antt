use Rattle.section_steps.proofs.OfEnds.{joined_left}
use Rattle.section_steps.proofs.ends.joined_ends_stand.Goals as goal

pub returns : goal.returns
returns g c = joined_left
