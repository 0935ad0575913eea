use Rattle.section_steps.proofs.OfFronts.{send}
use Rattle.section_steps.proofs.fronts.each_push_is_sent.Goals as goal

pub returns : goal.returns
returns g c at old new stands says = send _ at old new stands says
