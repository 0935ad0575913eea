use Rattle.section_steps.proofs.OfFronts.{shed}
use Rattle.section_steps.proofs.fronts.each_shed_debt_is_noted.Goals as goal

pub returns : goal.returns
returns g c at old new before after result stands says = shed _ at old new stands before after result says
