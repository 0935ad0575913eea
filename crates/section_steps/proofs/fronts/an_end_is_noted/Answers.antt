use Rattle.section_steps.proofs.OfFronts.{finish}
use Rattle.section_steps.proofs.fronts.an_end_is_noted.Goals as goal

pub returns : goal.returns
returns g c at old new connection now outcome before after result stands says =
    finish _ at old new stands connection now outcome before after result says
