use Rattle.section_steps.proofs.OfFronts.{fail}
use Rattle.section_steps.proofs.fronts.a_broken_tape_cuts_off.Goals as goal

pub returns : goal.returns
returns g c at old new has_broken stands broken says = fail _ at old new stands has_broken broken says
