use Rattle.section_steps.proofs.OfFronts.{learn}
use Rattle.section_steps.proofs.fronts.a_flush_is_learnt.Goals as goal

pub returns : goal.returns
returns g c at old new flushed result stands there says = learn _ at old new stands flushed result there says
