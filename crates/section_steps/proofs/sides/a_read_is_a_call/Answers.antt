use Rattle.section_steps.proofs.OfSides.{read}
use Rattle.section_steps.proofs.sides.a_read_is_a_call.Goals as goal

pub returns : goal.returns
returns g c at old new items stands says = read at old new items stands says
