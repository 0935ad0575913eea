use Rattle.section_steps.proofs.OfSides.{pull}
use Rattle.section_steps.proofs.sides.each_note_put_is_pulled.Goals as goal

pub returns : goal.returns
returns g c at old new items left stands says popped = pull at old new items stands left says popped
