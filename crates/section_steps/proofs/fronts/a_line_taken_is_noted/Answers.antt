use Rattle.section_steps.proofs.OfFronts.{take}
use Rattle.section_steps.proofs.fronts.a_line_taken_is_noted.Goals as goal

pub returns : goal.returns
returns g c at old new peer books mark number token id result stands says above =
    take _ at old new stands peer books mark number token id result says above
