use Rattle.section_steps.proofs.OfSides.{flush, rotate}
use Rattle.section_steps.proofs.sides.a_flush_is_a_call.Goals as goal

pub returns : goal.returns
returns g c = record {
  flush = λ at old new items result stands says. flush at old new items stands result says;
  rotate = λ at old new items result stands says. rotate at old new items stands result says;
}
