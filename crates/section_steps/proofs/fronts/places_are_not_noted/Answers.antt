use Rattle.section_steps.proofs.OfFronts.{keep, move}
use Rattle.section_steps.proofs.fronts.places_are_not_noted.Goals as goal

pub returns : goal.returns
returns g c = record {
  keeps = λ at old new stands says. keep _ at old new stands says;
  puts_off = λ at old new result stands says. move _ at old new stands result says;
  gives_back = λ at old new result stands says. move _ at old new stands result says;
}
