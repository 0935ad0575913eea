use Rattle.segments.specs.StopLaws.{place_holds}
use Rattle.segments.proofs.laws.place_holds.Goals as goal

pub returns : goal.returns
returns c = place_holds
