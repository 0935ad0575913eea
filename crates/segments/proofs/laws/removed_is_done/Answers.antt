use Rattle.segments.specs.StopLaws.{removed_is_done}
use Rattle.segments.proofs.laws.removed_is_done.Goals as goal

pub returns : goal.returns
returns c = removed_is_done
