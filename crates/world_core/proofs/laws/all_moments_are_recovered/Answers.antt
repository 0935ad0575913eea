use Rattle.world_core.proofs.Moments.{moments_recovered}
use Rattle.world_core.proofs.laws.all_moments_are_recovered.Goals as goal

pub returns : goal.returns
returns c = moments_recovered
