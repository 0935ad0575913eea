use Rattle.world_core.proofs.AcknowledgedOverRuns.{all_stay}
use Rattle.world_core.proofs.laws.all_stay_acknowledged.Goals as goal

pub returns : goal.returns
returns c = all_stay
