use Rattle.world_core.proofs.AcknowledgedOverRuns.{events_stay}
use Rattle.world_core.proofs.laws.acknowledged_notes_stay.Goals as goal

pub returns : goal.returns
returns c = events_stay
