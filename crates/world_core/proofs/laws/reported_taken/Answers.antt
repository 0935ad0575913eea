use Rattle.world_core.proofs.TakenLines.{taken_acknowledged, taken_queued}
use Rattle.world_core.proofs.laws.reported_taken.Goals as goal

pub returns : goal.returns
returns c = record { step = taken_acknowledged; run = taken_queued }
