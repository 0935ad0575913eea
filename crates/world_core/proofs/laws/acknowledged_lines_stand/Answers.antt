use Rattle.world_core.proofs.AcknowledgedLines.{lines_stand}
use Rattle.world_core.proofs.laws.acknowledged_lines_stand.Goals as goal

pub returns : goal.returns
returns c = lines_stand
