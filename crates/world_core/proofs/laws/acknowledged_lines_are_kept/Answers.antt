use Rattle.world_core.proofs.LineDebts.{lines_kept, lines_kept_within}
use Rattle.world_core.proofs.laws.acknowledged_lines_are_kept.Goals as goal

pub returns : goal.returns
returns c = record { after = lines_kept; within = lines_kept_within }
