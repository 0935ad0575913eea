use Rattle.world_core.proofs.LineDebts.{lines_read_again}
use Rattle.world_core.proofs.laws.line_read_again.Goals as goal

pub returns : goal.returns
returns c = lines_read_again
