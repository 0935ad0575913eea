use Rattle.world_core.proofs.DiskCalls.{no_other_calls}
use Rattle.world_core.proofs.laws.steps_call_no_other_disk.Goals as goal

pub returns : goal.returns
returns c = no_other_calls
