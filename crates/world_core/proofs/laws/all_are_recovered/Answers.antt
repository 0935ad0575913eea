use Rattle.world_core.proofs.RecoveredNotes.{recover_all}
use Rattle.world_core.proofs.laws.all_are_recovered.Goals as goal

pub returns : goal.returns
returns c = recover_all
