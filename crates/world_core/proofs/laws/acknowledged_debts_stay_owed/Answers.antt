use Rattle.world_core.proofs.RecoveredNotes.{still_owes}
use Rattle.world_core.proofs.laws.acknowledged_debts_stay_owed.Goals as goal

pub returns : goal.returns
returns c = still_owes
