use Rattle.sections.proofs.FunnelLines.{moments_owed, receipts_owed, stopped_owed}
use Rattle.sections.proofs.funnel_is_owed.Goals as goal

pub returns : goal.returns
returns c = record { stopped = stopped_owed; receipts = receipts_owed; moments = moments_owed }
