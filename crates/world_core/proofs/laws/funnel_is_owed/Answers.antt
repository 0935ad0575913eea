use Rattle.world_core.proofs.FunnelOwed.{debts_acknowledged, debts_of_lines, empty_first, moments_owed, stopped_owed}
use Rattle.world_core.proofs.laws.funnel_is_owed.Goals as goal

pub returns : goal.returns
returns c = record {
  begins = empty_first;
  acknowledged = debts_acknowledged;
  of_lines = debts_of_lines;
  stopped = stopped_owed;
  within = moments_owed;
}
