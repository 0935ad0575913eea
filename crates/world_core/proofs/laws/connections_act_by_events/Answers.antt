use Rattle.world_core.proofs.ConnectionEvents.{handing_so, outcomes_so, put_back_so}
use Rattle.world_core.proofs.laws.connections_act_by_events.Goals as goal

pub returns : goal.returns
returns c = record { handing = handing_so; outcomes = outcomes_so; unchanged = put_back_so }
