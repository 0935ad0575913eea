-- The machine stays as it is.
use Rattle.connections.proofs.Calls.{nothing_same, same_nothing}
use Rattle.connections.proofs.peer_connection.PeerConnection.tell_refusal.Goals as goal

pub returns-in-Some-failure : goal.returns-in-Some-failure
returns-in-Some-failure c = nothing_same _ _ _ (same_nothing _) c.end.ensures

pub returns-in_default-failure : goal.returns-in_default-failure
returns-in_default-failure c = same_nothing _
