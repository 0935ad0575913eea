-- The machine stays as it is.
use Rattle.connections.proofs.Calls.{same_nothing}
use Rattle.connections.proofs.peer_connection.PeerConnection.tick_session.Goals as goal

pub returns-else-not-self : goal.returns-else-not-self
returns-else-not-self c = same_nothing _
