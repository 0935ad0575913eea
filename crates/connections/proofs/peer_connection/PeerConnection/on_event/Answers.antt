-- It stays as it is.
use Rattle.connections.proofs.Calls.{same_nothing}
use Rattle.connections.proofs.peer_connection.PeerConnection.on_event.Goals as goal

pub returns-in-Ok-None : goal.returns-in-Ok-None
returns-in-Ok-None c = same_nothing _

pub returns-else-self : goal.returns-else-self
returns-else-self c = same_nothing _
