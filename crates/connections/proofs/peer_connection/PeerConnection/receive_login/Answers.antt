-- The machine stays as it is.
use Rattle.connections.proofs.Calls.{same_nothing}
use Rattle.connections.proofs.peer_connection.PeerConnection.receive_login.Goals as goal

pub returns-in-Later : goal.returns-in-Later
returns-in-Later c = same_nothing _
