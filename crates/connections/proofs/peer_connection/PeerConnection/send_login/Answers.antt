-- The machine stays as it is.
use Rattle.connections.proofs.Calls.{same_nothing}
use Rattle.connections.proofs.peer_connection.PeerConnection.send_login.Goals as goal

pub returns-then-is_some : goal.returns-then-is_some
returns-then-is_some c = same_nothing _

pub returns-else-matches : goal.returns-else-matches
returns-else-matches c = same_nothing _
