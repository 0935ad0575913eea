-- The machine stays as it is.
use Rattle.connections.proofs.Calls.{same_nothing}
use Rattle.connections.proofs.peer_connection.PeerConnection.settle_login.Goals as goal

pub returns : goal.returns
returns c = same_nothing _

pub returns-2 : goal.returns-2
returns-2 c = same_nothing _
