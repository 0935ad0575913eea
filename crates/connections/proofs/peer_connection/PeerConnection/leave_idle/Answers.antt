-- It stays as it is.
use Rattle.connections.proofs.Calls.{same_nothing}
use Rattle.connections.proofs.peer_connection.PeerConnection.leave_idle.Goals as goal

pub returns-else-idle : goal.returns-else-idle
returns-else-idle c = same_nothing _
