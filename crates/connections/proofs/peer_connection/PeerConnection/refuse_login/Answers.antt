-- It breaks.
use Rattle.connections.proofs.Calls.{nothing_on}
use Rattle.connections.proofs.peer_connection.PeerConnection.refuse_login.Goals as goal

pub returns : goal.returns
returns c = nothing_on _ _ _ c.tell_refusal.ensures c.break_conn.ensures
