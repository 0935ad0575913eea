-- A second passes.
use Rattle.connections.proofs.Calls.{nothing_on}
use Rattle.connections.proofs.peer_connection.PeerConnection.tick.Goals as goal

pub returns : goal.returns
returns c = nothing_on _ _ _ c.tick_connecting.ensures c.tick_session.ensures
