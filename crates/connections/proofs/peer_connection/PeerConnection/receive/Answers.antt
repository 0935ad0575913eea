-- One receipt after another.
use Rattle.connections.proofs.Calls.{nothing_on, nothing_same, same_nothing}
use Rattle.connections.proofs.peer_connection.PeerConnection.receive.Goals as goal

pub loop-init : goal.loop-init
loop-init c = same_nothing _

pub returns-in-Later : goal.returns-in-Later
returns-in-Later c = nothing_on _ _ _ c.loop.invariant c.receive_once.ensures

pub returns-in-Closed : goal.returns-in-Closed
returns-in-Closed c = nothing_same _ _ _ (nothing_on _ _ _ c.loop.invariant c.receive_once.ensures) c.end.ensures

pub returns-in-Fault : goal.returns-in-Fault
returns-in-Fault c = nothing_same _ _ _ (nothing_on _ _ _ c.loop.invariant c.receive_once.ensures) c.fail_link.ensures

pub loop-preserved : goal.loop-preserved
loop-preserved c = nothing_on _ _ _ c.loop.invariant c.receive_once.ensures
