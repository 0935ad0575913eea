-- A receipt.
use Rattle.connections.proofs.Calls.{receipt_nothing}
use Rattle.connections.proofs.conn_calls.receive_once.Goals as goal

pub returns : goal.returns
returns c = receipt_nothing c.take_in.result _ _ _ c.take_in.ensures.stands
