-- A send.
use Rattle.connections.proofs.Calls.{send_nothing}
use Rattle.connections.proofs.conn_calls.send_once.Goals as goal

pub returns : goal.returns
returns c = send_nothing c.put_out.result _ _ (λ options unread h s. (c.put_out.ensures.stands options unread h s).0)
