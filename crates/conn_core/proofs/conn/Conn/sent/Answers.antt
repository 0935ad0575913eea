use Rattle.conn_core.proofs.Calls.{sent-call}
use Rattle.conn_core.proofs.conn.Conn.sent.Goals as goal

pub returns-clause-stands : goal.returns-clause-stands
returns-clause-stands c = λ options unread h st. sent-call options c.args.self.now _ unread h st (cc) c.args.count c.requires (rw (← c.self.view_is) c.sent.ensures)
