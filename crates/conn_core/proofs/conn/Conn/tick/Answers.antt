use Rattle.conn_core.proofs.Calls.{tick-call}
use Rattle.conn_core.proofs.conn.Conn.tick.Goals as goal

pub returns-clause-stands : goal.returns-clause-stands
returns-clause-stands c = λ options unread h st. tick-call options c.args.self.now _ unread h st (cc) c.args.now (rw (← c.self.view_is) c.tick.ensures)
