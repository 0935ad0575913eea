use Rattle.conn_core.proofs.Calls.{broken-call}
use Rattle.conn_core.proofs.conn.Conn.broken.Goals as goal

pub returns-clause-stands : goal.returns-clause-stands
returns-clause-stands c = λ options unread h st. broken-call options c.args.self.now _ unread h st (cc) (rw (← c.self.view_is) c.broken.ensures)
