use Rattle.conn_core.proofs.Calls.{quit-call}
use Rattle.conn_core.proofs.conn.Conn.quit.Goals as goal

pub returns-clause-stands : goal.returns-clause-stands
returns-clause-stands c = λ options unread h st. quit-call options c.args.self.now _ unread h st (cc) (rw (← c.self.view_is) c.quit.ensures)
