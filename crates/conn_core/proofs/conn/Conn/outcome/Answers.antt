use Rattle.conn_core.proofs.Calls.{takes-call}
use Rattle.conn_core.proofs.conn.Conn.outcome.Goals as goal

pub returns-clause-stands : goal.returns-clause-stands
returns-clause-stands c = λ options unread h st. takes-call options c.args.self.now _ unread h st (cc) c.outcome.result (rw (← c.self.view_is) c.outcome.ensures)
