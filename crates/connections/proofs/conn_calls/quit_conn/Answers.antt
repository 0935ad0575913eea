-- A connection that is to quit.
use Rattle.conn_core.specs.History.{Leave}
use Rattle.connections.proofs.Calls.{outside_nothing}
use Rattle.connections.proofs.conn_calls.quit_conn.Goals as goal

pub returns : goal.returns
returns c = outside_nothing _ _ Leave (λ options unread h. unread) tt c.quit.ensures.stands
