-- A connection that breaks.
use Rattle.connections.proofs.Articles.{breaks}
use Rattle.connections.proofs.conn_calls.break_conn.Goals as goal

pub returns : goal.returns
returns c = breaks _ _ c.broken.ensures.stands
