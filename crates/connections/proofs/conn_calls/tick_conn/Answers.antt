-- A connection for which time passes.
use Rattle.conn_core.specs.History.{Tick, outside}
use Rattle.conn_core.specs.Stands.{left_behind}
use Rattle.connections.proofs.Calls.{outside_nothing}
use Rattle.connections.proofs.conn_calls.tick_conn.Goals as goal

pub returns : goal.returns
returns c =
    outside_nothing _ _ (Tick c.args.now)
    (λ options unread h. left_behind options unread (outside options h (Tick c.args.now)))
    tt c.tick.ensures.stands
