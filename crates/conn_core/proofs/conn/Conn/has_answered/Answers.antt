use Rattle.std.proofs.Common.{◌∙◌}
use Rattle.conn_core.proofs.Calls.{state-of}
use Rattle.conn_core.proofs.Public.{answered-is}
use Rattle.conn_core.proofs.conn.Conn.has_answered.Goals as goal

pub returns : goal.returns
returns c = λ options unread h st.
    c.has_answered.ensures ∙ answered-is options _ h (state-of options _ unread h (rw (← c.self.view_is) at st))
