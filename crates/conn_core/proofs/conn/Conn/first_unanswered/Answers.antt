use Rattle.std.proofs.Common.{◌∙◌}
use Rattle.conn_core.proofs.Calls.{state-of}
use Rattle.conn_core.proofs.Public.{unanswered-is}
use Rattle.conn_core.proofs.conn.Conn.first_unanswered.Goals as goal

pub returns : goal.returns
returns c = λ options unread h st.
    c.unanswered.ensures ∙ unanswered-is options _ h (state-of options _ unread h (rw (← c.self.view_is) at st))
