use Rattle.std.proofs.Common.{◌∙◌}
use Rattle.conn_core.proofs.Calls.{state-of}
use Rattle.conn_core.proofs.Public.{output-is}
use Rattle.conn_core.proofs.conn.Conn.output.Goals as goal

pub returns-clause-stands : goal.returns-clause-stands
returns-clause-stands c = λ options unread h st. c.output.ensures ∙ output-is options _ h (state-of options _ unread h (rw (← c.self.view_is) at st))
