use Rattle.std.proofs.Common.{sym, ◌∙◌}
use Rattle.conn_core.proofs.Calls.{state-of, offered-call}
use Rattle.conn_core.proofs.Public.{ready-is}
use Rattle.conn_core.proofs.conn.Conn.offer.Goals as goal

pub returns-clause-ok : goal.returns-clause-ok
returns-clause-ok c = λ options unread h st.
    offered-call options c.args.self.now _ unread h st (cc) c.args.debt (rw (← c.self.view_is) (sym c.in-Yes.ensures)) (rw (← c.self.view_is) c.in_default.ensures.ok)

pub returns-in-Err-clause-refuses : goal.returns-in-Err-clause-refuses
returns-in-Err-clause-refuses c = λ options unread h st.
    sym (ready-is options _ h (state-of options _ unread h (rw (← c.self.view_is) at st))) ∙ sym c.in-Yes.ensures

pub returns-in-Busy-clause-refuses : goal.returns-in-Busy-clause-refuses
returns-in-Busy-clause-refuses c = λ options unread h st.
    sym (ready-is options _ h (state-of options _ unread h (rw (← c.self.view_is) at st))) ∙ sym c.in-Busy.ensures

pub returns-in-Shut-clause-refuses : goal.returns-in-Shut-clause-refuses
returns-in-Shut-clause-refuses c = λ options unread h st.
    sym (ready-is options _ h (state-of options _ unread h (rw (← c.self.view_is) at st))) ∙ sym c.in-Shut.ensures
