use Rattle.std.proofs.Common.{◌≡◌, sym, ◌∙◌, true}
use Rattle.std.specs.Prelude.{is_some}
use Rattle.conn_core.specs.History.{needed}
use Rattle.conn_core.proofs.Calls.{state-of, handed-call, needed-none, needed-some}
use Rattle.conn_core.proofs.Public.{needed-is}
use Rattle.conn_core.proofs.conn.Conn.article.Goals as goal

pub returns-then-not-needs-clause-refuses : goal.returns-then-not-needs-clause-refuses
returns-then-not-needs-clause-refuses c = λ options unread h st.
    needed-none _ _ _ (sym c.needs.ensures ∙ c.if-not-needs.true) (needed-is options _ h c.args.key (state-of options _ unread h (rw (← c.self.view_is) at st)))

pub returns-in-Err-clause-refuses : goal.returns-in-Err-clause-refuses
returns-in-Err-clause-refuses c = λ options unread h st.
    needed-some _ _ _ (sym c.needs.ensures ∙ c.if-not-needs.false) (needed-is options _ h c.args.key (state-of options _ unread h (rw (← c.self.view_is) at st)))

pub returns-clause-ok : goal.returns-clause-ok
returns-clause-ok c = λ options unread h st.
    let there : is_some (needed options h c.args.key) ≡ true =
    needed-some _ _ _ (sym c.needs.ensures ∙ c.if-not-needs.false) (needed-is options _ h c.args.key (state-of options _ unread h (rw (← c.self.view_is) at st))) in
    let done = c.in_default.ensures.ok in
    (there, (done.0, done.1, handed-call options c.args.self.now _ unread h st (cc) c.args.key done.0 there (rw (← c.self.view_is) done.2)))
