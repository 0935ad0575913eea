use Rattle.std.proofs.Common.{ap, ◌∙◌}
use Rattle.std.specs.Prelude.{option_map}
use Rattle.ledger_core.specs.State.{Owing}
use Rattle.conn_core.proofs.Calls.{state-of}
use Rattle.conn_core.proofs.Public.{first_wanted-is, wanted_number-is}
use Rattle.conn_core.proofs.conn.Conn.wanted.Goals as goal

pub returns-clause-value : goal.returns-clause-value
returns-clause-value c = λ options unread h st.
    c.wanted.ensures ∙ first_wanted-is options _ h (state-of options _ unread h (rw (← c.self.view_is) at st))

pub returns-clause-key : goal.returns-clause-key
returns-clause-key c = λ options unread h st.
    let stands = state-of options _ unread h (rw (← c.self.view_is) at st) in
    ap (option_map (λ (debt : Owing). debt.0)) (c.wanted.ensures ∙ first_wanted-is options _ h stands)
    ∙ wanted_number-is options _ h stands
