-- The note that owes a debt, read back.
use Rattle.std.proofs.Common.{◌≡◌, ℕ, sym, ap, ◌∙◌, subst}
use Rattle.ledger_core.specs.Base.{owe}
use Rattle.ledger_core.specs.Spelling.{spelling}
use Rattle.recovery.specs.Texts.{IsAt}
use Rattle.recovery.proofs.tape.Tape.note_at.Goals as goal

pub returns-then-spells_owe-clause-note : goal.returns-then-spells_owe-clause-note
returns-then-spells_owe-clause-note g c = λ h stands debt found.
    let spot = c.requires.spot in
    let same : spot.debt ≡ debt = cc (sym spot.found ∙ found) in
    let at : IsAt c.args.self.now.ledger c.args.key c.args.spot spot.debt =
    record { is = spot.is; token_len = spot.token_len; id_len = spot.id_len; stands = spot.stands } in
    c.in-Ok.ensures.note h debt stands (subst (IsAt c.args.self.now.ledger c.args.key c.args.spot) same at)

pub returns-in-Err-clause-cause : goal.returns-in-Err-clause-cause
returns-in-Err-clause-cause g c = λ h stands told.
    let spot = c.requires.spot in
    c.in-Err.ensures.cause h spot.debt stands
    (record { is = spot.is; token_len = spot.token_len; id_len = spot.id_len; stands = spot.stands }) told

pub returns-else-spells_owe-clause-cause : goal.returns-else-spells_owe-clause-cause
returns-else-spells_owe-clause-cause g c = λ h stands told.
    let spot = c.requires.spot in
    let read = c.in-Ok.ensures.note h spot.debt stands
    (record { is = spot.is; token_len = spot.token_len; id_len = spot.id_len; stands = spot.stands }) in
    let same : spelling (owe spot.debt) ≡ spelling (owe (c.args.key, spot.debt.1)) =
    ap (λ (n : ℕ). spelling (owe (n, spot.debt.1))) spot.is in
    let spells = c.spells_owe.ensures.1 (record {
      token = spot.debt.1.0;
      id = spot.debt.1.1;
      spelled = c.deref.ensures.value ∙ (read ∙ same);
      token_is = sym spot.token_len;
      id_is = sym spot.id_len;
    }) in
    absurd (cc (spells, c.if-spells_owe.false))
