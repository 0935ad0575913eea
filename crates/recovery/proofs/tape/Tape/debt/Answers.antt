-- The debt of a key, read back.
use Rattle.std.proofs.Common.{Err, ◌==◌, ◌≡◌, List, [], ◌∷◌, Bool, true, false, cond, Some, sym, ap, ◌∙◌, subst}
use Rattle.std.specs.Prelude.{find}
use Rattle.ledger_core.specs.Base.{owe, owes}
use Rattle.ledger_core.specs.Note.{AreNotes, IsNote}
use Rattle.ledger_core.specs.State.{Owing}
use Rattle.recovery.specs.Words.{ledger_of}
use Rattle.recovery.specs.declared.fault.TapeFault.TheVariants.{Disk}
use Rattle.recovery.proofs.Rotates.{owes_notes}
use Rattle.recovery.proofs.tape.Tape.debt.Goals as goal

found-note : (p : Owing → Bool) (b : Bool) (first debt : Owing) (rest : List Owing) → IsNote (owe first)
    → (find p rest ≡ Some debt → IsNote (owe debt)) → cond b (Some first) (find p rest) ≡ Some debt → IsNote (owe debt)
found-note p true first debt rest is others found =
    let same : first ≡ debt = cc found in
    subst (λ (d : Owing). IsNote (owe d)) same is
found-note p false first debt rest is others found = others found

-- a debt that is found is one that can be noted
note_found : (p : Owing → Bool) (debts : List Owing) (debt : Owing) → AreNotes (owes debts) → find p debts ≡ Some debt
    → IsNote (owe debt)
note_found p [] debt are found = cc found
note_found p (first ∷ debts) debt are found =
    found-note p (p first) first debt debts are.0 (λ f. note_found p debts debt are.1 f) found

pub returns-in-Ok-debt_of-clause-debt : goal.returns-in-Ok-debt_of-clause-debt
returns-in-Ok-debt_of-clause-debt g c = λ h stands.
    let tape = c.args.self.now in
    let spot = c.in-Some.ensures.spot in
    let note = note_found (λ (o : Owing). o.0 == c.args.key) (ledger_of tape).debts spot.debt
    (owes_notes tape h stands) spot.found in
    let read = c.deref.ensures.value ∙ c.in-Ok.ensures.note h spot.debt stands
    (record { is = spot.is; token_len = spot.token_len; id_len = spot.id_len; stands = spot.stands }) in
    let said = c.in-Ok-debt_of.ensures.debt spot.debt note read spot.is (sym spot.token_len) (sym spot.id_len) in
    ap (λ (d : Owing). Some d) said.0 ∙ sym spot.found

pub returns-clause-cause : goal.returns-clause-cause
returns-clause-cause g c = λ h stands told.
    let tape = c.args.self.now in
    let spot = c.in-Some.ensures.spot in
    let note = note_found (λ (o : Owing). o.0 == c.args.key) (ledger_of tape).debts spot.debt
    (owes_notes tape h stands) spot.found in
    let read = c.deref.ensures.value ∙ c.in-Ok.ensures.note h spot.debt stands
    (record { is = spot.is; token_len = spot.token_len; id_len = spot.id_len; stands = spot.stands }) in
    let said = c.in-Err-debt_of.ensures.debt spot.debt note read spot.is (sym spot.token_len) (sym spot.id_len) in
    let fault : c.in-Err-debt_of.fault ≡ Disk = cc told in
    absurd (said.1 (ap Err fault))

pub returns-in-Err-clause-cause : goal.returns-in-Err-clause-cause
returns-in-Err-clause-cause g c = λ h stands told.
    let spot = c.in-Some.ensures.spot in
    let fault : c.in-Err.fault ≡ Disk = cc told in
    c.in-Err.ensures.cause h spot.debt stands
    (record { is = spot.is; token_len = spot.token_len; id_len = spot.id_len; stands = spot.stands }) (ap Err fault)
