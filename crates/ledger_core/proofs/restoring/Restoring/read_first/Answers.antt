use Rattle.std.proofs.Common.{◌≡◌, ◌∙◌, inr, ap, sym, refl, Err}
use Rattle.std.proofs.lemmas.Result.{err_from_is_err_and}
use Rattle.ledger_core.specs.declared.ledger.ReplayFault.TheVariants.{Refused}
use Rattle.ledger_core.specs.Ledger.{state_of}
use Rattle.ledger_core.proofs.Replayed.{err-apart}
use Rattle.ledger_core.proofs.Taking.{first-base, first-stops, first-whole}
use Rattle.ledger_core.proofs.restoring.Restoring.read_first.Goals as goal

pub returns-in_err-apply_payload-clause-refused : goal.returns-in_err-apply_payload-clause-refused
returns-in_err-apply_payload-clause-refused c = λ is told e.
    let p = err_from_is_err_and c.from_residual.result c.from_residual.ensures.1 in
    let fault : c.in_err-apply_payload.field-0.0 ≡ Refused told = sym p.2 ∙ err-apart (sym p.1 ∙ e) in
    first-stops c.args.payload.now (state_of c.args.self.now.ledger) c.in_default.ensures.none is
    (c.in_err-apply_payload.ensures.refused told (ap Err fault)).1

pub returns-in_default-clause-reads : goal.returns-in_default-clause-reads
returns-in_default-clause-reads c = λ is.
    inr (first-whole c.args.payload.now (state_of c.args.self.now.ledger) (state_of c.apply_payload.new.self)
    c.in_default.ensures.none is c.in_ok-apply_payload.ensures.ok)

pub returns-clause-reads : goal.returns-clause-reads
returns-clause-reads c = λ is.
    first-base c.args.payload.now c.in-Some.base (state_of c.of_base.result) c.in-Some.ensures.some.0
    c.in-Some.ensures.some.1 (c.if-not-is_sound.ensures.0 refl) c.of_base.ensures.state
