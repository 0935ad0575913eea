-- The number, and the flush of the intake's tape.
use Rattle.std.proofs.Common.{refl, inl, inr}
use Rattle.world_core.specs.Steps.{seal_events, seal_view}
use Rattle.world_core.specs.declared.step.Step.TheVariants.{Seal}
use Rattle.world_core.proofs.Results.{if_err, if_err_is}
use Rattle.world_core.proofs.TapeSteps.{barred_by, failed_by, pushed, seal_reports, took_by}
use Rattle.world_core.proofs.stations.Stations.seal.Goals as goal

pub returns-in_default-clause-err : goal.returns-in_default-clause-err
returns-in_default-clause-err g c = λ past stands.
    barred_by Seal past _ c.args.self.now (inl (refl, λ number. c.in_default.ensures.none past stands number)) stands

pub returns-in_err-outputs-clause-err : goal.returns-in_err-outputs-clause-err
returns-in_err-outputs-clause-err g c = λ past stands.
    if_err c.from_residual.result _ _ c.from_residual.ensures.1
    (λ fault memory. barred_by Seal past fault c.args.self.now
    (inr (memory, (c.in-Some.number, c.in-Some.ensures.some past stands))) stands)

pub returns-in_err-seal_number-clause-err : goal.returns-in_err-seal_number-clause-err
returns-in_err-seal_number-clause-err g c = λ past stands.
    let sealable = c.in-Some.ensures.some past stands in
    if_err_is c.from_residual-in_err-seal_number.result _ _ c.from_residual-in_err-seal_number.ensures.1
    (failed_by Seal past _ _ c.seal_number.new.self (c.in-Some.number, sealable, refl)
    (c.in_err-seal_number.ensures.err past stands sealable))

pub returns-clause-ok : goal.returns-clause-ok
returns-clause-ok g c = λ past stands.
    let sealable = c.in-Some.ensures.some past stands in
    let did = c.in_ok-seal_number.ensures.ok past stands sealable in
    took_by Seal past past (seal_events c.in-Some.number) seal_view _ c.seal_number.new.self
    (c.in-Some.number, sealable, refl) did
    (seal_reports did.later c.mark-mark.result _ c.seal_number.new.self did.stands c.mark-mark.ensures
    (pushed _ _ _ c.push_reserved.ensures.items c.in_ok-outputs.ensures.items))
