-- The rank of the name among the peers, and what is reported.
use Rattle.std.proofs.Common.{◌∙◌, [], ◌∷◌, refl, sym, inl, inr}
use Rattle.world_core.specs.Events.{Sheds}
use Rattle.world_core.specs.Output.{Shed as SaidShed}
use Rattle.world_core.specs.declared.step.Step.TheVariants.{Shed}
use Rattle.world_core.proofs.EventLists.{did_one, failed_one}
use Rattle.world_core.proofs.Results.{if_err, if_err_is}
use Rattle.world_core.proofs.TapeSteps.{barred_by, failed_by, pushed, rank_same, shed_said, took_by}
use Rattle.world_core.proofs.stations.Stations.shed.Goals as goal

pub returns-in_default-clause-err : goal.returns-in_default-clause-err
returns-in_default-clause-err g c = λ past stands.
    barred_by (Shed c.args.name.now) past _ c.args.self.now
    (inl (refl, rank_same c.args.name.now past c.args.self.now stands ∙ sym c.rank_of.ensures ∙ c.in_default.is)) stands

pub returns-in_err-outputs-clause-err : goal.returns-in_err-outputs-clause-err
returns-in_err-outputs-clause-err g c = λ past stands.
    if_err c.from_residual.result _ _ c.from_residual.ensures.1
    (λ fault memory. barred_by (Shed c.args.name.now) past fault c.args.self.now
    (inr (
      memory,
      (
        c.in-Some.rank,
        rank_same c.args.name.now past c.args.self.now stands ∙ sym c.rank_of.ensures ∙ c.in-Some.is,
      ),
    )) stands)

pub returns-in_err-name-clause-err : goal.returns-in_err-name-clause-err
returns-in_err-name-clause-err g c = λ past stands.
    if_err c.from_residual-in_err-name.result _ _ c.from_residual-in_err-name.ensures.1
    (λ fault memory. barred_by (Shed c.args.name.now) past fault c.args.self.now
    (inr (
      memory,
      (
        c.in-Some.rank,
        rank_same c.args.name.now past c.args.self.now stands ∙ sym c.rank_of.ensures ∙ c.in-Some.is,
      ),
    )) stands)

pub returns-in_err-keys-clause-err : goal.returns-in_err-keys-clause-err
returns-in_err-keys-clause-err g c = λ past stands.
    if_err_is c.from_residual-in_err-keys.result _ _ c.from_residual-in_err-keys.ensures.1
    (failed_by (Shed c.args.name.now) past _ _ c.shed_at.new.self (
      c.in-Some.rank,
      rank_same c.args.name.now past c.args.self.now stands ∙ sym c.rank_of.ensures ∙ c.in-Some.is,
      ([], refl),
    )
    (failed_one past (Sheds c.in-Some.rank []) _ c.shed_at.new.self (c.in_err-keys.ensures.err past stands)))

pub returns-clause-ok : goal.returns-clause-ok
returns-clause-ok g c = λ past stands.
    let numbers = c.in_ok-keys.keys.items in
    took_by (Shed c.args.name.now) past past (Sheds c.in-Some.rank numbers ∷ [])
    (λ later. SaidShed c.args.name.now numbers ∷ []) _ c.shed_at.new.self (
      c.in-Some.rank,
      rank_same c.args.name.now past c.args.self.now stands ∙ sym c.rank_of.ensures ∙ c.in-Some.is,
      (numbers, refl),
    )
    (did_one past (Sheds c.in-Some.rank numbers) c.shed_at.new.self (c.in_ok-keys.ensures.ok past stands))
    (shed_said c.args.name.now _ c.in_ok-keys.keys _ c.in_ok-name.ensures.cases
    (pushed _ _ _ c.push_reserved.ensures.items c.in_ok-outputs.ensures.items))
