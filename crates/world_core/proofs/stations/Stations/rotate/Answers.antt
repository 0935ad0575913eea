-- The rank of the name among the peers, and what is reported.
use Rattle.std.proofs.Common.{◌∙◌, [], ◌∷◌, refl, sym, inl, inr}
use Rattle.world_core.specs.Events.{Rotates}
use Rattle.world_core.specs.Output.{Rotated as SaidRotated}
use Rattle.world_core.specs.declared.step.Step.TheVariants.{Rotate}
use Rattle.world_core.proofs.EventLists.{did_one, failed_one}
use Rattle.world_core.proofs.Results.{if_err, if_err_is}
use Rattle.world_core.proofs.TapeSteps.{barred_by, failed_by, pushed, rank_same, rotate_said, took_by}
use Rattle.world_core.proofs.stations.Stations.rotate.Goals as goal

pub returns-in_default-clause-err : goal.returns-in_default-clause-err
returns-in_default-clause-err g c = λ past stands.
    barred_by (Rotate c.args.name.now) past _ c.args.self.now
    (inl (refl, rank_same c.args.name.now past c.args.self.now stands ∙ sym c.rank_of.ensures ∙ c.in_default.is)) stands

pub returns-in_err-outputs-clause-err : goal.returns-in_err-outputs-clause-err
returns-in_err-outputs-clause-err g c = λ past stands.
    if_err c.from_residual.result _ _ c.from_residual.ensures.1
    (λ fault memory. barred_by (Rotate c.args.name.now) past fault c.args.self.now
    (inr (
      memory,
      (
        c.in-Some.rank,
        rank_same c.args.name.now past c.args.self.now stands ∙ sym c.rank_of.ensures ∙ c.in-Some.is,
      ),
    )) stands)

pub returns-in_err-name-clause-err : goal.returns-in_err-name-clause-err
returns-in_err-name-clause-err g c = λ past stands.
    if_err c.from_residual-in_err-name.result _ _ c.from_residual-in_err-name.ensures.1
    (λ fault memory. barred_by (Rotate c.args.name.now) past fault c.args.self.now
    (inr (
      memory,
      (
        c.in-Some.rank,
        rank_same c.args.name.now past c.args.self.now stands ∙ sym c.rank_of.ensures ∙ c.in-Some.is,
      ),
    )) stands)

pub returns-in_err-generation-clause-err : goal.returns-in_err-generation-clause-err
returns-in_err-generation-clause-err g c = λ past stands.
    if_err_is c.from_residual-in_err-generation.result _ _ c.from_residual-in_err-generation.ensures.1
    (failed_by (Rotate c.args.name.now) past _ _ c.rotate_at.new.self (
      c.in-Some.rank,
      rank_same c.args.name.now past c.args.self.now stands ∙ sym c.rank_of.ensures ∙ c.in-Some.is,
      (0, refl),
    )
    (failed_one past (Rotates c.in-Some.rank 0) _ c.rotate_at.new.self (c.in_err-generation.ensures.err past stands)))

pub returns-clause-ok : goal.returns-clause-ok
returns-clause-ok g c = λ past stands.
    let generation = c.in_ok-generation.generation in
    took_by (Rotate c.args.name.now) past past (Rotates c.in-Some.rank generation ∷ [])
    (λ later. SaidRotated c.args.name.now generation ∷ []) _ c.rotate_at.new.self (
      c.in-Some.rank,
      rank_same c.args.name.now past c.args.self.now stands ∙ sym c.rank_of.ensures ∙ c.in-Some.is,
      (generation, refl),
    )
    (did_one past (Rotates c.in-Some.rank generation) c.rotate_at.new.self (c.in_ok-generation.ensures.ok past stands))
    (rotate_said c.args.name.now _ c.in_ok-generation.generation _ c.in_ok-name.ensures.cases
    (pushed _ _ _ c.push_reserved.ensures.items c.in_ok-outputs.ensures.items))
