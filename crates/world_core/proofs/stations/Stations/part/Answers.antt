-- The rank of the name among the peers.
use Rattle.std.proofs.Common.{◌∙◌, [], ◌∷◌, map, refl, sym, ap}
use Rattle.world_core.specs.Events.{Parts}
use Rattle.world_core.specs.Output.{view_of}
use Rattle.world_core.specs.declared.step.Step.TheVariants.{Part}
use Rattle.world_core.proofs.EventLists.{did_one, failed_one}
use Rattle.world_core.proofs.Results.{if_err_is}
use Rattle.world_core.proofs.TapeSteps.{barred_by, failed_by, rank_same, took_by}
use Rattle.world_core.proofs.stations.Stations.part.Goals as goal

pub returns-in_default-clause-err : goal.returns-in_default-clause-err
returns-in_default-clause-err g c = λ past stands.
    barred_by (Part c.args.name.now) past _ c.args.self.now
    (refl, rank_same c.args.name.now past c.args.self.now stands ∙ sym c.rank_of.ensures ∙ c.in_default.is) stands

pub returns-in_err-part_at-clause-err : goal.returns-in_err-part_at-clause-err
returns-in_err-part_at-clause-err g c = λ past stands.
    if_err_is c.from_residual.result _ _ c.from_residual.ensures.1
    (failed_by (Part c.args.name.now) past _ _ c.part_at.new.self (
      c.in-Some.rank,
      rank_same c.args.name.now past c.args.self.now stands ∙ sym c.rank_of.ensures ∙ c.in-Some.is,
      refl,
    )
    (failed_one past (Parts c.in-Some.rank) _ c.part_at.new.self (c.in_err-part_at.ensures.err past stands)))

pub returns-clause-ok : goal.returns-clause-ok
returns-clause-ok g c = λ past stands.
    took_by (Part c.args.name.now) past past (Parts c.in-Some.rank ∷ []) (λ later. []) _ c.part_at.new.self (
      c.in-Some.rank,
      rank_same c.args.name.now past c.args.self.now stands ∙ sym c.rank_of.ensures ∙ c.in-Some.is,
      refl,
    )
    (did_one past (Parts c.in-Some.rank) c.part_at.new.self (c.in_ok-part_at.ensures.ok past stands))
    (ap (map view_of) c.new.ensures.items)
