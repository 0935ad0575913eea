use Rattle.std.proofs.Common.{map, refl, ap, ◌∙◌, inl}
use Rattle.world_core.specs.Output.{view_of}
use Rattle.world_core.proofs.WorldReopened.{runs_stage}
use Rattle.world_core.proofs.TapeSteps.{pushed}
use Rattle.world_core.proofs.world.World.rest.Goals as goal

pub returns-clause-ok : goal.returns-clause-ok
returns-clause-ok c = λ life stands.
    let runs = runs_stage life c.args.self.now.stage stands.stage c.in_default.not-Stopped in
    record {
      later = _;
      makes = (
        runs,
        ap (map view_of)
            (pushed _ _ _ c.push_reserved.ensures.items (c.reserve.ensures.items ∙ c.requires)),
        refl,
      );
      stands = c.in_ok-halt.ensures.ok life life life.past (inl (runs, refl)) stands;
    }
