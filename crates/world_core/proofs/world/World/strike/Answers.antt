-- All stops, and then each disk keeps what the choice leaves of it.
use Rattle.std.proofs.Common.{map, refl, ap, ◌∙◌, inr}
use Rattle.world_core.specs.Halts.{AtRest, halted}
use Rattle.world_core.specs.Output.{view_of}
use Rattle.world_core.proofs.Results.{if_err}
use Rattle.world_core.proofs.TapeSteps.{pushed}
use Rattle.world_core.proofs.WorldStopped.{struck_stands}
use Rattle.world_core.proofs.world.World.strike.Goals as goal

pub returns-in_err-leave-clause-err : goal.returns-in_err-leave-clause-err
returns-in_err-leave-clause-err c = λ life now under_way goes stands.
    if_err c.from_residual-in_err-leave.result _ _ c.from_residual-in_err-leave.ensures.1
    (λ fault memory. inr (
      memory,
      c.in_err-leave.ensures.stays (halted AtRest under_way life)
          (c.in_default.ensures.ok life now under_way goes stands),
    ))

pub returns-clause-ok : goal.returns-clause-ok
returns-clause-ok c = λ life now under_way goes stands. record {
  outputs_are = ap (map view_of) (pushed _ _ _ c.push_reserved.ensures.items (c.reserve.ensures.items ∙ c.requires));
  stands = struck_stands _ life under_way c.args.choice
      (c.in_ok-leave.ensures.ok (halted AtRest under_way life)
      (c.in_default.ensures.ok life now under_way goes stands) refl);
}
