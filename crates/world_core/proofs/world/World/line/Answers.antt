use Rattle.std.proofs.Common.{refl, sym}
use Rattle.world_core.specs.declared.step.Step.TheVariants.{Line}
use Rattle.world_core.proofs.Results.{if_err_is}
use Rattle.world_core.proofs.StepsOfWorlds.{took_not, took_tapes}
use Rattle.world_core.proofs.world.World.line.Goals as goal

pub returns-in_err-out-clause-err : goal.returns-in_err-out-clause-err
returns-in_err-out-clause-err c = λ life stands.
    if_err_is c.from_residual.result _ _ c.from_residual.ensures.1
    (took_not c.args.self.now _ life c.in-Running.stations c.line.new.self c.in-Running.field-1 stands
    c.in-Running.is refl refl refl refl (Line c.args.text.now) refl _ (λ later r. r)
    (c.in_err-out.ensures.err life.past c.args.text.now (sym c.deref.ensures.value)))

pub returns-clause-ok : goal.returns-clause-ok
returns-clause-ok c = λ life stands.
    took_tapes c.args.self.now _ life c.in-Running.stations c.line.new.self c.in-Running.field-1 stands
    c.in-Running.is refl refl refl refl (Line c.args.text.now) refl c.in_ok-out.field-0.items
    (λ outputs later t. t) (c.in_ok-out.ensures.ok life.past c.args.text.now (sym c.deref.ensures.value))
