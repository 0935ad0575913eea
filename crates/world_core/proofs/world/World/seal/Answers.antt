-- The stations seal, or a stop is met.
use Rattle.std.proofs.Common.{None, refl}
use Rattle.world_core.specs.declared.step.Step.TheVariants.{Seal}
use Rattle.world_core.proofs.StepsOfWorlds.{halted_there, took_tapes, was_halted}
use Rattle.world_core.proofs.world.World.seal.Goals as goal

pub returns-in-Ok-clause-ok : goal.returns-in-Ok-clause-ok
returns-in-Ok-clause-ok c = λ life stands.
    took_tapes c.args.self.now _ life c.in-Running.stations c.seal.new.self c.in-Running.field-1 stands
    c.in-Running.is refl refl refl refl Seal refl c.in-Ok.outputs.items (λ outputs later t. t)
    (c.in-Ok.ensures.ok life.past)

pub returns-in-Err-clause-ok : goal.returns-in-Err-clause-ok
returns-in-Err-clause-ok c = λ life stands. c.settle.ensures.ok Seal life
    (was_halted c.args.self.now _ life c.in-Running.stations c.seal.new.self c.in-Running.field-1 stands
    c.in-Running.is refl refl refl refl Seal refl _ (λ later r. r)
    (λ on. halted_there Seal life.past (record { rank = None; fault = c.in-Err.fault }) refl c.seal.new.self
    (c.in-Err.ensures.err life.past on)))

pub returns-in-Err-clause-err : goal.returns-in-Err-clause-err
returns-in-Err-clause-err c = λ life stands. c.settle.ensures.err Seal life
    (was_halted c.args.self.now _ life c.in-Running.stations c.seal.new.self c.in-Running.field-1 stands
    c.in-Running.is refl refl refl refl Seal refl _ (λ later r. r)
    (λ on. halted_there Seal life.past (record { rank = None; fault = c.in-Err.fault }) refl c.seal.new.self
    (c.in-Err.ensures.err life.past on)))
