-- The stations flush, or a stop is met.
use Rattle.std.proofs.Common.{refl}
use Rattle.world_core.specs.declared.step.Step.TheVariants.{Flush}
use Rattle.world_core.proofs.StepsOfWorlds.{took_tapes, was_halted}
use Rattle.world_core.proofs.world.World.flush.Goals as goal

pub returns-in-Ok-clause-ok : goal.returns-in-Ok-clause-ok
returns-in-Ok-clause-ok c = λ life stands.
    took_tapes c.args.self.now _ life c.in-Running.stations c.flush.new.self c.in-Running.field-1 stands
    c.in-Running.is refl refl refl refl Flush refl c.in-Ok.outputs.items (λ outputs later t. t)
    (c.in-Ok.ensures.ok life.past)

pub returns-in-Err-clause-ok : goal.returns-in-Err-clause-ok
returns-in-Err-clause-ok c = λ life stands. c.settle.ensures.ok Flush life
    (was_halted c.args.self.now _ life c.in-Running.stations c.flush.new.self c.in-Running.field-1 stands
    c.in-Running.is refl refl refl refl Flush refl c.in-Err.halt (λ later r. r) (c.in-Err.ensures.err life.past))

pub returns-in-Err-clause-err : goal.returns-in-Err-clause-err
returns-in-Err-clause-err c = λ life stands. c.settle.ensures.err Flush life
    (was_halted c.args.self.now _ life c.in-Running.stations c.flush.new.self c.in-Running.field-1 stands
    c.in-Running.is refl refl refl refl Flush refl c.in-Err.halt (λ later r. r) (c.in-Err.ensures.err life.past))
