-- The stations take the step, or a stop is met.
use Rattle.std.proofs.Common.{refl, sym, ◌∙◌}
use Rattle.world_core.specs.Past.{Life}
use Rattle.world_core.specs.Stands.{WorldStands}
use Rattle.world_core.specs.declared.fault.Halt.{Halt}
use Rattle.world_core.specs.declared.step.Step.TheVariants.{Part}
use Rattle.world_core.specs.declared.world.Stage.TheVariants.{Running}
use Rattle.world_core.proofs.TapeSteps.{rank_same}
use Rattle.world_core.proofs.StepsOfWorlds.{halted_there, took_tapes, was_halted}
use Rattle.world_core.proofs.world.World.part.Goals as goal

pub returns-in-Ok-clause-ok : goal.returns-in-Ok-clause-ok
returns-in-Ok-clause-ok c = λ life stands.
    took_tapes c.args.self.now _ life c.in-Running.stations c.part.new.self c.in-Running.field-1 stands
    c.in-Running.is refl refl refl refl (Part c.args.name.now) refl c.in-Ok.outputs.items
    (λ outputs later t. t) (c.in-Ok.ensures.ok life.past)

pub returns-in-Err : goal.returns-in-Err
returns-in-Err c =
    let step = Part c.args.name.now in
    let halt : Halt = record { rank = c.rank_of-rank.result; fault = c.in-Err.fault } in
    let was = λ (life : Life) (stands : WorldStands c.args.self.now life). was_halted c.args.self.now
    (record c.args.self.now { stage = Running c.part.new.self c.in-Running.field-1 }) life c.in-Running.stations
    c.part.new.self c.in-Running.field-1 stands c.in-Running.is refl refl refl refl step refl halt (λ later r. r)
    (λ on. halted_there step life.past halt
    (rank_same c.args.name.now life.past c.in-Running.stations on ∙ sym c.rank_of-rank.ensures) c.part.new.self
    (c.in-Err.ensures.err life.past on)) in
    record {
      ok = λ life stands. c.settle.ensures.ok step life (was life stands);
      err = λ life stands. c.settle.ensures.err step life (was life stands);
    }
