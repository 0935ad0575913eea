-- The stations run on, or what stopped stands for what the openings left.
use Rattle.std.proofs.Common.{refl, sym, ◌∙◌}
use Rattle.world_core.specs.declared.step.Step.TheVariants.{Restart}
use Rattle.world_core.proofs.WorldReopened.{awaits, closed_again, no_room, still_runs, stop_there}
use Rattle.world_core.proofs.Results.{if_err}
use Rattle.world_core.proofs.world.World.restart.Goals as goal

pub returns-in_default-clause-err : goal.returns-in_default-clause-err
returns-in_default-clause-err c = λ life stands. still_runs c.args.self.now life stands c.in_default.not-Stopped

pub returns-in_err-rooms-clause-err : goal.returns-in_err-rooms-clause-err
returns-in_err-rooms-clause-err c = λ life stands.
    if_err c.from_residual.result _ _ c.from_residual.ensures.1
    (λ fault memory. no_room c.args.self.now life fault c.in-Stopped.peers c.in-Stopped.field-1 stands c.in-Stopped.is
    memory)

pub returns-in_err-room-clause-err : goal.returns-in_err-room-clause-err
returns-in_err-room-clause-err c = λ life stands.
    if_err c.from_residual-in_err-room.result _ _ c.from_residual-in_err-room.ensures.1
    (λ fault memory. no_room c.args.self.now life fault c.in-Stopped.peers c.in-Stopped.field-1 stands c.in-Stopped.is
    memory)

pub returns-in_err-none-clause-err : goal.returns-in_err-none-clause-err
returns-in_err-none-clause-err c = λ life stands.
    if_err c.from_residual-in_err-none.result _ _ c.from_residual-in_err-none.ensures.1
    (λ fault memory. no_room c.args.self.now life fault c.in-Stopped.peers c.in-Stopped.field-1 stands c.in-Stopped.is
    memory)

pub returns-in-Ok-clause-ok : goal.returns-in-Ok-clause-ok
returns-in-Ok-clause-ok c = λ life stands.
    let stop = stop_there c.args.self.now life c.in-Stopped-replace.peers c.in-Stopped-replace.intake stands
    (sym c.replace.ensures.value ∙ c.in-Stopped-replace.is) in
    c.run_on.ensures.ok life (awaits c.args.self.now _ life stands refl refl refl) stop.0
    (c.in-Ok.ensures.ok life.past stop.1)

pub returns-in-Ok-clause-err : goal.returns-in-Ok-clause-err
returns-in-Ok-clause-err c = λ life stands.
    let stop = stop_there c.args.self.now life c.in-Stopped-replace.peers c.in-Stopped-replace.intake stands
    (sym c.replace.ensures.value ∙ c.in-Stopped-replace.is) in
    c.run_on.ensures.err life (awaits c.args.self.now _ life stands refl refl refl) stop.0
    (c.in-Ok.ensures.ok life.past stop.1)

pub returns-in-Err-clause-ok : goal.returns-in-Err-clause-ok
returns-in-Err-clause-ok c = λ life stands.
    let stop = stop_there c.args.self.now life c.in-Stopped-replace.peers c.in-Stopped-replace.intake stands
    (sym c.replace.ensures.value ∙ c.in-Stopped-replace.is) in
    c.settle.ensures.ok Restart life
    (closed_again _ life c.in-Err.closed.halt c.in-Err.closed.peers c.in-Err.closed.intake
    (awaits c.args.self.now _ life stands refl refl refl) stop.0
    (c.in-Err.ensures.err life.past stop.1) refl)

pub returns-in-Err-clause-err : goal.returns-in-Err-clause-err
returns-in-Err-clause-err c = λ life stands.
    let stop = stop_there c.args.self.now life c.in-Stopped-replace.peers c.in-Stopped-replace.intake stands
    (sym c.replace.ensures.value ∙ c.in-Stopped-replace.is) in
    c.settle.ensures.err Restart life
    (closed_again _ life c.in-Err.closed.halt c.in-Err.closed.peers c.in-Err.closed.intake
    (awaits c.args.self.now _ life stands refl refl refl) stop.0
    (c.in-Err.ensures.err life.past stop.1) refl)
