-- The world's moment is the new one from the start of the step.
use Rattle.std.proofs.Common.{length, refl}
use Rattle.world_core.specs.Exchange.{TicksNot, TicksSome, at_moment}
use Rattle.world_core.proofs.Results.{if_err_map, on_ok_map}
use Rattle.world_core.proofs.StationsInWorld.{made_world, refused_world, running_at, running_of, ticked_world}
use Rattle.world_core.proofs.StationsInWorld.{unticked_world}
use Rattle.world_core.proofs.world.World.tick.Goals as goal

pub returns-clause-ok : goal.returns-clause-ok
returns-clause-ok c = λ life stands.
    let running = running_of c.args.self.now life c.in-Running.stations c.in-Running.connections c.in-Running.is
    stands in
    let now = at_moment c.args.now life in
    on_ok_map c.tick.result _ _
    (c.tick.ensures.ok now (running_at c.args.now life c.in-Running.stations c.in-Running.connections.items
    running) refl)
    (λ made. ticked_world c.args.now life _ _
    (made_world (TicksSome (length life.conns)) life.connected now _ c.tick.new.self c.tick.new.connections _ _
    running.running c.requires refl
    stands.armed stands.connected refl made))

pub returns-clause-err : goal.returns-clause-err
returns-clause-err c = λ life stands.
    let running = running_of c.args.self.now life c.in-Running.stations c.in-Running.connections c.in-Running.is
    stands in
    let now = at_moment c.args.now life in
    if_err_map c.tick.result _ _
    (c.tick.ensures.err now (running_at c.args.now life c.in-Running.stations c.in-Running.connections.items
    running) refl)
    (λ fault refused. unticked_world c.args.now life fault _ running.running
    (refused_world TicksNot now _ fault c.tick.new.self c.tick.new.connections running.running refl stands.armed
    stands.connected refl refused))
