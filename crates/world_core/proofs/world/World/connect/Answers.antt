-- The connection that the stations make is the world's, and its number the last.
use Rattle.std.proofs.Common.{refl, sym}
use Rattle.world_core.specs.Exchange.{RefusesConnect, TakesConnect}
use Rattle.world_core.proofs.Results.{if_err}
use Rattle.world_core.proofs.StationsInWorld.{made_world, refused_as, running_of}
use Rattle.world_core.proofs.world.World.connect.Goals as goal

pub returns-clause-ok : goal.returns-clause-ok
returns-clause-ok c = λ life stands.
    let running = running_of c.args.self.now life c.in-Running.stations c.in-Running.connections c.in-Running.is
    stands in
    made_world (TakesConnect c.args.name.now) _ life _ c.connect.new.self c.connect.new.connections _ _
    running.running c.requires refl
    stands.armed refl stands.now (c.in_ok-self.ensures.ok life running (sym stands.connected))

pub returns-in_err-self-clause-err : goal.returns-in_err-self-clause-err
returns-in_err-self-clause-err c = λ life stands.
    let running = running_of c.args.self.now life c.in-Running.stations c.in-Running.connections c.in-Running.is
    stands in
    if_err c.from_residual.result _ _ c.from_residual.ensures.1 (λ fault same.
    refused_as (RefusesConnect c.args.name.now) life _ fault _ c.connect.new.self c.connect.new.connections
    running.running refl stands.armed stands.connected stands.now same
    (c.in_err-self.ensures.err life running (sym stands.connected)))
