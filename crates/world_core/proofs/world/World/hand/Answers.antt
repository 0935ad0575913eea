-- The step of the stations and the connections is the world's.
use Rattle.std.proofs.Common.{refl, sym}
use Rattle.world_core.specs.Exchange.{FailsToHand, OnPair, RefusesOn, TakesHand}
use Rattle.world_core.proofs.Results.{if_err_map, on_ok_map}
use Rattle.world_core.proofs.StationsInWorld.{made_world, refused_world, running_of}
use Rattle.world_core.proofs.world.World.hand.Goals as goal

pub returns-clause-ok : goal.returns-clause-ok
returns-clause-ok c = λ life stands.
    let running = running_of c.args.self.now life c.in-Running.stations c.in-Running.connections c.in-Running.is
    stands in
    on_ok_map c.hand.result _ _ (c.hand.ensures.ok life running (sym stands.now))
    (made_world (OnPair TakesHand c.args.id) life.connected life _ c.hand.new.self c.hand.new.connections _ _
    running.running c.requires refl stands.armed stands.connected stands.now)

pub returns-clause-err : goal.returns-clause-err
returns-clause-err c = λ life stands.
    let running = running_of c.args.self.now life c.in-Running.stations c.in-Running.connections c.in-Running.is
    stands in
    if_err_map c.hand.result _ _ (c.hand.ensures.err life running (sym stands.now))
    (λ fault. refused_world (RefusesOn FailsToHand c.args.id) life _ fault c.hand.new.self
    c.hand.new.connections running.running refl stands.armed stands.connected stands.now)
