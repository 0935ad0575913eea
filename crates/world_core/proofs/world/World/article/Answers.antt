-- The step of the stations and the connections is the world's.
use Rattle.std.proofs.Common.{refl, sym}
use Rattle.world_core.specs.Exchange.{FailsToSupply, OnPair, RefusesOn, TakesArticle}
use Rattle.world_core.proofs.Results.{if_err_map, on_ok_map}
use Rattle.world_core.proofs.StationsInWorld.{made_world, refused_world, running_of}
use Rattle.world_core.proofs.world.World.article.Goals as goal

pub returns-clause-ok : goal.returns-clause-ok
returns-clause-ok c = λ life stands.
    let running = running_of c.args.self.now life c.in-Running.stations c.in-Running.connections c.in-Running.is
    stands in
    on_ok_map c.article.result _ _ (c.article.ensures.ok life running (sym stands.now))
    (made_world (OnPair (TakesArticle c.args.found.now) c.args.id) life.connected life _ c.article.new.self
    c.article.new.connections _ _ running.running c.requires refl stands.armed stands.connected stands.now)

pub returns-clause-err : goal.returns-clause-err
returns-clause-err c = λ life stands.
    let running = running_of c.args.self.now life c.in-Running.stations c.in-Running.connections c.in-Running.is
    stands in
    if_err_map c.article.result _ _ (c.article.ensures.err life running (sym stands.now))
    (λ fault. refused_world (RefusesOn (FailsToSupply c.args.found.now) c.args.id) life _ fault
    c.article.new.self c.article.new.connections running.running refl stands.armed stands.connected stands.now)
