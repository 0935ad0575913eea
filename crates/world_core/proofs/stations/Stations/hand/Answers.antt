-- The step on the connection and its peer is the world's.
use Rattle.std.proofs.Common.{arith, refl}
use Rattle.world_core.specs.Exchange.{FailsToHand, TakesHand}
use Rattle.world_core.proofs.ConnectionSteps.{found_put, made_pair, refused_pair}
use Rattle.world_core.proofs.PairGoesOn.{went_hand, went_unhanded}
use Rattle.world_core.proofs.Results.{if_err_map, on_ok_map}
use Rattle.world_core.proofs.stations.Stations.hand.Goals as goal

pub returns-clause-ok : goal.returns-clause-ok
returns-clause-ok g c = λ life running now_is.
    let so = found_put life c.args.self.now _ c.args.connections.now.items _ _ c.args.id c.in-Some.index c.in-Some.rank
    c.index_mut-connection.result.now c.hand.new.self c.index_mut-peer.result.now c.hand.new.peer running
    c.deref.ensures.value (c.in-Some.ensures.found life) c.in-Some.ensures.within.0
    (omega (arith, c.in-Some.ensures.within.1)) c.index_mut-connection.ensures.value c.index_mut-peer.ensures.value
    (record { peers = refl; intake = refl; last = refl; begun = refl }) refl in
    on_ok_map c.hand.result _ _ (c.hand.ensures.ok c.args.id so.conn so.peer so.pair)
    (made_pair life c.args.self.now _ c.args.connections.now.items _ running c.args.id so.conn so.peer
    c.index_mut-connection.result.now _ c.index_mut-peer.result.now _ so.put c.args.now now_is TakesHand
    (went_hand c.args.id) c.args.outputs.now.items c.hand.new.outputs.items)

pub returns-clause-err : goal.returns-clause-err
returns-clause-err g c = λ life running now_is.
    let so = found_put life c.args.self.now _ c.args.connections.now.items _ _ c.args.id c.in-Some.index c.in-Some.rank
    c.index_mut-connection.result.now c.hand.new.self c.index_mut-peer.result.now c.hand.new.peer running
    c.deref.ensures.value (c.in-Some.ensures.found life) c.in-Some.ensures.within.0
    (omega (arith, c.in-Some.ensures.within.1)) c.index_mut-connection.ensures.value c.index_mut-peer.ensures.value
    (record { peers = refl; intake = refl; last = refl; begun = refl }) refl in
    if_err_map c.hand.result _ _ (c.hand.ensures.err c.args.id so.conn so.peer so.pair)
    (refused_pair life c.args.self.now _ c.args.connections.now.items _ running c.args.id so.conn so.peer
    c.index_mut-connection.result.now _ c.index_mut-peer.result.now _ so.put c.args.now now_is FailsToHand
    (went_unhanded c.args.id))
