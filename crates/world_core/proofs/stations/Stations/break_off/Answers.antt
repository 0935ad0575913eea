-- The step on the connection and its peer is the world's.
use Rattle.std.proofs.Common.{arith, refl}
use Rattle.world_core.specs.Exchange.{FailsToBreak, TakesBreak}
use Rattle.world_core.specs.declared.step.Step.TheVariants.{Hand}
use Rattle.world_core.proofs.ConnectionSteps.{found_put, made_pair, refused_pair}
use Rattle.world_core.proofs.PairGoesOn.{went_break, went_unbroken}
use Rattle.world_core.proofs.Results.{if_err_map, on_ok_map}
use Rattle.world_core.proofs.stations.Stations.break_off.Goals as goal

pub returns-clause-ok : goal.returns-clause-ok
returns-clause-ok g c = λ life running now_is.
    let so = found_put life c.args.self.now _ c.args.connections.now.items _ _ c.args.id c.in-Some.index c.in-Some.rank
    c.index_mut-connection.result.now c.break_off.new.self c.index_mut-peer.result.now c.break_off.new.peer running
    c.deref.ensures.value (c.in-Some.ensures.found life) c.in-Some.ensures.within.0
    (omega (arith, c.in-Some.ensures.within.1)) c.index_mut-connection.ensures.value c.index_mut-peer.ensures.value
    (record { peers = refl; intake = refl; last = refl; begun = refl }) refl in
    on_ok_map c.break_off.result _ _ (c.break_off.ensures.ok c.args.id so.conn so.peer so.pair)
    (made_pair life c.args.self.now _ c.args.connections.now.items _ running c.args.id so.conn so.peer
    c.index_mut-connection.result.now _ c.index_mut-peer.result.now _ so.put c.args.now now_is TakesBreak
    (went_break (Hand c.args.id) c.args.id) c.args.outputs.now.items c.break_off.new.outputs.items)

pub returns-clause-err : goal.returns-clause-err
returns-clause-err g c = λ life running now_is.
    let so = found_put life c.args.self.now _ c.args.connections.now.items _ _ c.args.id c.in-Some.index c.in-Some.rank
    c.index_mut-connection.result.now c.break_off.new.self c.index_mut-peer.result.now c.break_off.new.peer running
    c.deref.ensures.value (c.in-Some.ensures.found life) c.in-Some.ensures.within.0
    (omega (arith, c.in-Some.ensures.within.1)) c.index_mut-connection.ensures.value c.index_mut-peer.ensures.value
    (record { peers = refl; intake = refl; last = refl; begun = refl }) refl in
    if_err_map c.break_off.result _ _ (c.break_off.ensures.err c.args.id so.conn so.peer so.pair)
    (refused_pair life c.args.self.now _ c.args.connections.now.items _ running c.args.id so.conn so.peer
    c.index_mut-connection.result.now _ c.index_mut-peer.result.now _ so.put c.args.now now_is FailsToBreak
    (went_unbroken (Hand c.args.id) c.args.id))
