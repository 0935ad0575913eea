-- The moment of the connection is set, and what follows comes about in the world.
use Rattle.std.proofs.Common.{◌∙◌, ap, arith, refl, sym, Some}
use Rattle.std.proofs.lemmas.Option.{slice_get-get_or}
use Rattle.world_core.proofs.ConnectionSteps.{found_put, ticked_one, ticked_one_not}
use Rattle.world_core.proofs.ConnectionFound.{found_conn, own_id, rank_within}
use Rattle.world_core.proofs.Results.{if_err_map, on_ok_map}
use Rattle.world_core.proofs.stations.Stations.tick_at.Goals as goal

pub returns-then-rank-len-clause-err : goal.returns-then-rank-len-clause-err
returns-then-rank-len-clause-err g c = λ life running now_is.
    let there = slice_get-get_or c.args.connections.now.items c.args.index c.index_mut-connection.result.now
    (omega (arith, c.requires)) ∙ ap Some (sym c.index_mut-connection.ensures.value) in
    let inside = rank_within life c.args.self.now c.args.connections.now.items
    c.index_mut-connection.result.now.conn.id.0 c.args.index c.index_mut-connection.result.now
    running there (own_id c.args.connections.now.items c.args.index c.index_mut-connection.result.now there) in
    absurd (omega (arith, inside, c.if-rank-len.true, c.len.ensures))

pub returns-clause-ok : goal.returns-clause-ok
returns-clause-ok g c = λ life running now_is.
    let cs = c.args.connections.now.items in
    let conn = c.index_mut-connection.result.now in
    let id = conn.conn.id.0 in
    let there = slice_get-get_or cs c.args.index conn (omega (arith, c.requires))
    ∙ ap Some (sym c.index_mut-connection.ensures.value) in
    let own = own_id cs c.args.index conn there in
    let so = found_put life c.args.self.now _ cs cs _ id c.args.index conn.rank conn c.tick.new.self
    c.index_mut-peer.result.now c.tick.new.peer running refl
    (λ running. found_conn life c.args.self.now cs id c.args.index conn running there own)
    (omega (arith, c.requires)) (rank_within life c.args.self.now cs id c.args.index conn running there own)
    c.index_mut-connection.ensures.value c.index_mut-peer.ensures.value
    (record { peers = refl; intake = refl; last = refl; begun = refl }) refl in
    on_ok_map c.tick.result _ _ (c.tick.ensures.ok id so.conn so.peer so.pair)
    (ticked_one life c.args.self.now _ cs _ running id so.conn so.peer conn _ c.index_mut-peer.result.now _ so.put
    c.args.now now_is c.args.outputs.now.items c.tick.new.outputs.items)

pub returns-clause-err : goal.returns-clause-err
returns-clause-err g c = λ life running now_is.
    let cs = c.args.connections.now.items in
    let conn = c.index_mut-connection.result.now in
    let id = conn.conn.id.0 in
    let there = slice_get-get_or cs c.args.index conn (omega (arith, c.requires))
    ∙ ap Some (sym c.index_mut-connection.ensures.value) in
    let own = own_id cs c.args.index conn there in
    let so = found_put life c.args.self.now _ cs cs _ id c.args.index conn.rank conn c.tick.new.self
    c.index_mut-peer.result.now c.tick.new.peer running refl
    (λ running. found_conn life c.args.self.now cs id c.args.index conn running there own)
    (omega (arith, c.requires)) (rank_within life c.args.self.now cs id c.args.index conn running there own)
    c.index_mut-connection.ensures.value c.index_mut-peer.ensures.value
    (record { peers = refl; intake = refl; last = refl; begun = refl }) refl in
    if_err_map c.tick.result _ _ (c.tick.ensures.err id so.conn so.peer so.pair)
    (ticked_one_not life c.args.self.now _ cs _ running id so.conn so.peer conn _ c.index_mut-peer.result.now _ so.put
    c.args.now now_is)
