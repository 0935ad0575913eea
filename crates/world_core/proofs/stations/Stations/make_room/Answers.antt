-- There is room, or the peer is flushed.
use Rattle.std.proofs.Common.{arith}
use Rattle.world_core.proofs.ImportCalls.{made_none, made_room, unmade_room}
use Rattle.world_core.proofs.StationCalls.{one_there}
use Rattle.world_core.proofs.Results.{if_err_map, on_ok_map}
use Rattle.world_core.proofs.stations.Stations.make_room.Goals as goal

pub returns-then-room-gt0-clause-ok : goal.returns-then-room-gt0-clause-ok
returns-then-room-gt0-clause-ok g c = λ past source pending mark stands at.
    let was = c.index-peer.result.now in
    made_none past c.args.rank source pending mark c.args.self.now stands at was
    (one_there c.args.self.now past c.args.rank was stands (omega arith) c.index-peer.ensures) c.room.result
    c.room.ensures (omega arith)

pub returns-clause-ok : goal.returns-clause-ok
returns-clause-ok g c = λ past source pending mark stands at.
    let was = c.index-peer.result.now in
    on_ok_map c.spill_at.result _ _ (c.spill_at.ensures.ok past stands)
    (made_room past c.args.rank source pending mark c.args.self.now stands at was
    (one_there c.args.self.now past c.args.rank was stands (omega arith) c.index-peer.ensures) c.room.result
    c.room.ensures (omega arith) c.spill_at.new.self)

pub returns-clause-err : goal.returns-clause-err
returns-clause-err g c = λ past source pending mark stands at.
    let was = c.index-peer.result.now in
    if_err_map c.spill_at.result _ _ (c.spill_at.ensures.err past stands)
    (unmade_room past c.args.rank source pending mark c.args.self.now stands at was
    (one_there c.args.self.now past c.args.rank was stands (omega arith) c.index-peer.ensures) c.room.result
    c.room.ensures (omega arith) c.spill_at.new.self)
