-- The line is passed over, or room is made for its note.
use Rattle.std.proofs.Common.{◌<◌, arith}
use Rattle.world_core.proofs.ImportCalls.{mark_there, no_room_above, no_room_wanted, room_above}
use Rattle.world_core.proofs.StationCalls.{one_there}
use Rattle.world_core.proofs.Results.{if_err_map, on_ok_map}
use Rattle.world_core.proofs.stations.Stations.make_room_for.Goals as goal

pub returns-then-number-import_mark-clause-ok : goal.returns-then-number-import_mark-clause-ok
returns-then-number-import_mark-clause-ok g c = λ past source pending mark stands at.
    let was = c.index-peer.result.now in
    let one = one_there c.args.self.now past c.args.rank was stands (omega arith) c.index-peer.ensures in
    let is = mark_there past c.args.rank source pending mark was at one in
    no_room_wanted past c.args.rank source pending mark c.args.number c.args.self.now
    (omega (arith, c.import_mark.ensures, is)) stands at

pub returns-clause-ok : goal.returns-clause-ok
returns-clause-ok g c = λ past source pending mark stands at.
    let was = c.index-peer.result.now in
    let one = one_there c.args.self.now past c.args.rank was stands (omega arith) c.index-peer.ensures in
    let is = mark_there past c.args.rank source pending mark was at one in
    on_ok_map c.make_room.result _ _ (c.make_room.ensures.ok past source pending mark stands at)
    (room_above past c.args.rank source pending mark c.args.number c.make_room.new.self
    (omega (arith, c.import_mark.ensures, is)))

pub returns-clause-err : goal.returns-clause-err
returns-clause-err g c = λ past source pending mark stands at.
    let was = c.index-peer.result.now in
    let one = one_there c.args.self.now past c.args.rank was stands (omega arith) c.index-peer.ensures in
    let is = mark_there past c.args.rank source pending mark was at one in
    let above : mark < c.args.number = omega (arith, c.import_mark.ensures, is) in
    if_err_map c.make_room.result _ _ (c.make_room.ensures.err past source pending mark stands at)
    (λ fault made. no_room_above past c.args.rank source pending mark c.args.number c.make_room.new.self fault above
    made)
