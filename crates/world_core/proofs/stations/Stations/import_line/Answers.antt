-- Room for the line's note, if it makes one, and then the line.
use Rattle.std.proofs.Common.{arith}
use Rattle.world_core.specs.Importing.{good_of}
use Rattle.world_core.proofs.ImportCalls.{line_failed, line_no_room, line_took}
use Rattle.world_core.proofs.Results.{if_err_is}
use Rattle.world_core.proofs.stations.Stations.import_line.Goals as goal

pub returns-in_err-make_room_for-clause-err : goal.returns-in_err-make_room_for-clause-err
returns-in_err-make_room_for-clause-err g c = λ past source pending mark stands at.
    if_err_is c.from_residual.result _ _ c.from_residual.ensures.1
    (line_no_room past c.args.rank source pending mark (good_of c.args.line.now) (omega arith)
    c.make_room_for.new.self c.make_room_for.new.self _
    (c.in_err-make_room_for.ensures.err past source pending mark stands at))

pub returns-clause-ok : goal.returns-clause-ok
returns-clause-ok g c = λ past source pending mark stands at.
    line_took past c.args.rank source pending mark (good_of c.args.line.now) (omega arith) c.make_room_for.new.self
    c.import_at.new.self (c.in_ok-make_room_for.ensures.ok past source pending mark stands at) c.import_at.result
    c.import_at.ensures.ok

pub returns-clause-err : goal.returns-clause-err
returns-clause-err g c = λ past source pending mark stands at.
    line_failed past c.args.rank source pending mark (good_of c.args.line.now) (omega arith) c.make_room_for.new.self
    c.import_at.new.self (c.in_ok-make_room_for.ensures.ok past source pending mark stands at) c.import_at.result
    c.import_at.ensures.err
