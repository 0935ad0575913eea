-- Room for the note, the note, and the flush.
use Rattle.world_core.proofs.ImportCalls.{close_failed, close_no_room, closed_all, closed_not, closed_one}
use Rattle.world_core.proofs.Results.{if_err_is}
use Rattle.world_core.proofs.stations.Stations.close_all.Goals as goal

pub returns-in_err-make_room-clause-err : goal.returns-in_err-make_room-clause-err
returns-in_err-make_room-clause-err g c = λ past source pending mark stands at.
    if_err_is c.from_residual.result _ _ c.from_residual.ensures.1
    (close_no_room past c.args.rank source pending mark c.make_room.new.self c.make_room.new.self _
    (c.in_err-make_room.ensures.err past source pending mark stands at))

pub returns-in_err-source-clause-err : goal.returns-in_err-source-clause-err
returns-in_err-source-clause-err g c = λ past source pending mark stands at.
    if_err_is c.from_residual-in_err-source.result _ _ c.from_residual-in_err-source.ensures.1
    (close_failed past c.args.rank source pending mark c.make_room.new.self c.close_at.new.self
    (c.in_ok-make_room.ensures.ok past source pending mark stands at) _ c.in_err-source.ensures.err)

pub returns-in_err-spill_at-clause-err : goal.returns-in_err-spill_at-clause-err
returns-in_err-spill_at-clause-err g c = λ past source pending mark stands at.
    let closed = closed_one past c.args.rank source pending mark c.make_room.new.self c.close_at.new.self
    (c.in_ok-make_room.ensures.ok past source pending mark stands at) c.in_ok-source.source
    (λ p s. c.in_ok-source.ensures.ok p s) in
    if_err_is c.from_residual-in_err-spill_at.result _ _ c.from_residual-in_err-spill_at.ensures.1
    (closed_not past c.args.rank source pending mark c.make_room.new.self c.close_at.new.self c.spill_at.new.self
    closed.1 _ (c.in_err-spill_at.ensures.err closed.1.later closed.1.stands))

pub returns-clause-ok : goal.returns-clause-ok
returns-clause-ok g c = λ past source pending mark stands at.
    let closed = closed_one past c.args.rank source pending mark c.make_room.new.self c.close_at.new.self
    (c.in_ok-make_room.ensures.ok past source pending mark stands at) c.in_ok-source.source
    (λ p s. c.in_ok-source.ensures.ok p s) in (
      closed.0,
      closed_all past c.args.rank source pending mark c.make_room.new.self c.close_at.new.self c.spill_at.new.self
          closed.1
          (c.in_ok-spill_at.ensures.ok closed.1.later closed.1.stands),
    )
