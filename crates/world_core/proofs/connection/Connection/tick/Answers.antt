-- The moment is set, and what follows is reported.
use Rattle.std.proofs.Common.{refl}
use Rattle.world_core.specs.Exchange.{ticked}
use Rattle.world_core.proofs.ConnectionBreaks.{open_said, pair_ticked}
use Rattle.world_core.proofs.connection.Connection.tick.Goals as goal

pub returns-clause-ok : goal.returns-clause-ok
returns-clause-ok g c = λ id conn past pair.
    c.report.ensures.ok id (ticked c.args.now past conn) past conn.transcript
    (pair_ticked id c.args.now conn past c.args.self.now _ c.args.peer.now pair c.tick.ensures.stands refl refl
    c.tick.ensures.same_id)
    (open_said past.conf conn c.args.self.now c.is_none-was_open.result c.closed.result pair.holds c.closed.ensures
    c.is_none-was_open.ensures)

pub returns-clause-err : goal.returns-clause-err
returns-clause-err g c = λ id conn past pair.
    c.report.ensures.err id (ticked c.args.now past conn) past
    (pair_ticked id c.args.now conn past c.args.self.now _ c.args.peer.now pair c.tick.ensures.stands refl refl
    c.tick.ensures.same_id)
