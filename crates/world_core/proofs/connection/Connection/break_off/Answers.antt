use Rattle.std.proofs.Common.{refl}
use Rattle.world_core.specs.Exchange.{broken_off}
use Rattle.world_core.proofs.ConnectionBreaks.{open_said, pair_broken}
use Rattle.world_core.proofs.connection.Connection.break_off.Goals as goal

pub returns-clause-ok : goal.returns-clause-ok
returns-clause-ok g c = λ id conn past pair.
    c.report.ensures.ok id (broken_off past conn) past conn.transcript
    (pair_broken id conn past c.args.self.now _ c.args.peer.now pair c.broken.ensures.stands refl refl
    c.broken.ensures.same_id)
    (open_said past.conf conn c.args.self.now c.is_none-was_open.result c.closed.result pair.holds c.closed.ensures
    c.is_none-was_open.ensures)

pub returns-clause-err : goal.returns-clause-err
returns-clause-err g c = λ id conn past pair.
    c.report.ensures.err id (broken_off past conn) past
    (pair_broken id conn past c.args.self.now _ c.args.peer.now pair c.broken.ensures.stands refl refl
    c.broken.ensures.same_id)
