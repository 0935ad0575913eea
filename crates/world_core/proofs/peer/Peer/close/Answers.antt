use Rattle.std.proofs.Common.{refl}
use Rattle.world_core.proofs.PeerCloses.{closed_answered, closed_refused}
use Rattle.world_core.proofs.Results.{at_err, at_ok}
use Rattle.world_core.proofs.peer.Peer.close.Goals as goal

pub returns-in-Ok-clause-ok : goal.returns-in-Ok-clause-ok
returns-in-Ok-clause-ok g c = λ past stands.
    let is = c.in-Ok.ensures in
    closed_answered past c.args.self.now _ c.in-Ok.source stands (at_ok is.refuses.broken) is.closed.0
    is.closed.1 is.places (λ over. at_ok is.refuses.count_full (at_ok is.refuses.broken, over))
    (λ full. at_ok is.refuses.pending_full (
      at_ok is.refuses.broken,
      (λ over. at_ok is.refuses.count_full (at_ok is.refuses.broken, over)),
      full,
    )) refl refl

pub returns-in-Err-clause-err : goal.returns-in-Err-clause-err
returns-in-Err-clause-err g c = λ past stands.
    let is = c.in-Err.ensures in
    closed_refused past c.args.self.now _ stands is.refuses.unchanged refl refl c.in-Err.fault c.from_station.result
    c.from_station.ensures (at_err is.refuses.broken)
    (λ e. let own = is.refuses.count_full.0 cc in own.1) (λ e. let own = is.refuses.pending_full.0 cc in (own.1, own.2))
    (λ e. let own = is.refuses.no_memory cc in (own.1, own.2)) is.refuses.kinds
