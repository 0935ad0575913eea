-- A debt is owed, or was before.
use Rattle.std.proofs.Common.{inl, inr, refl}
use Rattle.world_core.proofs.PeerOwes.{owed_answered, owed_refused}
use Rattle.world_core.proofs.Results.{at_err, at_ok}
use Rattle.world_core.proofs.peer.Peer.owe.Goals as goal

pub returns-in-Ok-clause-ok : goal.returns-in-Ok-clause-ok
returns-in-Ok-clause-ok g c = λ past stands.
    let is = c.in-Ok.ensures in
    owed_answered (λ state. state.mark) (λ state. c.args.number) c.args.number past c.args.token.now c.args.id.now
    c.args.self.now _ c.in-Ok.owed stands
    (at_ok is.refuses.broken) (λ e. let own = is.already.0 cc in own.1)
    (λ e below. let never = is.already.1 (at_ok is.refuses.broken, below) in cc)
    c.each_number_has_one_place.ensures.placed (λ e. is.unchanged cc) (λ e. is.new cc) (λ e. is.places cc)
    (λ over. let no = is.refuses.never (inl over) in
    cc) (λ above full. let no = is.refuses.never (inr (above, full)) in cc) refl refl

pub returns-in-Err-clause-err : goal.returns-in-Err-clause-err
returns-in-Err-clause-err g c = λ past stands.
    let is = c.in-Err.ensures in
    owed_refused (λ state. state.mark) (λ state. c.args.number) past c.args.self.now _ c.args.number c.args.token.now
    c.args.id.now stands is.refuses.unchanged refl
    refl
    c.in-Err.fault c.from_station.result c.from_station.ensures (at_err is.refuses.broken)
    (λ e. is.refuses.count_full cc) (λ e. let own = is.refuses.pending_full cc in (own.1, own.2)) is.refuses.kinds
    (λ works below. let never = is.already.1 (works, below) in cc)
