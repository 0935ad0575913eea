-- The replies that came in are read, and what follows them is reported.
use Rattle.std.proofs.Common.{refl, inl, inr}
use Rattle.world_core.proofs.ConnectionBreaks.{open_said}
use Rattle.world_core.proofs.Results.{if_err, if_err_map, on_ok_map}
use Rattle.world_core.proofs.OutcomesSettled.{made_by, refused_by}
use Rattle.world_core.proofs.OctetsComeIn.{pair_received, pair_unread}
use Rattle.world_core.proofs.connection.Connection.receive.Goals as goal

pub returns-in_err-input-clause-err : goal.returns-in_err-input-clause-err
returns-in_err-input-clause-err g c = λ id conn past pair.
    if_err c.from_residual.result _ _ c.from_residual.ensures.1 (λ fault is.
    let so = pair_unread id conn past c.args.self.now _ c.args.peer.now pair refl refl c.in_err-input.ensures.same_id
    c.args.octets.now c.in_err-input.ensures.err in
    record { later_conn = _; later = past; refuses = inl (is, (so.0, so.1, refl, refl)); stand = so.2 })

pub returns-clause-ok : goal.returns-clause-ok
returns-clause-ok g c = λ id conn past pair.
    let so = pair_received id conn past c.args.self.now _ c.args.peer.now pair refl refl c.in_ok-input.ensures.same_id
    c.args.octets.now c.in_ok-input.ensures.ok in
    on_ok_map c.report.result _ _
    (c.report.ensures.ok id (record conn { unread = so.1; transcript = so.0 }) past conn.transcript
    so.3
    (open_said past.conf conn c.args.self.now c.is_none-was_open.result c.closed.result pair.holds c.closed.ensures
    c.is_none-was_open.ensures))
    (made_by _ _ id _ _ _ _ (λ said later_conn later follows. record {
      transcript = so.0;
      left = so.1;
      receives = so.2;
      follows = follows;
    }))

pub returns-clause-err : goal.returns-clause-err
returns-clause-err g c = λ id conn past pair.
    let so = pair_received id conn past c.args.self.now _ c.args.peer.now pair refl refl c.in_ok-input.ensures.same_id
    c.args.octets.now c.in_ok-input.ensures.ok in
    if_err_map c.report.result _ _
    (c.report.ensures.err id (record conn { unread = so.1; transcript = so.0 }) past so.3)
    (λ fault. refused_by _ _ id _ _ (λ later_conn later follows. inr (so.0, so.1, so.2, follows)))
