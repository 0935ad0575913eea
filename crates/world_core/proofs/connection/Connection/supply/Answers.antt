-- The article is handed in, and what follows it is reported.
use Rattle.std.proofs.Common.{◌∙◌, refl, sym, inl, inr, subst}
use Rattle.article_store.specs.declared.store.Found.{Found}
use Rattle.conn_core.specs.History.{Handed, after, needed}
use Rattle.conn_core.specs.Receipt.{IsHandedAs}
use Rattle.conn_core.specs.Stands.{RefusesArticle}
use Rattle.world_core.specs.Exchange.{with_transcript}
use Rattle.world_core.specs.Pairs.{PairStands}
use Rattle.world_core.specs.Past.{options_of}
use Rattle.world_core.proofs.ConnectionBreaks.{open_said}
use Rattle.world_core.proofs.Results.{if_err, if_err_map, on_ok_map}
use Rattle.world_core.proofs.OutcomesSettled.{made_by, refused_by}
use Rattle.world_core.proofs.OctetsComeIn.{no_more, pair_handed, wanted_needed}
use Rattle.world_core.proofs.connection.Connection.supply.Goals as goal

pub returns-in_default-clause-err : goal.returns-in_default-clause-err
returns-in_default-clause-err g c = λ id conn past pair.
    record {
      later_conn = conn;
      later = past;
      refuses = inl (
        refl,
        sym (c.need.ensures (options_of past.conf) conn.unread conn.transcript pair.holds)
            ∙ no_more c.need.result (λ number e. c.in_default.not-Some number e),
        refl,
        refl,
      );
      stand = pair;
    }

pub returns-in_err-found-clause-err : goal.returns-in_err-found-clause-err
returns-in_err-found-clause-err g c = λ id conn past pair.
    let wanted = sym (c.need.ensures (options_of past.conf) conn.unread conn.transcript pair.holds) ∙ c.in-Some.is in
    if_err c.from_residual.result _ _ c.from_residual.ensures.1
    (λ fault is. record {
      later_conn = conn;
      later = past;
      refuses = inr (c.in-Some.key, wanted, inl (is, refl, refl));
      stand = pair;
    })

pub returns-in-Ok-clause-ok : goal.returns-in-Ok-clause-ok
returns-in-Ok-clause-ok g c = λ id conn past pair.
    let wanted = sym (c.need.ensures (options_of past.conf) conn.unread conn.transcript pair.holds) ∙ c.in-Some.is in
    let so = pair_handed id conn past c.args.self.now _ c.args.peer.now pair refl refl c.in-Ok.ensures.same_id
    c.in_ok-found.found c.in-Some.key c.in-Ok.ensures.ok in
    on_ok_map c.report.result _ _ (c.report.ensures.ok id
    (with_transcript conn (after (options_of past.conf) conn.transcript (Handed c.in-Some.key so.0))) past
    conn.transcript so.2
    (open_said past.conf conn c.args.self.now c.is_none-was_open.result c.closed.result pair.holds c.closed.ensures
    c.is_none-was_open.ensures))
    (made_by _ _ id _ _ _ _ (λ said later_conn later follows. record {
      number = c.in-Some.key;
      handing = so.0;
      wanted = wanted;
      handed = subst (λ (f : Found). IsHandedAs f so.0) c.in_ok-found.ensures so.1;
      follows = follows;
    }))

pub returns-in-Ok-clause-err : goal.returns-in-Ok-clause-err
returns-in-Ok-clause-err g c = λ id conn past pair.
    let wanted = sym (c.need.ensures (options_of past.conf) conn.unread conn.transcript pair.holds) ∙ c.in-Some.is in
    let so = pair_handed id conn past c.args.self.now _ c.args.peer.now pair refl refl c.in-Ok.ensures.same_id
    c.in_ok-found.found c.in-Some.key c.in-Ok.ensures.ok in
    if_err_map c.report.result _ _ (c.report.ensures.err id
    (with_transcript conn (after (options_of past.conf) conn.transcript (Handed c.in-Some.key so.0))) past so.2)
    (λ fault. refused_by _ _ id _ _ (λ later_conn later follows. inr (
      c.in-Some.key,
      wanted,
      inr (so.0, subst (λ (f : Found). IsHandedAs f so.0) c.in_ok-found.ensures so.1, follows),
    )))

pub returns-in-Err-default-NotNeeded-clause-err : goal.returns-in-Err-default-NotNeeded-clause-err
returns-in-Err-default-NotNeeded-clause-err g c = λ id conn past pair.
    let wanted = sym (c.need.ensures (options_of past.conf) conn.unread conn.transcript pair.holds) ∙ c.in-Some.is in
    let o = options_of past.conf in
    absurd (wanted_needed o conn.transcript c.in-Some.key wanted
    (subst (λ f. RefusesArticle f (needed o conn.transcript c.in-Some.key)) c.in-Err-default-NotNeeded.field-0-1-is
    (c.in-Err-default-NotNeeded.ensures.refuses o conn.unread conn.transcript pair.holds)))

pub returns-clause-err : goal.returns-clause-err
returns-clause-err g c = λ id conn past pair.
    let wanted = sym (c.need.ensures (options_of past.conf) conn.unread conn.transcript pair.holds) ∙ c.in-Some.is in
    record {
      later_conn = conn;
      later = past;
      refuses = inr (c.in-Some.key, wanted, inl (refl, refl, refl));
      stand = subst (λ k. PairStands id conn past
          (record { rank = c.args.self.now.rank; conn = k; waiting = c.args.self.now.waiting }) c.args.peer.now)
          (sym c.in-Err-default-NoMemory.ensures.unchanged) pair;
    }
