-- The least candidate is claimed, and offered, or given back.
use Rattle.std.proofs.Common.{◌∙◌, ap, refl, sym, subst, inl, inr}
use Rattle.ledger_core.specs.State.{Owing}
use Rattle.conn_core.specs.Stands.{Refuses as RefusesOffer, ready_of}
use Rattle.peer_queue.specs.DebtPlace.{IsHeldBy, Ready, moved}
use Rattle.peer_queue.specs.Words.{places_of}
use Rattle.world_core.specs.Past.{options_of}
use Rattle.world_core.proofs.DebtHandedOver.{claim_refused, gave_back_busy, gave_back_memory, gave_back_shut, held_there}
use Rattle.world_core.proofs.DebtHandedOver.{if_none, if_some, none_claimed, took_over}
use Rattle.world_core.proofs.connection.Connection.offer_next.Goals as goal

pub returns-in-Err-clause-err : goal.returns-in-Err-clause-err
returns-in-Err-clause-err g c = λ id conn past pair.
    let is = c.in-Err.ensures in
    claim_refused id c.args.now conn past _ c.args.peer.now _ pair is.reads refl refl c.in-Err.fault
    c.from_station.result c.from_station.ensures (
      (λ e. is.refuses.broken.0 cc),
      λ b. let e = is.refuses.broken.1 b in
          cc,
    ) is.refuses.refused (λ e. is.cause past.tape.history pair.stands.tape.stands cc) is.refuses.kinds
    is.refuses.places

pub returns-in_default-clause-ok : goal.returns-in_default-clause-ok
returns-in_default-clause-ok g c = λ id conn past pair.
    let is = c.in-Ok.ensures in
    let none = if_none c.in-Ok.claimed _ is.none (λ debt e. c.in_default.not-Some debt e) in
    none_claimed id c.args.now conn past _ c.args.peer.now _ pair is.reads refl refl
    (λ b. let never = is.refuses.broken.1 b in cc) none.0 none.1

pub returns-in_default-offer-clause-ok : goal.returns-in_default-offer-clause-ok
returns-in_default-offer-clause-ok g c = λ id conn past pair.
    let is = c.in-Ok.ensures in
    let debt = c.in-Some.debt in
    let some = if_some c.in-Ok.claimed debt _ c.in-Some.is is.some in
    let owed = if_some c.in-Ok.claimed debt _ c.in-Some.is (is.debt past.tape.history pair.stands.tape.stands) in
    let taken = c.in_default-offer.ensures.ok in
    let ready = (taken (options_of past.conf) conn.unread conn.transcript pair.holds).0 in
    took_over id c.args.now conn past c.args.self.now c.args.peer.now _ pair is.reads refl refl debt c.id-id.result.0
    (ap (λ i. i.0) c.id-id.ensures ∙ pair.id_is) (λ b. let never = is.refuses.broken.1 b in
    cc) some.0 some.1 owed c.each_number_has_one_place.ensures.rising
    c.key-key.result c.key-key.ensures _ ready (λ o unread h stands. (taken o unread h stands).1) refl
    refl c.in_default-offer.ensures.same_id

pub returns-in-Err-back-clause-err : goal.returns-in-Err-back-clause-err
returns-in-Err-back-clause-err g c = λ id conn past pair.
    let is = c.in-Ok.ensures in
    let debt = c.in-Some.debt in
    let some = if_some c.in-Ok.claimed debt _ c.in-Some.is is.some in
    let owed = if_some c.in-Ok.claimed debt _ c.in-Some.is (is.debt past.tape.history pair.stands.tape.stands) in
    let held = held_there id c.args.now conn past c.args.self.now c.args.peer.now _ pair is.reads refl refl debt
    c.id-id.result.0
    (ap (λ i. i.0) c.id-id.ensures ∙ pair.id_is) (λ b. let never = is.refuses.broken.1 b in
    cc) some.0 some.1 owed c.each_number_has_one_place.ensures.rising in
    let returned = c.in-Err-offer.ensures.returned in
    let there = subst (λ (d : Owing). IsHeldBy (places_of c.claim.new.self) c.id-id.result.0 d.0) (sym returned) held in
    let back = c.in-Err-back.ensures in
    absurd (elim back.kinds [
      | inl broken ↦ (let now = back.refuses.broken.0 broken in let was = is.reads.tape.works.1 now in
          let never = is.refuses.broken.1 was in cc)
      | inr not ↦ (back.refuses.not_held.0 not).1 there
    ])

pub returns-in-Busy-clause-ok : goal.returns-in-Busy-clause-ok
returns-in-Busy-clause-ok g c = λ id conn past pair.
    let is = c.in-Ok.ensures in
    let debt = c.in-Some.debt in
    let some = if_some c.in-Ok.claimed debt _ c.in-Some.is is.some in
    let owed = if_some c.in-Ok.claimed debt _ c.in-Some.is (is.debt past.tape.history pair.stands.tape.stands) in
    let refused = c.in-Err-offer.ensures in
    let ready = refused.refuses (options_of past.conf) conn.unread conn.transcript pair.holds in
    let back = c.in_default-back.ensures.ok in
    gave_back_busy id c.args.now conn past c.args.self.now c.args.peer.now _ pair is.reads refl refl debt
    c.id-id.result.0
    (ap (λ i. i.0) c.id-id.ensures ∙ pair.id_is) (λ b. let never = is.refuses.broken.1 b in
    cc) some.0 some.1 owed c.each_number_has_one_place.ensures.rising
    _ back.0 (back.2 ∙ ap (λ (d : Owing). moved (places_of c.claim.new.self) d.0 Ready) refused.returned) refl refl _
    (ap (λ conn. record { rank = c.args.self.now.rank; conn = conn; waiting = c.args.self.now.waiting })
    refused.unchanged)
    (subst (λ f. RefusesOffer f (ready_of (options_of past.conf) conn.transcript)) c.in-Busy.is ready)

pub returns-in-Closed-clause-ok : goal.returns-in-Closed-clause-ok
returns-in-Closed-clause-ok g c = λ id conn past pair.
    let is = c.in-Ok.ensures in
    let debt = c.in-Some.debt in
    let some = if_some c.in-Ok.claimed debt _ c.in-Some.is is.some in
    let owed = if_some c.in-Ok.claimed debt _ c.in-Some.is (is.debt past.tape.history pair.stands.tape.stands) in
    let refused = c.in-Err-offer.ensures in
    let ready = refused.refuses (options_of past.conf) conn.unread conn.transcript pair.holds in
    let back = c.in_default-back.ensures.ok in
    gave_back_shut id c.args.now conn past c.args.self.now c.args.peer.now _ pair is.reads refl refl debt
    c.id-id.result.0
    (ap (λ i. i.0) c.id-id.ensures ∙ pair.id_is) (λ b. let never = is.refuses.broken.1 b in
    cc) some.0 some.1 owed c.each_number_has_one_place.ensures.rising
    _ back.0 (back.2 ∙ ap (λ (d : Owing). moved (places_of c.claim.new.self) d.0 Ready) refused.returned) refl refl _
    (ap (λ conn. record { rank = c.args.self.now.rank; conn = conn; waiting = c.args.self.now.waiting })
    refused.unchanged)
    (subst (λ f. RefusesOffer f (ready_of (options_of past.conf) conn.transcript)) c.in-Closed.is ready)

pub returns-in-NoMemory-clause-err : goal.returns-in-NoMemory-clause-err
returns-in-NoMemory-clause-err g c = λ id conn past pair.
    let is = c.in-Ok.ensures in
    let debt = c.in-Some.debt in
    let some = if_some c.in-Ok.claimed debt _ c.in-Some.is is.some in
    let owed = if_some c.in-Ok.claimed debt _ c.in-Some.is (is.debt past.tape.history pair.stands.tape.stands) in
    let refused = c.in-Err-offer.ensures in
    let ready = refused.refuses (options_of past.conf) conn.unread conn.transcript pair.holds in
    let back = c.in_default-back.ensures.ok in
    gave_back_memory id c.args.now conn past c.args.self.now c.args.peer.now _ pair is.reads refl refl debt
    c.id-id.result.0
    (ap (λ i. i.0) c.id-id.ensures ∙ pair.id_is) (λ b. let never = is.refuses.broken.1 b in
    cc) some.0 some.1 owed c.each_number_has_one_place.ensures.rising
    _ back.0 (back.2 ∙ ap (λ (d : Owing). moved (places_of c.claim.new.self) d.0 Ready) refused.returned) refl refl _
    (ap (λ conn. record { rank = c.args.self.now.rank; conn = conn; waiting = c.args.self.now.waiting })
    refused.unchanged) _ refl
    (subst (λ f. RefusesOffer f (ready_of (options_of past.conf) conn.transcript)) c.in-NoMemory.is ready)
