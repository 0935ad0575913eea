-- What a connection does to its peer happens to the tapes by events, one after another; and a connection and a peer
-- that are put back as they were change nothing.
use Rattle.std.proofs.Common.{◌≡◌, ◌⊎◌, ℕ, zero, suc, Bool, true, false, None, Some, List, [], ◌∷◌, ◌++◌, cond, refl}
use Rattle.std.proofs.Common.{sym, ap, ◌∙◌, subst, inl, inr}
use Rattle.std.specs.Prelude.{◌==◌}
use Rattle.std.proofs.lemmas.Bool.{eqb-true}
use Rattle.std.proofs.lemmas.List.{map_push}
use Rattle.std.specs.List.{slice_get}
use Rattle.ledger_core.specs.State.{Owing}
use Rattle.conn_core.specs.History.{Event as Happening}
use Rattle.conn_core.specs.declared.outcome.Outcome.{Outcome}
use Rattle.world_core.specs.Past.{ConnPast, Past, PeerPast, conn_at, with_conn, with_past, with_peer}
use Rattle.world_core.specs.Safe.{IsSafe}
use Rattle.world_core.specs.Events.{AllDo, Claims, Event, Fails, Returns, Settles, settled}
use Rattle.world_core.specs.Events.AllDo.{Start, Next}
use Rattle.world_core.specs.Exchange.{AllSettleAt, ClaimsAt, FailsToOffer, GivesBackAt, HandsOver, Has_no_room}
use Rattle.world_core.specs.Exchange.{Is_shut, None_settled, None_there, One_settled, Taken_over}
use Rattle.world_core.specs.ExchangeLaws.{HandingIsEvents, HandsByEvents, OutcomesAreEvents, PutBackIsSame}
use Rattle.world_core.specs.ExchangeLaws.{settle_events}
use Rattle.world_core.specs.declared.fault.Fault.{Fault}
use Rattle.world_core.specs.declared.output.Handed.{Handed as Handover}
use Rattle.world_core.proofs.EventLists.{all_one, fails_one}
use Rattle.world_core.proofs.PairInWorld.{once, put_there}
use Rattle.world_core.proofs.PeerInWorld.{PeerKeeps, get_set, keeps_all, keeps_claims, keeps_given, keeps_offer}
use Rattle.world_core.proofs.PeerInWorld.{safe_with, set_same, with_same, with_twice}

module _ (past : Past) (rank id now : ℕ) (peer : PeerPast) (safe : IsSafe past)
    (here : slice_get past.peers rank ≡ Some peer) where
  safe_after : (later : PeerPast) → PeerKeeps id peer later → IsSafe (with_peer past rank later)
  safe_after later keeps = safe_with past rank id peer later here keeps safe

  settle_so : (outcomes : List Outcome) (later : PeerPast) → AllSettleAt id now peer outcomes later
      → AllDo past (settle_events rank id now outcomes) (with_peer past rank later)
  settle_so _ _ None_settled = subst (AllDo past []) (sym (with_same past rank peer here)) Start
  settle_so _ _ (One_settled outcomes outcome mid later before one) =
      let all : AllSettleAt id now peer (outcomes ++ outcome ∷ []) later =
      One_settled outcomes outcome mid later before one in
      subst (λ (events : List Event). AllDo past events (with_peer past rank later))
      (sym (map_push (λ (o : Outcome). Settles rank id now o) outcomes outcome))
      (Next (settle_events rank id now outcomes) (Settles rank id now outcome) (with_peer past rank mid)
      (with_peer past rank later) (settle_so outcomes mid before)
      (record {
        peer = mid;
        here = get_set past.peers rank peer mid here;
        works = one.works;
        held = one.held;
        room = one.room;
        changed = ap (with_peer past rank) one.changed ∙ sym (with_twice past rank mid (settled now outcome mid));
      })
      (safe_after later (keeps_all id now peer (outcomes ++ outcome ∷ []) later all)))

  claims_so : (debt : Owing) (later : PeerPast) → ClaimsAt id now debt peer later
      → AllDo past (Claims rank id now ∷ []) (with_peer past rank later)
  claims_so debt later is =
      all_one past (with_peer past rank later) (Claims rank id now)
      (record {
        peer = peer;
        debt = debt;
        tape = is.tape;
        here = here;
        works = is.works;
        candidate = is.candidate;
        reads = is.reads;
        changed = ap (with_peer past rank) is.changed;
      })
      (safe_after later (keeps_claims id now debt peer later is))

  gives_so : (debt : Owing) (later : PeerPast) → GivesBackAt id now debt peer later
      → AllDo past (Claims rank id now ∷ Returns rank id debt.0 ∷ []) (with_peer past rank later)
  gives_so debt later is =
      Next (Claims rank id now ∷ []) (Returns rank id debt.0) (with_peer past rank is.mid)
      (with_peer past rank later) (claims_so debt is.mid is.claims)
      (record {
        peer = is.mid;
        here = get_set past.peers rank peer is.mid here;
        works = is.returns.works;
        held = is.returns.held;
        changed = ap (with_peer past rank) is.returns.changed ∙ sym (with_twice past rank is.mid _);
      })
      (safe_after later (keeps_given id now debt peer later is))

pub outcomes_so : OutcomesAreEvents
outcomes_so = record {
  settled = λ past rank id now peer later outcomes safe here all.
      settle_so past rank id now peer safe here outcomes later all;
  refused = λ past rank id now peer outcome fault here why. record {
    peer = peer;
    tape = peer.tape;
    here = here;
    refused = (why, refl);
    changed = sym (with_same past rank peer here);
  };
}

module _ (past : Past) (id now : ℕ) (conn : ConnPast) (peer : PeerPast) (safe : IsSafe past)
    (here : slice_get past.peers conn.rank ≡ Some peer) where
  hands_so : (handed : Handover) (transcript : List Happening) (later : PeerPast)
      → HandsOver id now conn peer handed transcript later
      → HandsByEvents conn.rank id now peer past (with_peer past conn.rank later)
  hands_so _ _ _ (None_there tape works none reads) = inr (inr (tape, reads, refl))
  hands_so _ _ _ (Taken_over debt later ready claims) =
      inl (claims_so past conn.rank id now peer safe here debt later claims)
  hands_so _ _ _ (Has_no_room debt later ready gives) =
      inr (inl (debt.0, gives_so past conn.rank id now peer safe here debt later gives))
  hands_so _ _ _ (Is_shut debt later ready gives) =
      inr (inl (debt.0, gives_so past conn.rank id now peer safe here debt later gives))

  offer_so : (fault : Fault) (later : PeerPast) → FailsToOffer id now conn peer fault later
      → Fails past (Claims conn.rank id now ∷ []) fault (with_peer past conn.rank later)
      ⊎ HandsByEvents conn.rank id now peer past (with_peer past conn.rank later)
  offer_so fault later (inl (tape, refused, changed)) =
      inl (fails_one past (with_peer past conn.rank later) (Claims conn.rank id now) fault
      (record {
        peer = peer;
        tape = tape;
        here = here;
        refused = refused;
        changed = ap (with_peer past conn.rank) changed;
      })
      (safe_with past conn.rank id peer later here
      (keeps_offer id now conn peer fault later (inl (tape, refused, changed))) safe))
  offer_so fault later (inr (memory, ready, (debt, gives))) =
      inr (inr (inl (debt.0, gives_so past conn.rank id now peer safe here debt later gives)))

pub handing_so : HandingIsEvents
handing_so = record {
  handed = λ past id now conn peer later handed transcript safe here over.
      hands_so past id now conn peer safe here handed transcript later over;
  refused = λ past id now conn peer later fault safe here fails.
      offer_so past id now conn peer safe here fault later fails;
}

-- ---- put back as they were

abbrev Entry : Type 0
Entry = ℕ × ConnPast

found_step : (b : Bool) (e : Entry) (conns : List Entry) (id : ℕ) (conn : ConnPast) → (e.0 == id) ≡ b
    → (conn_at conns id ≡ Some conn → (i : ℕ) × (slice_get conns i ≡ Some (id, conn)))
    → cond b (Some e.1) (conn_at conns id) ≡ Some conn → (i : ℕ) × (slice_get (e ∷ conns) i ≡ Some (id, conn))
found_step true e conns id conn is rest found = (
  zero,
  ap (λ (n : ℕ). Some (n, e.1)) (eqb-true e.0 id is) ∙ ap (λ (c : ConnPast). Some (id, c)) (once e.1 conn found),
)
found_step false e conns id conn is rest found = let later = rest found in (suc later.0, later.1)

-- a connection that is found by its number has a place
place_of : (conns : List Entry) (id : ℕ) (conn : ConnPast) → conn_at conns id ≡ Some conn
    → (i : ℕ) × (slice_get conns i ≡ Some (id, conn))
place_of [] id conn found = let never : None ≡ Some conn = found in cc
place_of (e ∷ conns) id conn found = found_step (e.0 == id) e conns id conn refl (place_of conns id conn) found

pub put_back_so : PutBackIsSame
put_back_so life id conn peer tied is =
    let place = place_of life.conns id conn is.conn_is in
    let same = put_there life.conns tied.rising place.0 id conn conn place.1
    ∙ set_same life.conns place.0 (id, conn) place.1 in
    ap (λ (past : Past). with_conn (with_past life past) id conn) (with_same life.past conn.rank peer is.peer_is)
    ∙ ap (λ (conns : List Entry). record life { conns = conns }) same
