-- What happens to one peer among all, at which one connection's numbers change: the rest stays, and whatever a stop
-- leaves is safe.
use Rattle.std.proofs.Common.{◌≡◌, ◌↔◌, ℕ, zero, suc, Bool, true, false, None, Some, List, [], ◌∷◌, ◌++◌}
use Rattle.std.proofs.Common.{take, refl, sym, ap, ◌∙◌, subst, inl, inr, arith, append-nil, append_assoc, length-append}
use Rattle.std.specs.Prelude.{◌==◌, cond, if◌then◌else◌, slice_get}
use Rattle.std.proofs.Math.ListN.{set}
use Rattle.std.specs.List.{AllByRecursion}
use Rattle.std.proofs.lemmas.Bool.{cases_eq, eq-eqb}
use Rattle.ledger_core.specs.declared.note.Note.{Note}
use Rattle.ledger_core.specs.declared.note.Note.TheVariants.{Drop, Final}
use Rattle.ledger_core.specs.State.{Owing, State, after}
use Rattle.recovery.specs.Image.{Log}
use Rattle.recovery.specs.Leaving.{EachLedger, IsPrefix, pending_notes}
use Rattle.recovery.specs.LeavingLaws.{EachLedger-weaker}
use Rattle.recovery.specs.Notes.{AreLegal, History, noted, noted_all}
use Rattle.conn_core.specs.History.{Event as Happening}
use Rattle.conn_core.specs.declared.outcome.Outcome.{Outcome}
use Rattle.peer_queue.specs.DebtPlace.{DebtPlace, Held, IsHeldBy, Later as LaterPlace, Places, Ready, moved, place_at}
use Rattle.peer_queue.specs.Settled.{key_in}
use Rattle.peer_queue.specs.declared.settled.Settled.{Settled}
use Rattle.peer_queue.specs.declared.settled.Settled.TheVariants.{Answered, Dropped, Later, Ready as Back}
use Rattle.sections.specs.ListLaws.{all_at, all_set, both_all}
use Rattle.sections.specs.Tapes.{TapePast, mark_at, IsAbove, IsReadTape}
use Rattle.world_core.specs.Past.{ConnPast, Past, PeerPast, with_peer, with_tape}
use Rattle.world_core.specs.Safe.{HasAcknowledged, IsSafe, KeepsLines, KeepsNotes}
use Rattle.world_core.specs.Events.{settled_as, settling}
use Rattle.world_core.specs.Exchange.{AllSettleAt, ClaimsAt, FailsToOffer}
use Rattle.world_core.specs.Exchange.{GivesBackAt, HandsOver}
use Rattle.world_core.specs.Exchange.{Has_no_room, Is_shut, None_settled, None_there, One_settled, ReturnsAt, SettlesAt}
use Rattle.world_core.specs.Exchange.{Taken_over}
use Rattle.world_core.specs.Sound.{HasParted, IsSound}
use Rattle.world_core.specs.declared.fault.Fault.{Fault}
use Rattle.world_core.specs.declared.output.Handed.{Handed as Handover}
use Rattle.world_core.proofs.EventLists.{take_left}
use Rattle.world_core.proofs.HeldNumbers.{gone_none, moved_other}
use Rattle.world_core.proofs.MarksAndNotes.{IsNoLine, above_more}
use Rattle.world_core.proofs.OutcomeSettled.{settled_conf, settled_others}
use Rattle.world_core.proofs.SoundOverEvents.{names_set}

-- ---- lists

pub set_twice : {A : Type 0} (xs : List A) (i : ℕ) (x y : A) → set (set xs i x) i y ≡ set xs i y
set_twice [] i x y = refl
set_twice (a ∷ xs) zero x y = refl
set_twice (a ∷ xs) (suc i) x y = ap (λ l. a ∷ l) (set_twice xs i x y)

pub get_set : {A : Type 0} (xs : List A) (i : ℕ) (x y : A) → slice_get xs i ≡ Some x → slice_get (set xs i y) i ≡ Some y
get_set [] i x y here = let never : None ≡ Some x = here in cc
get_set (a ∷ xs) zero x y here = refl
get_set (a ∷ xs) (suc i) x y here = get_set xs i x y here

pub get_apart : {A : Type 0} (xs : List A) (i j : ℕ) (y : A) → (j ≡ i → ⊥) → slice_get (set xs i y) j ≡ slice_get xs j
get_apart [] i j y apart = refl
get_apart (a ∷ xs) zero zero y apart = absurd (apart refl)
get_apart (a ∷ xs) zero (suc j) y apart = refl
get_apart (a ∷ xs) (suc i) zero y apart = refl
get_apart (a ∷ xs) (suc i) (suc j) y apart = get_apart xs i j y (λ same. apart (ap (λ n. suc n) same))

-- ---- one peer

-- What a connection does to its peer: the settings stay, nothing has happened to the tape's disks, and the tape has
-- more notes, made by no line; what other connections hold stays.
pub record PeerKeeps (id : ℕ) (was now : PeerPast) : Type 0 where
  pub conf : now.conf ≡ was.conf
  pub parted : now.parted ≡ was.parted
  pub log : now.tape.log ≡ was.tape.log
  pub more : List Note
  pub notes : now.tape.history ≡ noted_all was.tape.history more
  pub off : AllByRecursion IsNoLine more
  pub prefix : (state : State) → KeepsNotes was state → KeepsNotes now state
  pub acknowledged : (mark : ℕ) → HasAcknowledged mark was → HasAcknowledged mark now
  pub others : (other number : ℕ) → (other ≡ id → ⊥)
      → IsHeldBy now.places other number ↔ IsHeldBy was.places other number

none_noted : (h : History) → h ≡ noted_all h []
none_noted h = ap (λ notes. record h { notes = notes }) (sym (append-nil h.notes))

pub keeps_same : (id : ℕ) (was : PeerPast) → PeerKeeps id was was
keeps_same id was = record {
  conf = refl;
  parted = refl;
  log = refl;
  more = [];
  notes = none_noted was.tape.history;
  off = tt;
  prefix = λ state keeps. keeps;
  acknowledged = λ mark has. has;
  others = λ other number apart. (λ is. is, λ is. is);
}

pub keeps_then : (id : ℕ) (was mid now : PeerPast) → PeerKeeps id was mid → PeerKeeps id mid now → PeerKeeps id was now
keeps_then id was mid now one two = record {
  conf = two.conf ∙ one.conf;
  parted = two.parted ∙ one.parted;
  log = two.log ∙ one.log;
  more = one.more ++ two.more;
  notes = two.notes ∙ (ap (λ (h : History). noted_all h two.more) one.notes
      ∙ ap (λ notes. record was.tape.history { notes = notes })
      (append_assoc was.tape.history.notes one.more two.more));
  off = both_all IsNoLine one.more two.more one.off two.off;
  prefix = λ state keeps. two.prefix state (one.prefix state keeps);
  acknowledged = λ mark has. two.acknowledged mark (one.acknowledged mark has);
  others = λ other number apart. (
    λ is. (one.others other number apart).0 ((two.others other number apart).0 is),
    λ is. (two.others other number apart).1 ((one.others other number apart).1 is),
  );
}

-- one more note
prefix_noted : (h : History) (note : Note) (state : State) → IsPrefix h state → IsPrefix (noted h note) state
prefix_noted h note state prefix =
    let same : take prefix.count (h.notes ++ note ∷ []) ≡ take prefix.count h.notes =
    take_left h.notes (note ∷ []) prefix.count prefix.within in
    record {
      count = prefix.count;
      enough = prefix.enough;
      within = omega (arith, prefix.within, length-append h.notes (note ∷ []));
      legal = subst (AreLegal h.base) (sym same) prefix.legal;
      is = prefix.is ∙ ap (after h.base) (sym same);
    }

-- if only one number moves, which this connection held or holds, other connections hold what they held
others_stay : (p q : Places) (id n other number : ℕ) → (other ≡ id → ⊥) → (IsHeldBy p other n → ⊥)
    → (IsHeldBy q other n → ⊥)
    → ((m : ℕ) → (m ≡ n → ⊥) → place_at q m ≡ place_at p m) → IsHeldBy q other number ↔ IsHeldBy p other number
others_stay p q id n other number apart before behind same = elim (cases_eq number n) [
  | inl here ↦ (
    λ is. absurd (behind (subst (IsHeldBy q other) here is)),
    λ is. absurd (before (subst (IsHeldBy p other) here is)),
  )
  | inr differ ↦ (λ is. sym (same number differ) ∙ is, λ is. same number differ ∙ is)
]

-- a number is held by one connection
held_once : (p : Places) (id other n : ℕ) → IsHeldBy p id n → (other ≡ id → ⊥) → IsHeldBy p other n → ⊥
held_once p id other n held apart is =
    let same : Some (Held id) ≡ Some (Held other) = sym held ∙ is in
    apart cc

moved_only_step : (p : Places) (e : ℕ × DebtPlace) (n : ℕ) (q x : DebtPlace) (b : Bool) → (e.0 == n) ≡ b
    → (place_at (moved p n q) n ≡ Some x → x ≡ q) → place_at ((if b then (n, q) else e) ∷ moved p n q) n ≡ Some x
    → x ≡ q
moved_only_step p e n q x true same rest is =
    let here : Some q ≡ Some x = sym (ap (λ (b : Bool). cond b (Some q) (place_at (moved p n q) n)) (eq-eqb n n refl))
    ∙ is in cc
moved_only_step p e n q x false same rest is =
    rest (sym (ap (λ (b : Bool). cond b (Some e.1) (place_at (moved p n q) n)) same) ∙ is)

-- a number that has moved has no other place
moved_only : (p : Places) (n : ℕ) (q x : DebtPlace) → place_at (moved p n q) n ≡ Some x → x ≡ q
moved_only [] n q x is = let never : None ≡ Some x = is in cc
moved_only (e ∷ p) n q x is = moved_only_step p e n q x (e.0 == n) refl (λ there. moved_only p n q x there) is

-- no connection holds a debt that is settled
settled_free : (s : Settled) (n id other : ℕ) (peer : PeerPast) → IsHeldBy peer.places id n
    → IsHeldBy (settled_as s n peer).places other n → ⊥
settled_free (Answered code) n id other peer held is = let none = gone_none peer.places n in cc
settled_free (Dropped cause) n id other peer held is = let none = gone_none peer.places n in cc
settled_free (Later moment) n id other peer held is =
    let same : Held other ≡ LaterPlace moment = moved_only peer.places n (LaterPlace moment) (Held other) is in cc
settled_free Back n id other peer held is =
    let same : Held other ≡ Ready = moved_only peer.places n Ready (Held other) is in cc

settled_keeps : (s : Settled) (id n : ℕ) (was : PeerPast) → IsHeldBy was.places id n
    → PeerKeeps id was (settled_as s n was)
settled_keeps s id n was held = record {
  conf = settled_conf s n was;
  parted = same_parted s;
  log = same_log s;
  more = (more_notes s).0;
  notes = (more_notes s).1;
  off = (more_notes s).2;
  prefix = λ state keeps. still_prefix s state keeps;
  acknowledged = λ mark has. still_above s mark has;
  others = λ other number apart.
      others_stay was.places (settled_as s n was).places id n other number apart
      (held_once was.places id other n held apart)
      (λ is. settled_free s n id other was held is) (settled_others s n was);
}
  where
    same_parted : (s : Settled) → (settled_as s n was).parted ≡ was.parted
    same_parted (Answered code) = refl
    same_parted (Dropped cause) = refl
    same_parted (Later moment) = refl
    same_parted Back = refl

    same_log : (s : Settled) → (settled_as s n was).tape.log ≡ was.tape.log
    same_log (Answered code) = refl
    same_log (Dropped cause) = refl
    same_log (Later moment) = refl
    same_log Back = refl

    more_notes : (s : Settled) → (more : List Note)
        × ((settled_as s n was).tape.history ≡ noted_all was.tape.history more) × AllByRecursion IsNoLine more
    more_notes (Answered code) = (Final n code ∷ [], refl, (tt, tt))
    more_notes (Dropped cause) = (Drop n cause ∷ [], refl, (tt, tt))
    more_notes (Later moment) = ([], none_noted was.tape.history, tt)
    more_notes Back = ([], none_noted was.tape.history, tt)

    still_prefix : (s : Settled) (state : State) → KeepsNotes was state → KeepsNotes (settled_as s n was) state
    still_prefix (Answered code) state keeps = prefix_noted was.tape.history (Final n code) state keeps
    still_prefix (Dropped cause) state keeps = prefix_noted was.tape.history (Drop n cause) state keeps
    still_prefix (Later moment) state keeps = keeps
    still_prefix Back state keeps = keeps

    still_above : (s : Settled) (mark : ℕ) → HasAcknowledged mark was → HasAcknowledged mark (settled_as s n was)
    still_above (Answered code) mark has = above_more mark was.tape.history (Final n code) has tt
    still_above (Dropped cause) mark has = above_more mark was.tape.history (Drop n cause) has tt
    still_above (Later moment) mark has = has
    still_above Back mark has = has

pub keeps_settled : (id now : ℕ) (outcome : Outcome) (was later : PeerPast) → SettlesAt id now outcome was later
    → PeerKeeps id was later
keeps_settled id now outcome was later is =
    subst (PeerKeeps id was) (sym is.changed)
    (settled_keeps (settling was now outcome) id (key_in outcome) was is.held)

-- a tape that was read
keeps_read : (id : ℕ) (was : PeerPast) (tape : TapePast) (places : Places) → IsReadTape was.tape tape
    → ((other number : ℕ) → (other ≡ id → ⊥) → IsHeldBy places other number ↔ IsHeldBy was.places other number)
    → PeerKeeps id was (record { conf = was.conf; tape = tape; places = places; parted = was.parted })
keeps_read id was tape places reads others =
    let same : tape.history ≡ was.tape.history = ap (λ (t : TapePast). t.history) reads.all in
    record {
      conf = refl;
      parted = refl;
      log = ap (λ (t : TapePast). t.log) reads.all;
      more = [];
      notes = same ∙ none_noted was.tape.history;
      off = tt;
      prefix = λ state keeps. subst (λ (h : History). IsPrefix h state) (sym same) keeps;
      acknowledged = λ mark has. subst (λ (h : History). AllByRecursion (IsAbove mark) (pending_notes h)) (sym same)
          has;
      others = others;
    }

pub keeps_with_tape : (id : ℕ) (was : PeerPast) (tape : TapePast) → IsReadTape was.tape tape
    → PeerKeeps id was (with_tape was tape)
keeps_with_tape id was tape reads = keeps_read id was tape was.places reads (λ other number apart. (λ is. is, λ is. is))

pub keeps_claims : (id now : ℕ) (debt : Owing) (was later : PeerPast) → ClaimsAt id now debt was later
    → PeerKeeps id was later
keeps_claims id now debt was later is =
    subst (PeerKeeps id was) (sym is.changed) (keeps_read id was is.tape (moved was.places debt.0 (Held id)) is.reads
    (λ other number apart. others_stay was.places (moved was.places debt.0 (Held id)) id debt.0 other number apart
    (is.free other)
    (λ held. apart (id_of (moved_only was.places debt.0 (Held id) (Held other) held)))
    (λ m differ. moved_other was.places debt.0 m (Held id) differ)))
  where
    id_of : {other : ℕ} → Held other ≡ Held id → other ≡ id
    id_of same = cc

pub keeps_returns : (id number : ℕ) (was later : PeerPast) → ReturnsAt id number was later → PeerKeeps id was later
keeps_returns id number was later is =
    subst (PeerKeeps id was) (sym is.changed) (settled_keeps Back id number was is.held)

-- ---- all peers

module _ (past : Past) (rank id : ℕ) (was now : PeerPast) (here : slice_get past.peers rank ≡ Some was)
    (keeps : PeerKeeps id was now) where
  pub safe_with : IsSafe past → IsSafe (with_peer past rank now)
  safe_with safe = record {
    peers = all_set (λ (peer : PeerPast). EachLedger (KeepsNotes peer) peer.tape.log) past.peers rank now safe.peers
        (subst (λ (log : Log). EachLedger (KeepsNotes now) log) (sym keeps.log)
        (EachLedger-weaker (KeepsNotes was) (KeepsNotes now) keeps.prefix was.tape.log
        (all_at (λ (peer : PeerPast). EachLedger (KeepsNotes peer) peer.tape.log) past.peers rank was safe.peers
        here)));
    intake = EachLedger-weaker (KeepsLines past.intake.history past.peers)
        (KeepsLines past.intake.history (set past.peers rank now))
        (λ state lines. record {
          prefix = lines.prefix;
          lines = all_set (HasAcknowledged state.mark) past.peers rank now lines.lines
              (keeps.acknowledged state.mark
              (all_at (HasAcknowledged state.mark) past.peers rank was lines.lines here));
        }) past.intake.log safe.intake;
  }

  pub sound_with : IsSound past → IsSound (with_peer past rank now)
  sound_with sound = record {
    names = names_set past rank was now sound.names here keeps.conf;
    fits = sound.fits;
    marked = sound.marked;
    acknowledged = all_set (HasAcknowledged (mark_at past.intake)) past.peers rank now sound.acknowledged
        (keeps.acknowledged (mark_at past.intake)
        (all_at (HasAcknowledged (mark_at past.intake)) past.peers rank was sound.acknowledged here));
    kept = sound.kept;
    parted = λ number is. all_set (HasParted number) past.peers rank now (sound.parted number is)
        (λ e. keeps.acknowledged number
        (all_at (HasParted number) past.peers rank was (sound.parted number is) here (sym keeps.parted ∙ e)));
  }

-- a peer in place of one that was itself put there
pub with_twice : (past : Past) (rank : ℕ) (mid now : PeerPast)
    → with_peer (with_peer past rank mid) rank now ≡ with_peer past rank now
with_twice past rank mid now = ap (λ peers. record past { peers = peers }) (set_twice past.peers rank mid now)

-- an element in place of itself
pub set_same : {A : Type 0} (xs : List A) (i : ℕ) (x : A) → slice_get xs i ≡ Some x → set xs i x ≡ xs
set_same [] i x here = refl
set_same (a ∷ xs) zero x here = let same : a ≡ x = cc in ap (λ b. b ∷ xs) (sym same)
set_same (a ∷ xs) (suc i) x here = ap (λ l. a ∷ l) (set_same xs i x here)

pub with_same : (past : Past) (rank : ℕ) (was : PeerPast) → slice_get past.peers rank ≡ Some was
    → with_peer past rank was ≡ past
with_same past rank was here = ap (λ peers. record past { peers = peers }) (set_same past.peers rank was here)

-- ---- a connection and its peer

-- what a step makes of them keeps what other connections have, and where they stand
abbrev pub KeepsPair : (id : ℕ) → (conn : ConnPast) → (peer : PeerPast) → (later_conn : ConnPast) → PeerPast → Type 0
KeepsPair id conn peer later_conn later = PeerKeeps id peer later × (later_conn.rank ≡ conn.rank)

pub keeps_all : (id now : ℕ) (was : PeerPast) (outcomes : List Outcome) (later : PeerPast)
    → AllSettleAt id now was outcomes later → PeerKeeps id was later
keeps_all id now was _ _ None_settled = keeps_same id was
keeps_all id now was _ _ (One_settled outcomes outcome mid later before one) =
    keeps_then id was mid later (keeps_all id now was outcomes mid before) (keeps_settled id now outcome mid later one)

pub keeps_given : (id now : ℕ) (debt : Owing) (was later : PeerPast) → GivesBackAt id now debt was later
    → PeerKeeps id was later
keeps_given id now debt was later is =
    keeps_then id was is.mid later (keeps_claims id now debt was is.mid is.claims)
    (keeps_returns id debt.0 is.mid later is.returns)

pub keeps_over : (id now : ℕ) (conn : ConnPast) (peer : PeerPast) (handed : Handover) (h : List Happening)
    (later : PeerPast) → HandsOver id now conn peer handed h later → PeerKeeps id peer later
keeps_over id now conn peer _ _ _ (None_there tape works none reads) = keeps_with_tape id peer tape reads
keeps_over id now conn peer _ _ _ (Taken_over debt later ready claims) = keeps_claims id now debt peer later claims
keeps_over id now conn peer _ _ _ (Has_no_room debt later ready gives) = keeps_given id now debt peer later gives
keeps_over id now conn peer _ _ _ (Is_shut debt later ready gives) = keeps_given id now debt peer later gives

pub keeps_offer : (id now : ℕ) (conn : ConnPast) (peer : PeerPast) (fault : Fault) (later : PeerPast)
    → FailsToOffer id now conn peer fault later → PeerKeeps id peer later
keeps_offer id now conn peer fault later (inl (tape, refused, changed)) =
    subst (PeerKeeps id peer) (sym changed) (keeps_with_tape id peer tape refused.1)
keeps_offer id now conn peer fault later (inr (memory, ready, (debt, gives))) =
    keeps_given id now debt peer later gives
