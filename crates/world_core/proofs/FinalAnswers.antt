-- Each final answer among a peer's notes has a verdict, which a connection came to as the steps went on.
use Rattle.std.proofs.Common.{◌≡◌, ◌⊎◌, ℕ, zero, suc, ◌+◌, Bool, true, false, cond, Option, None, Some, List, [], ◌∷◌}
use Rattle.std.proofs.Common.{take-append-drop, take}
use Rattle.std.proofs.Common.{◌++◌, drop, map, refl, sym, ap, ◌∙◌, subst, inl, inr, arith, append_assoc, append-nil}
use Rattle.std.specs.Prelude.{◌==◌, Contains, if◌then◌else◌, option_map}
use Rattle.std.proofs.Math.ListN.{set}
use Rattle.std.proofs.lemmas.Bool.{cases_eq, eq-eqb}
use Rattle.std.proofs.lemmas.Option.{slice_get-map}
use Rattle.std.specs.List.{AllByRecursion, AllZip, slice_get}
use Rattle.ledger_core.specs.State.{IsOwed, Owing, State, after as after_notes}
use Rattle.ledger_core.specs.StateLaws.{after-append}
use Rattle.ledger_core.specs.declared.note.Cause.{Cause}
use Rattle.ledger_core.specs.declared.note.Cause.TheVariants.{Limit}
use Rattle.ledger_core.specs.declared.note.FinalCode.{FinalCode}
use Rattle.ledger_core.specs.declared.note.Note.{Note}
use Rattle.ledger_core.specs.declared.note.Note.TheVariants.{Closed, Drop, Final, Owe, Seen}
use Rattle.conn_core.specs.Commands.{debt_in}
use Rattle.conn_core.specs.History.{End, Event as Happening, Offered, accepted, after, ends, outcomes}
use Rattle.conn_core.specs.Stands.{Arises}
use Rattle.conn_core.specs.declared.options.Options.{Options}
use Rattle.conn_core.specs.declared.outcome.Outcome.{Outcome}
use Rattle.conn_core.specs.declared.outcome.Outcome.TheVariants.{Back, Deferred, Final as FinalOutcome, Lost}
use Rattle.conn_core.specs.declared.verdict.Verdict.{Verdict}
use Rattle.conn_laws.specs.Laws.{AllAreTheirOwn, AllRight, IsRightAt}
use Rattle.feed_conf.specs.declared.conf.PeerConf.{PeerConf}
use Rattle.peer_queue.specs.Settled.{deferred_as, key_in, settled_by}
use Rattle.peer_queue.specs.declared.limits.Limits.{Limits}
use Rattle.peer_queue.specs.Shed.{dropped}
use Rattle.peer_queue.specs.declared.limits.Owed.{Owed}
use Rattle.peer_queue.specs.declared.limits.Owed.TheVariants.{Already, New}
use Rattle.peer_queue.specs.declared.settled.Settled.{Settled}
use Rattle.peer_queue.specs.declared.settled.Settled.TheVariants.{Answered, Dropped, Later, Ready}
use Rattle.recovery.specs.Notes.{History, ledger_after}
use Rattle.sections.specs.ListLaws.{at_all, contains_first, contains_more, zip_get}
use Rattle.sections.specs.Tapes.{StaysAcknowledged, TapePast}
use Rattle.world_core.specs.Past.{ConnPast, Life, Past, PeerPast, conn_at, limits_of, options_of, with_intake}
use Rattle.world_core.specs.Past.{with_last, with_peer, with_tape}
use Rattle.world_core.specs.Events.{Acknowledges, Claims, Closes, Does, Event, Imports, IsCandidate, Opens}
use Rattle.world_core.specs.Events.{OpensIntake, Owes, Parts, Returns, Rotates, Sees, Settles, Sheds, Spills, closing}
use Rattle.world_core.specs.Events.{import_key, imported_as, opened_peer, owed_as, owing_as, parted, settled}
use Rattle.world_core.specs.Events.{settled_as, settling, shed_peer}
use Rattle.world_core.specs.Tapes.{noted_at}
use Rattle.world_core.specs.Exchange.{AllSettleAt, IsConn, None_settled, OnPair, One_settled, at_moment, fresh_conn}
use Rattle.world_core.specs.Exchange.{unsettled, with_pair}
use Rattle.world_core.specs.Crashes.{Crashes}
use Rattle.world_core.specs.DropLaws.{AllAreAccountedFor, HasOutcome, HasOwe, HasReason, NotesSince}
use Rattle.world_core.specs.Keeping.{PeerStays, PeersStay}
use Rattle.world_core.specs.Laws.{AllFinalsAreRight, CameTo, Comes, HasVerdict, Passes, WasAccepted, WasTaken}
use Rattle.world_core.specs.Laws.Comes.{No_step, Step_taken, Step_refused, Crashed}
use Rattle.world_core.specs.Steps.{must_run}
use Rattle.world_core.specs.Runs.{RefusesStep, Takes}
use Rattle.world_core.specs.Safe.{IsSafe}
use Rattle.world_core.specs.Sound.{IsSoundConn, IsSoundLife}
use Rattle.world_core.specs.Output.{View}
use Rattle.world_core.specs.declared.fault.Fault.{Fault}
use Rattle.world_core.specs.declared.step.Step.{Step}
use Rattle.world_core.specs.declared.step.Step.TheVariants.{Hand, Tick}
use Rattle.world_core.proofs.ConnectionMade.{at_last}
use Rattle.world_core.proofs.AcknowledgedOverRuns.{all_stay}
use Rattle.world_core.proofs.Crashes.{crash_good}
use Rattle.world_core.proofs.DebtsLeave.{EndsDebt, IsEnd, Since, contains_either, contains_prefix, owed_from, owed_on}
use Rattle.world_core.proofs.DebtsLeave.{since_kept, since_more, since_same, since_taken, since_then, since_weaker}
use Rattle.world_core.proofs.TranscriptsGrow.{Grew, accepted_offered, ends_grew, grew_same, grew_then}
use Rattle.world_core.proofs.PairInWorld.{once, put_other}
use Rattle.world_core.proofs.PairGoesOn.{PairWent, Went, keeps_pair}
use Rattle.world_core.proofs.PeerInWorld.{get_apart, get_set}
use Rattle.world_core.proofs.MarksAndNotes.{last_all, prefix_all}
use Rattle.world_core.proofs.RecoveredNotes.{comes_safe, comes_sound}
use Rattle.world_core.proofs.WalkOverSteps.{Passage, refuses_make, takes_make}
use Rattle.world_core.proofs.WalkOverTapes.{HasSameNotes, HaveSameNotes, Keeper, KeepsEnds, OnPlans, OnTape}
use Rattle.world_core.proofs.WalkOverTapes.{SameButDisks, any_ends, crash_keeps, on_any, plans_on}

-- an element of a list, if a property holds of all of them
all_contained : {A : Type 0} (P : A → Type 0) (xs : List A) (x : A) → AllByRecursion P xs → Contains xs x → P x
all_contained P [] x all (k, below, is) = absurd (omega (arith, below))
all_contained P (y ∷ xs) x all (zero, below, is) = subst P is all.0
all_contained P (y ∷ xs) x all (suc k, below, is) = all_contained P xs x all.1 (k, omega (arith, below), is)

contains_one : {A : Type 0} (y x : A) → Contains (y ∷ []) x → y ≡ x
contains_one y x (zero, below, is) = is
contains_one y x (suc k, below, is) = absurd (omega (arith, below))

get_map : {A B : Type 0} (f : A → B) (xs : List A) (i : ℕ) (y : B) → slice_get (map f xs) i ≡ Some y
    → (x : A) × (slice_get xs i ≡ Some x) × (f x ≡ y)
get_map f [] i y is = let never : None ≡ Some y = is in cc
get_map f (x ∷ xs) zero y is = (x, refl, once (f x) y is)
get_map f (x ∷ xs) (suc i) y is = get_map f xs i y is

-- the element of the other list at the same place
zip_fore : {A B : Type 0} (R : A → B → Type 0) (xs : List A) (ys : List B) (k : ℕ) (x : A) → AllZip R xs ys
    → slice_get xs k ≡ Some x → (y : B) × (slice_get ys k ≡ Some y) × R x y
zip_fore R [] [] k x all here = absurd cc
zip_fore R [] (b ∷ ys) k x all here = absurd all
zip_fore R (a ∷ xs) [] k x all here = absurd all
zip_fore R (a ∷ xs) (b ∷ ys) zero x all here = (b, refl, subst (λ z. R z b) (once a x here) all.0)
zip_fore R (a ∷ xs) (b ∷ ys) (suc k) x all here = zip_fore R xs ys k x all.1 here

notes_of : (one other : TapePast) → one ≡ other → one.history.notes ≡ other.history.notes
notes_of one other same = ap (λ (t : TapePast). t.history.notes) same

-- ---- the note that ends a debt

-- this note, if the debt of this number ends so
abbrev EndsAs : Settled → ℕ → Note → Type 0
EndsAs (Answered code) number note = note ≡ Final number code
EndsAs (Dropped cause) number note = note ≡ Drop number cause
EndsAs (Later moment) number note = ⊥
EndsAs Ready number note = ⊥

no_deferred : (b : Bool) (now key number : ℕ) (code : FinalCode) → EndsAs (deferred_as b now) key (Final number code)
    → ⊥
no_deferred true now key number code is = cc
no_deferred false now key number code is = is

-- only a verdict makes a final answer
final_settled : (limits : Limits) (now : ℕ) (outcome : Outcome) (number : ℕ) (code : FinalCode)
    → EndsAs (settled_by limits now outcome) (key_in outcome) (Final number code)
    → (verdict : Verdict) × (outcome ≡ FinalOutcome verdict) × (verdict.debt.0 ≡ number) × (verdict.code ≡ code)
final_settled limits now (FinalOutcome verdict) number code is = (verdict, refl, cc, cc)
final_settled limits now (Deferred deferral) number code is =
    absurd (no_deferred limits.drop_deferred now (key_in (Deferred deferral)) number code is)
final_settled limits now (Lost debt cause) number code is = absurd cc
final_settled limits now (Back debt) number code is = absurd is

dropped_settled : (settled : Settled) (key number : ℕ) (cause : Cause) → EndsAs settled key (Drop number cause)
    → (settled ≡ Dropped cause) × (key ≡ number)
dropped_settled (Answered code) key number cause is = absurd cc
dropped_settled (Dropped other) key number cause is =
    let same : other ≡ cause = cc in
    (ap Dropped same, cc)
dropped_settled (Later moment) key number cause is = absurd is
dropped_settled Ready key number cause is = absurd is

-- ---- peers

-- what is claimed of a note that ends a debt: at which rank, which note
abbrev Says : Type 1
Says = ℕ → Note → Type 0

-- a peer had these settings, and each note that ends a debt was there before, or the claim holds of it
abbrev HasRight : Says → ℕ → PeerPast → PeerPast → Type 0
HasRight V rank was now = (now.conf ≡ was.conf) × Since (V rank) was.tape.history.notes now.tape.history.notes

-- the same for the peer at this rank
pub record PeerRight (V : Says) (was : List PeerPast) (rank : ℕ) (now : PeerPast) : Type 0 where
  pub before : PeerPast
  pub here : slice_get was rank ≡ Some before
  pub right : HasRight V rank before now

-- the same for all peers, and none is lost
pub record AllRightly (V : Says) (was now : List PeerPast) : Type 0 where
  pub fore : (rank : ℕ) (peer : PeerPast) → slice_get was rank ≡ Some peer
      → (later : PeerPast) × (slice_get now rank ≡ Some later) × (later.conf ≡ peer.conf)
  pub back : (rank : ℕ) (peer : PeerPast) → slice_get now rank ≡ Some peer → PeerRight V was rank peer

right_weaker : (V W : Says) → ((rank : ℕ) (note : Note) → V rank note → W rank note)
    → (was now : List PeerPast) → AllRightly V was now → AllRightly W was now
right_weaker V W weaker was now all = record {
  fore = all.fore;
  back = λ rank peer here.
      let one = all.back rank peer here in
      record {
        before = one.before;
        here = one.here;
        right = (
          one.right.0,
          since_weaker (V rank) (W rank) one.before.tape.history.notes peer.tape.history.notes (weaker rank)
              one.right.1,
        );
      };
}

module _ (V : Says) where
  abbrev AllRightSince : Past → Past → Type 0
  AllRightSince was now = AllRightly V was.peers now.peers

  right_notes : (rank : ℕ) (was now : PeerPast) → now.conf ≡ was.conf
      → now.tape.history.notes ≡ was.tape.history.notes
      → HasRight V rank was now
  right_notes rank was now conf same =
      (conf, since_same (V rank) was.tape.history.notes now.tape.history.notes same)

  right_more : (rank : ℕ) (was now : PeerPast) (more : List Note) → now.conf ≡ was.conf
      → now.tape.history.notes ≡ was.tape.history.notes ++ more
      → ((note : Note) → Contains more note → IsEnd note → V rank note)
      → HasRight V rank was now
  right_more rank was now more conf is each =
      (conf, since_more (V rank) was.tape.history.notes now.tape.history.notes more is each)

  -- one more note, which ends no debt
  right_noted : (rank : ℕ) (was now : PeerPast) (one : Note) → now.conf ≡ was.conf
      → now.tape.history.notes ≡ was.tape.history.notes ++ one ∷ []
      → (IsEnd one → ⊥)
      → HasRight V rank was now
  right_noted rank was now one conf is never =
      right_more rank was now (one ∷ []) conf is
      (λ note among end. absurd (never (subst IsEnd (sym (contains_one one note among)) end)))

  right_same : (rank : ℕ) (peer : PeerPast) → HasRight V rank peer peer
  right_same rank peer = right_notes rank peer peer refl refl

  all_same : (peers : List PeerPast) → AllRightly V peers peers
  all_same peers = record {
    fore = λ rank peer here. (peer, here, refl);
    back = λ rank peer here. record { before = peer; here = here; right = right_same rank peer };
  }

  right_then : (rank : ℕ) (was mid now : PeerPast) → HasRight V rank was mid → HasRight V rank mid now
      → HasRight V rank was now
  right_then rank was mid now one other = (
    other.0 ∙ one.0,
    since_then (V rank) was.tape.history.notes mid.tape.history.notes now.tape.history.notes one.1 other.1,
  )

  all_then : (was mid now : List PeerPast) → AllRightly V was mid → AllRightly V mid now → AllRightly V was now
  all_then was mid now one other = record {
    fore = λ rank peer here.
        let first = one.fore rank peer here in
        let second = other.fore rank first.0 first.1 in
        (second.0, second.1, second.2 ∙ first.2);
    back = λ rank peer here.
        let second = other.back rank peer here in
        let first = one.back rank second.before second.here in
        record {
          before = first.before;
          here = first.here;
          right = right_then rank first.before second.before peer first.right second.right;
        };
  }

  put_back : (peers : List PeerPast) (rank at : ℕ) (was now peer : PeerPast) → slice_get peers rank ≡ Some was
      → HasRight V rank was now → at ≡ rank → slice_get (set peers rank now) at ≡ Some peer
      → PeerRight V peers at peer
  put_back peers rank at was now peer here right same there =
      let own : now ≡ peer = once now peer (sym (get_set peers rank was now here)
      ∙ (ap (slice_get (set peers rank now)) (sym same) ∙ there)) in
      record {
        before = was;
        here = ap (slice_get peers) same ∙ here;
        right = subst (λ (p : PeerPast). HasRight V at was p) own
            (subst (λ (n : ℕ). HasRight V n was now) (sym same) right);
      }

  put_fore : (peers : List PeerPast) (rank at : ℕ) (was now peer : PeerPast) → slice_get peers rank ≡ Some was
      → now.conf ≡ was.conf → at ≡ rank → slice_get peers at ≡ Some peer
      → (later : PeerPast) × (slice_get (set peers rank now) at ≡ Some later) × (later.conf ≡ peer.conf)
  put_fore peers rank at was now peer here conf same there =
      let own : was ≡ peer = once was peer (sym here ∙ (ap (slice_get peers) (sym same) ∙ there)) in (
        now,
        ap (slice_get (set peers rank now)) same ∙ get_set peers rank was now here,
        conf ∙ ap (λ (p : PeerPast). p.conf) own,
      )

  all_put : (peers : List PeerPast) (rank : ℕ) (was now : PeerPast) → slice_get peers rank ≡ Some was
      → HasRight V rank was now
      → AllRightly V peers (set peers rank now)
  all_put peers rank was now here right = record {
    fore = λ at peer there. elim (cases_eq at rank) [
      | inl same ↦ put_fore peers rank at was now peer here right.0 same there
      | inr apart ↦ (peer, get_apart peers rank at now apart ∙ there, refl)
    ];
    back = λ at peer there. elim (cases_eq at rank) [
      | inl same ↦ put_back peers rank at was now peer here right same there
      | inr apart ↦ record {
        before = peer;
        here = sym (get_apart peers rank at now apart) ∙ there;
        right = right_same at peer;
      }
    ];
  }

  all_map : (f : PeerPast → PeerPast) → ((peer : PeerPast) → (f peer).conf ≡ peer.conf)
      → ((peer : PeerPast) → (f peer).tape.history.notes ≡ peer.tape.history.notes)
      → (peers : List PeerPast) → AllRightly V peers (map f peers)
  all_map f conf notes peers = record {
    fore = λ rank peer here. (f peer, slice_get-map f peers rank ∙ ap (option_map f) here, conf peer);
    back = λ rank peer here.
        let at = get_map f peers rank peer here in
        record {
          before = at.0;
          here = at.1;
          right = subst (λ (p : PeerPast). HasRight V rank at.0 p) at.2
              (right_notes rank at.0 (f at.0) (conf at.0) (notes at.0));
        };
  }

  one_put : (past later : Past) (rank : ℕ) (was now : PeerPast) → slice_get past.peers rank ≡ Some was
      → HasRight V rank was now
      → later ≡ with_peer past rank now → AllRightSince past later
  one_put past later rank was now here same is =
      subst (AllRightSince past) (sym is) (all_put past.peers rank was now here same)

  none_put : (past later : Past) → later.peers ≡ past.peers → AllRightSince past later
  none_put past later same =
      subst (λ (ps : List PeerPast). AllRightly V past.peers ps) (sym same) (all_same past.peers)

  -- ---- what an event makes of a peer

  owing_right : (rank : ℕ) (owed : Owed) (number : ℕ) (token id : List ℕ) (peer : PeerPast)
      → HasRight V rank peer (owing_as owed number token id peer)
  owing_right rank New number token id peer =
      right_noted rank peer (owing_as New number token id peer) (Owe number token id) refl refl (λ end. end)
  owing_right rank Already number token id peer = right_same rank peer

  -- a debt of this number was settled: the claim holds of the note that ends it
  ended_right : (rank : ℕ) (settled : Settled) (number : ℕ) (peer : PeerPast)
      → ((note : Note) → EndsAs settled number note → V rank note)
      → HasRight V rank peer (settled_as settled number peer)
  ended_right rank (Answered code) number peer right =
      right_more rank peer (settled_as (Answered code) number peer) (Final number code ∷ []) refl refl
      (λ note among end. right note (sym (contains_one (Final number code) note among)))
  ended_right rank (Dropped cause) number peer right =
      right_more rank peer (settled_as (Dropped cause) number peer) (Drop number cause ∷ []) refl refl
      (λ note among end. right note (sym (contains_one (Drop number cause) note among)))
  ended_right rank (Later moment) number peer right =
      right_notes rank peer (settled_as (Later moment) number peer) refl refl
  ended_right rank Ready number peer right = right_notes rank peer (settled_as Ready number peer) refl refl

  -- the claim holds of the note that an outcome makes at a peer of these settings
  abbrev IsRight : ℕ → PeerConf → ℕ → Outcome → Type 0
  IsRight rank conf now outcome = (note : Note)
      → EndsAs (settled_by (limits_of conf) now outcome) (key_in outcome) note → V rank note

  settled_right : (rank now : ℕ) (outcome : Outcome) (peer : PeerPast) → IsRight rank peer.conf now outcome
      → HasRight V rank peer (settled now outcome peer)
  settled_right rank now outcome peer right =
      ended_right rank (settling peer now outcome) (key_in outcome) peer right

  -- ---- events

  -- an event that is on no connection
  abbrev OffConns : Event → Type 0
  OffConns (Claims rank id now) = ⊥
  OffConns (Returns rank id number) = ⊥
  OffConns (Settles rank id now outcome) = ⊥
  OffConns event = Unit {0}

  off_conns : (event : Event) → OnTape event → OffConns event
  off_conns (Claims rank id now) on = on
  off_conns (Returns rank id number) on = on
  off_conns (Settles rank id now outcome) on = on
  off_conns event on = tt

  -- what is shed is dropped by notes of which the claim holds
  abbrev ClaimsShed : Type 0
  ClaimsShed = (rank number : ℕ) → V rank (Drop number Limit)

  shed_right : ClaimsShed → (rank : ℕ) (numbers : List ℕ) (note : Note) → Contains (dropped numbers) note
      → V rank note
  shed_right shed rank [] note (k, below, is) = absurd (omega (arith, below))
  shed_right shed rank (n ∷ numbers) note (zero, below, is) = subst (V rank) is (shed rank n)
  shed_right shed rank (n ∷ numbers) note (suc k, below, is) =
      shed_right shed rank numbers note (k, omega (arith, below), is)

  right_does : ClaimsShed → (event : Event) → OffConns event → (past later : Past) → Does event past later
      → AllRightSince past later
  right_does shed (Owes rank token id) right past later d =
      one_put past later rank d.peer _ d.here
      (owing_right rank (owed_as (past.last + 1) d.peer) (past.last + 1) token id d.peer) d.changed
  right_does shed (Imports rank number token id) right past later d =
      one_put past later rank d.peer _ d.here
      (owing_right rank (imported_as number d.peer) (import_key number d.peer) token id d.peer) d.changed
  right_does shed (Closes rank) right past later d =
      one_put past later rank d.peer (with_tape d.peer (noted_at d.peer.tape (closing d.peer))) d.here
      (right_noted rank d.peer (with_tape d.peer (noted_at d.peer.tape (closing d.peer))) (closing d.peer) refl refl
      (λ end. end)) d.changed
  right_does shed (Spills rank) right past later d =
      one_put past later rank d.peer (with_tape d.peer d.tape) d.here
      (right_notes rank d.peer (with_tape d.peer d.tape) refl (notes_of d.tape _ d.flushes.all)) d.changed
  right_does shed (Parts rank) right past later d =
      one_put past later rank d.peer (parted d.peer d.tape) d.here
      (right_notes rank d.peer (parted d.peer d.tape) refl (notes_of d.tape _ d.flushes.all)) d.changed
  right_does shed (Rotates rank generation) right past later d =
      one_put past later rank d.peer (record d.peer { tape = d.tape }) d.here
      (right_notes rank d.peer (record d.peer { tape = d.tape }) refl (notes_of d.tape _ d.rotates.all)) d.changed
  right_does shed (Sheds rank numbers) right past later d =
      one_put past later rank d.peer (shed_peer numbers d.peer) d.here
      (right_more rank d.peer (shed_peer numbers d.peer) (dropped numbers) refl refl
      (λ note among end. shed_right shed rank numbers note among)) d.changed
  right_does shed (Claims rank id now) right past later d = absurd right
  right_does shed (Returns rank id number) right past later d = absurd right
  right_does shed (Settles rank id now outcome) right past later d = absurd right
  right_does shed (Sees number) right past later d = none_put past later (ap (λ (p : Past). p.peers) d.changed)
  right_does shed Acknowledges right past later d = none_put past later (ap (λ (p : Past). p.peers) d.changed)
  right_does shed (Opens rank) right past later d =
      one_put past later rank d.peer (opened_peer d.peer d.tape) d.here (
        refl,
        since_taken (V rank) d.opens.count d.peer.tape.history.notes d.tape.history.notes
            (notes_of d.tape _ d.opens.all),
      ) d.changed
  right_does shed OpensIntake right past later d = none_put past later (ap (λ (p : Past). p.peers) d.changed)

  -- outcomes that are right go to the peer
  right_all : (rank id now : ℕ) (peer : PeerPast) (os : List Outcome) (later : PeerPast)
      → AllByRecursion (IsRight rank peer.conf now) os → AllSettleAt id now peer os later → HasRight V rank peer later
  right_all rank id now peer _ _ all None_settled = right_same rank peer
  right_all rank id now peer _ _ all (One_settled os o mid later before one) =
      let first = right_all rank id now peer os mid (prefix_all (IsRight rank peer.conf now) os (o ∷ []) all) before in
      right_then rank peer mid later first
      (subst (HasRight V rank mid) (sym one.changed) (settled_right rank now o mid
      (subst (λ (conf : PeerConf). IsRight rank conf now o) (sym first.0)
      (last_all (IsRight rank peer.conf now) os o all))))

  -- ---- other tapes with the same notes, a number that is kept

  at_same : (was now : Past) (rank : ℕ) (peer : PeerPast) (tape : TapePast) → slice_get was.peers rank ≡ Some peer
      → now ≡ with_peer was rank (with_tape peer tape) → tape.history ≡ peer.tape.history
      → AllRightSince was now
  at_same was now rank peer tape here changed same =
      one_put was now rank peer (with_tape peer tape) here
      (right_notes rank peer (with_tape peer tape) refl (ap (λ (h : History). h.notes) same)) changed

  same_right : (was now : Past) → HaveSameNotes was now → AllRightSince was now
  same_right was now same = record {
    fore = λ rank peer here.
        let there = zip_fore HasSameNotes was.peers now.peers rank peer same here in
        (there.0, there.1, there.2.0);
    back = λ rank peer here.
        let there = zip_get HasSameNotes was.peers now.peers rank peer same here in
        record {
          before = there.0;
          here = there.1;
          right = right_notes rank there.0 peer there.2.0 (ap (λ (h : History). h.notes) there.2.1);
        };
  }

  begun_right : (peers : List PeerPast)
      → AllRightly V peers (map (λ (peer : PeerPast). record peer { parted = false }) peers)
  begun_right peers =
      all_map (λ (peer : PeerPast). record peer { parted = false }) (λ peer. refl) (λ peer. refl) peers

  abbrev rightly : ClaimsShed → Keeper
  rightly shed = record {
    ON = OffConns;
    KEEPS = AllRightSince;
    alike = λ past. none_put past past refl;
    joined = λ was mid now one other. all_then was.peers mid.peers now.peers one other;
    at_same = at_same;
    at_intake = λ was tape same. none_put was (with_intake was tape) refl;
    event_does = right_does shed;
    keeps_begun = λ past. begun_right past.peers;
  }

-- ---- connections by their numbers

abbrev Entry : Type 0
Entry = ℕ × ConnPast

abbrev put : ℕ → ConnPast → Entry → Entry
put id conn entry = if entry.0 == id then (id, conn) else entry

put_here_step : (b : Bool) (e : Entry) (conns : List Entry) (id : ℕ) (conn was : ConnPast) → (e.0 == id) ≡ b
    → (conn_at conns id ≡ Some was → conn_at (map (put id conn) conns) id ≡ Some conn)
    → cond b (Some e.1) (conn_at conns id) ≡ Some was
    → conn_at ((if b then (id, conn) else e) ∷ map (put id conn) conns) id ≡ Some conn
put_here_step true e conns id conn was is rest here =
    ap (λ (b : Bool). cond b (Some conn) (conn_at (map (put id conn) conns) id)) (eq-eqb id id refl)
put_here_step false e conns id conn was is rest here =
    ap (λ (b : Bool). cond b (Some e.1) (conn_at (map (put id conn) conns) id)) is ∙ rest here

-- the connection of this number is replaced, if there is one
put_here : (conns : List Entry) (id : ℕ) (conn was : ConnPast) → conn_at conns id ≡ Some was
    → conn_at (map (put id conn) conns) id ≡ Some conn
put_here [] id conn was here = let never : None ≡ Some was = here in cc
put_here (e ∷ conns) id conn was here =
    put_here_step (e.0 == id) e conns id conn was refl (put_here conns id conn was) here

put_own_step : (b : Bool) (e : Entry) (conns : List Entry) (id : ℕ) (conn found : ConnPast) → (e.0 == id) ≡ b
    → (conn_at (map (put id conn) conns) id ≡ Some found → found ≡ conn)
    → conn_at ((if b then (id, conn) else e) ∷ map (put id conn) conns) id ≡ Some found → found ≡ conn
put_own_step true e conns id conn found is rest here =
    sym (once conn found
    (sym (ap (λ (b : Bool). cond b (Some conn) (conn_at (map (put id conn) conns) id)) (eq-eqb id id refl)) ∙ here))
put_own_step false e conns id conn found is rest here =
    rest (sym (ap (λ (b : Bool). cond b (Some e.1) (conn_at (map (put id conn) conns) id)) is) ∙ here)

put_own : (conns : List Entry) (id : ℕ) (conn found : ConnPast)
    → conn_at (map (put id conn) conns) id ≡ Some found → found ≡ conn
put_own [] id conn found here = let never : None ≡ Some found = here in cc
put_own (e ∷ conns) id conn found here =
    put_own_step (e.0 == id) e conns id conn found refl (put_own conns id conn found) here

-- ---- what the connections of a world have accepted

-- which debts a connection of this number, to the peer at this rank, may have accepted
abbrev Owned : Type 1
Owned = ℕ → ℕ → Owing → Type 0

-- each debt that it has accepted is one of these
abbrev HasOwned : Owned → ℕ → ConnPast → Type 0
HasOwned O id conn = (ticket : ℕ) (debt : Owing) → slice_get (accepted conn.transcript) ticket ≡ Some debt
    → O conn.rank id debt

abbrev AllOwned : Owned → List Entry → Type 0
AllOwned O conns = (id : ℕ) (conn : ConnPast) → conn_at conns id ≡ Some conn → HasOwned O id conn

none_owned : (O : Owned) → AllOwned O []
none_owned O id conn here = let never : None ≡ Some conn = here in absurd cc

put_owned : (O : Owned) (conns : List Entry) (id : ℕ) (conn : ConnPast) → AllOwned O conns → HasOwned O id conn
    → AllOwned O (map (put id conn) conns)
put_owned O conns id conn all one at found here = elim (cases_eq at id) [
  | inl same ↦
      let own = put_own conns id conn found (sym (ap (conn_at (map (put id conn) conns)) same) ∙ here) in
      subst (λ (n : ℕ). HasOwned O n found) (sym same) (subst (HasOwned O id) (sym own) one)
  | inr apart ↦ all at found (sym (put_other conns id at conn apart) ∙ here)
]

-- one more connection, which has accepted nothing
push_owned : (O : Owned) (conns : List Entry) (number rank : ℕ) → AllOwned O conns
    → AllOwned O (conns ++ (number, fresh_conn rank) ∷ [])
push_owned O conns number rank all id found here =
    elim (at_last conns (number, fresh_conn rank) id found here) [
      | inl there ↦ all id found there
      | inr is ↦
          subst (HasOwned O id) (sym is) (λ ticket debt none. absurd (let never : None ≡ Some debt = none in cc))
    ]

-- the laws of one connection
abbrev pub VerdictsAreRight : Type 0
VerdictsAreRight = (options : Options) (h : List Happening) → Arises options h → AllRight options h

abbrev pub EndsAreOwn : Type 0
EndsAreOwn = (options : Options) (h : List Happening) → AllAreTheirOwn options h

all_dropped : {A : Type 0} (P : A → Type 0) (n : ℕ) (xs : List A) → AllByRecursion P xs
    → AllByRecursion P (drop n xs)
all_dropped P zero xs all = all
all_dropped P (suc n) [] all = tt
all_dropped P (suc n) (x ∷ xs) all = all_dropped P n xs all.1

all_mapped : (P : Outcome → Type 0) (xs all : List End) → ((x : End) → Contains xs x → Contains all x)
    → ((x : End) → Contains all x → P x.outcome) → AllByRecursion P (map (λ (x : End). x.outcome) xs)
all_mapped P [] all among each = tt
all_mapped P (x ∷ xs) all among each = (
  each x (among x (contains_first xs x)),
  all_mapped P xs all (λ y has. among y (contains_more xs x y has)) each,
)

-- what holds of all outcomes that came out holds of those that have not gone to the peer yet
unsettled_all : (P : Outcome → Type 0) (options : Options) (conn : ConnPast)
    → ((x : End) → Contains (ends options conn.transcript) x → P x.outcome)
    → AllByRecursion P (unsettled options conn)
unsettled_all P options conn each =
    let all = ends options conn.transcript in
    all_dropped P conn.settled (outcomes options conn.transcript) (all_mapped P all all (λ x has. has) each)

-- ---- outcomes in a world

-- a connection of this world, to the peer at this rank, has come to an outcome that makes this note
record HasCome (life : Life) (rank : ℕ) (note : Note) : Type 0 where
  id : ℕ
  conn : ConnPast
  peer : PeerPast
  is : IsConn id life conn peer
  its : conn.rank ≡ rank
  end : End
  among : Contains (ends (options_of peer.conf) conn.transcript) end
  moment : ℕ
  makes : EndsAs (settling peer moment end.outcome) (key_in end.outcome) note

-- the note drops what is shed
abbrev IsShed : Says
IsShed rank (Owe key token id) = ⊥
IsShed rank (Final key code) = ⊥
IsShed rank (Drop key cause) = cause ≡ Limit
IsShed rank (Seen number) = ⊥
IsShed rank (Closed source) = ⊥

-- or the claim holds of it
abbrev OrShed : Says → Says
OrShed V rank note = IsShed rank note ⊎ V rank note

-- what a step makes of a world whose connections have accepted only such debts
record Rights (O : Owned) (life later : Life) : Type 0 where
  right : AllRightly (OrShed (HasCome later)) life.past.peers later.past.peers
  owned : AllOwned O later.conns

-- each connection is still there, and no debt was accepted
abbrev Carries : Life → Life → Type 0
Carries life later = (id : ℕ) (conn : ConnPast) → conn_at life.conns id ≡ Some conn
    → (next : ConnPast) × (conn_at later.conns id ≡ Some next) × (next.rank ≡ conn.rank)
    × Grew conn.transcript next.transcript

-- an outcome stays as its connection goes on
come_on : (V : Says) (life later : Life) → Carries life later → AllRightly V life.past.peers later.past.peers
    → (rank : ℕ) (note : Note) → HasCome life rank note → HasCome later rank note
come_on V life later carries all rank note come =
    let next = carries come.id come.conn come.is.conn_is in
    let peer = all.fore come.conn.rank come.peer come.is.peer_is in
    let here : slice_get later.past.peers next.0.rank ≡ Some peer.0 =
    ap (slice_get later.past.peers) next.2 ∙ peer.1 in
    record {
      id = come.id;
      conn = next.0;
      peer = peer.0;
      is = record { conn_is = next.1; peer_is = here };
      its = next.2 ∙ come.its;
      end = come.end;
      among = subst (λ (conf : PeerConf). Contains (ends (options_of conf) next.0.transcript) come.end) (sym peer.2)
          (ends_grew (options_of come.peer.conf) come.conn.transcript next.0.transcript next.3 come.end come.among);
      moment = come.moment;
      makes = subst (λ (conf : PeerConf).
          EndsAs (settled_by (limits_of conf) come.moment come.end.outcome) (key_in come.end.outcome) note) (sym peer.2)
          come.makes;
    }

or_come : (V : Says) (life later : Life) → Carries life later → AllRightly V life.past.peers later.past.peers
    → (rank : ℕ) (note : Note) → OrShed (HasCome life) rank note → OrShed (HasCome later) rank note
or_come V life later carries all rank note (inl shed) = inl shed
or_come V life later carries all rank note (inr come) = inr (come_on V life later carries all rank note come)

-- ---- steps

-- steps on tapes end debts only by shedding them
never_right : (V : Says) (was now : Past) → AllRightSince IsShed was now → AllRightSince (OrShed V) was now
never_right V was now all =
    right_weaker IsShed (OrShed V) (λ rank note shed. inl shed) was.peers now.peers all

abbrev on_tapes : Keeper
on_tapes = rightly IsShed (λ rank number. refl)

on_step : (step : Step) (life : Life) → OnPlans on_tapes step life
on_step step life runs =
    plans_on on_tapes step life.past (on_any on_tapes (off_conns IsShed) (λ rank. tt) tt (must_run step))

ends_step : (step : Step) → KeepsEnds on_tapes step
ends_step = any_ends on_tapes (λ was number. none_put IsShed was (with_last was number) refl)

same_step : (was now : Past) → SameButDisks was now → on_tapes.KEEPS was now
same_step was now same = same_right IsShed was now same.notes

-- if the step hands a debt over, the peer owed it
abbrev HandsOwed : Owned → Step → Life → Type 0
HandsOwed O step life = (rank id : ℕ) (debt : Owing) (conn : ConnPast) (peer : PeerPast) → step ≡ Hand id
    → IsConn id life conn peer → conn.rank ≡ rank
    → IsCandidate life.now peer debt → O rank id debt

-- ---- a step on a connection

module _ (O : Owned) (step : Step) (id : ℕ) (life later : Life) (t : OnPair (Went step) id life tt later) where
  open t use {conn, peer, is, later_conn, later_peer}

  abbrev went : PairWent step id life.now conn peer later_conn later_peer
  went = t.makes

  abbrev its_options : Options
  its_options = options_of peer.conf

  abbrev behind : Life
  behind = with_pair life id conn.rank later_conn later_peer

  next_there : conn_at behind.conns id ≡ Some later_conn
  next_there = put_here life.conns id later_conn conn is.conn_is

  -- the connection may have accepted the peer's least candidate, and nothing more
  new_owned : HandsOwed O step life → HasOwned O id conn → (ticket : ℕ) (debt : Owing)
      → slice_get (accepted went.new.transcript) ticket ≡ Some debt → O conn.rank id debt
  new_owned owes one ticket debt has = by went.came.accepts
    where
      by : Grew conn.transcript went.new.transcript
          ⊎ ((step ≡ Hand id) × ((debt : Owing) × IsCandidate life.now peer debt
          × (went.new.transcript ≡ after its_options conn.transcript (Offered debt)))) → O conn.rank id debt
      by (inl grew) = one ticket debt (sym (ap (λ (l : List Owing). slice_get l ticket) grew.same) ∙ has)
      by (inr (hand, (least, candidate, made))) =
          let there = sym (ap (λ (l : List Happening). slice_get (accepted l) ticket) made) ∙ has in
          elim (accepted_offered its_options conn.transcript least ticket debt there) [
            | inl first ↦ one ticket debt first
            | inr own ↦ subst (O conn.rank id) (sym own) (owes conn.rank id least conn peer hand is refl candidate)
          ]

  pair_right : HandsOwed O step life → AllOwned O life.conns → Rights O life later
  pair_right owes owned =
      let keeps = keeps_pair step id life.now conn peer later_conn later_peer went in
      let now_here = get_set life.past.peers conn.rank peer later_peer is.peer_is in
      let V = OrShed (HasCome behind) in
      let right : (x : End) → Contains (ends its_options went.new.transcript) x
      → IsRight V conn.rank went.mid.conf life.now x.outcome =
      λ x among note makes. inr (record {
        id = id;
        conn = later_conn;
        peer = later_peer;
        is = record { conn_is = next_there; peer_is = ap (slice_get behind.past.peers) went.rank ∙ now_here };
        its = went.rank;
        end = x;
        among = subst (λ (conf : PeerConf). Contains (ends (options_of conf) later_conn.transcript) x)
            (sym keeps.0.conf)
            (ends_grew its_options went.new.transcript later_conn.transcript went.grew x among);
        moment = life.now;
        makes = subst (λ (conf : PeerConf). EndsAs (settled_by (limits_of conf) life.now x.outcome) (key_in x.outcome)
            note) (went.came.keeps.conf ∙ sym keeps.0.conf) makes;
      }) in
      subst (Rights O life) (sym t.changed) (record {
        right = all_put V life.past.peers conn.rank peer later_peer is.peer_is
            (right_then V conn.rank peer went.mid later_peer
            (right_notes V conn.rank peer went.mid went.came.keeps.conf
            (ap (λ (history : History). history.notes) went.came.history))
            (right_all V conn.rank id life.now went.mid went.done later_peer
            (prefix_all (IsRight V conn.rank went.mid.conf life.now) went.done went.left
            (subst (AllByRecursion (IsRight V conn.rank went.mid.conf life.now)) went.split
            (unsettled_all (IsRight V conn.rank went.mid.conf life.now) its_options went.new right))) went.settles));
        owned = put_owned O life.conns id later_conn owned (λ ticket debt has.
            subst (λ (n : ℕ). O n id debt) (sym went.rank)
            (new_owned owes (owned id conn is.conn_is) ticket debt
            (sym (ap (λ (l : List Owing). slice_get l ticket) went.grew.same) ∙ has)));
      })

  -- a connection whose moment is set accepts no debt
  pair_carries : (step ≡ Hand id → ⊥) → Carries life later
  pair_carries other = subst (Carries life) (sym t.changed) (λ at found here. elim (cases_eq at id) [
    | inl same ↦
        let own = once found conn (sym here ∙ (ap (conn_at life.conns) same ∙ is.conn_is)) in (
          later_conn,
          ap (conn_at behind.conns) same ∙ next_there,
          went.rank ∙ ap (λ (c : ConnPast). c.rank) (sym own),
          subst (λ (c : ConnPast). Grew c.transcript later_conn.transcript) (sym own)
              (grew_then conn.transcript went.new.transcript later_conn.transcript (grew_new went.came.accepts)
              went.grew),
        )
    | inr apart ↦ (found, put_other life.conns id at later_conn apart ∙ here, refl, grew_same found.transcript)
  ])
    where
      grew_new : Grew conn.transcript went.new.transcript
          ⊎ ((step ≡ Hand id) × ((debt : Owing) × IsCandidate life.now peer debt
          × (went.new.transcript ≡ after its_options conn.transcript (Offered debt))))
          → Grew conn.transcript went.new.transcript
      grew_new (inl grew) = grew
      grew_new (inr accepts) = absurd (other accepts.0)

-- ---- any step

module _ (O : Owned) where
  -- what a step makes of a world, if the debts that it hands over were owed
  abbrev MakesRight : Step → Life → Life → Type 0
  MakesRight step life later = HandsOwed O step life → AllOwned O life.conns → Rights O life later

  changes_right : (step : Step) (life later : Life) → AllRightSince IsShed life.past later.past
      → later.conns ≡ life.conns → MakesRight step life later
  changes_right step life later right same owes owned = record {
    right = never_right (HasCome later) life.past later.past right;
    owned = subst (AllOwned O) (sym same) owned;
  }

  -- no connection is left
  halts_right : (step : Step) (life later : Life) → AllRightSince IsShed life.past later.past → later.conns ≡ []
      → MakesRight step life later
  halts_right step life later right none owes owned = record {
    right = never_right (HasCome later) life.past later.past right;
    owned = subst (AllOwned O) (sym none) (none_owned O);
  }

  connects_right : (step : Step) (life later : Life) (number rank : ℕ) → later.past ≡ life.past
      → later.conns ≡ life.conns ++ (number, fresh_conn rank) ∷ [] → MakesRight step life later
  connects_right step life later number rank same conns owes owned = record {
    right = none_put (OrShed (HasCome later)) life.past later.past (ap (λ (p : Past). p.peers) same);
    owned = subst (AllOwned O) (sym conns) (push_owned O life.conns number rank owned);
  }

  -- a tick hands nothing over
  moves_right : (now : ℕ) (life later : Life) → MakesRight (Tick now) (at_moment now life) later
      → MakesRight (Tick now) life later
  moves_right now life later makes owes owned =
      let rights = makes (λ rank id debt conn peer hand is its candidate. absurd cc) owned in
      record { right = rights.right; owned = rights.owned }

  -- the moment of one connection was set, and it went on
  ticks_right : (now : ℕ) (begun mid later : Life) (id : ℕ) → MakesRight (Tick now) begun mid
      → OnPair (Went (Tick now)) id mid tt later → MakesRight (Tick now) begun later
  ticks_right now begun mid later id makes t owes owned =
      let rights = makes owes owned in
      let went_right = pair_right O (Tick now) id mid later t
      (λ rank at debt conn peer hand is its candidate. absurd cc) rights.owned in
      let carries = pair_carries O (Tick now) id mid later t (λ hand. cc) in
      record {
        right = all_then (OrShed (HasCome later)) begun.past.peers mid.past.peers later.past.peers
            (right_weaker (OrShed (HasCome mid)) (OrShed (HasCome later))
            (or_come (OrShed (HasCome later)) mid later carries went_right.right) begun.past.peers mid.past.peers
            rights.right) went_right.right;
        owned = went_right.owned;
      }

  abbrev passage_right : Passage
  passage_right = record {
    tapes = on_tapes;
    keeps_same = same_step;
    MAKES = MakesRight;
    changes = changes_right;
    halts = halts_right;
    connects = connects_right;
    goes_on = pair_right O;
    moves = moves_right;
    ticks = ticks_right;
  }

-- ---- any steps

sound_at : (peers : List PeerPast) (conns : List Entry) (id : ℕ) (conn : ConnPast)
    → AllByRecursion (λ (entry : Entry). IsSoundConn peers entry.1) conns
    → conn_at conns id ≡ Some conn → IsSoundConn peers conn
sound_at peers [] id conn all here = let never : None ≡ Some conn = here in cc
sound_at peers (e ∷ conns) id conn all here =
    sound_step (e.0 == id) e (conn_at conns id) all.0 here (λ rest. sound_at peers conns id conn all.1 rest)
  where
    sound_step : (b : Bool) (e : Entry) (o : Option ConnPast) → IsSoundConn peers e.1
        → cond b (Some e.1) o ≡ Some conn
        → (o ≡ Some conn → IsSoundConn peers conn) → IsSoundConn peers conn
    sound_step true e o one is rest = subst (IsSoundConn peers) (once e.1 conn is) one
    sound_step false e o one is rest = rest is

module _ (law : VerdictsAreRight) (own : EndsAreOwn) where
  own_debt : (options : Options) (h : List Happening) (x : End) → Contains (ends options h) x
      → slice_get (accepted h) x.ticket ≡ Some (debt_in x.outcome)
  own_debt options h x among =
      all_contained (λ (y : End). slice_get (accepted h) y.ticket ≡ Some (debt_in y.outcome)) (ends options h) x
      (own options h) among

  -- in a sound world, each outcome that a connection has come to is right
  abbrev came_so : (life : Life) → IsSoundLife life → (rank : ℕ) (note : Note) (come : HasCome life rank note)
      → CameTo life rank come.id come.end.outcome
  came_so life sound rank note come =
      let options = options_of come.peer.conf in
      let h = come.conn.transcript in
      let is = sound_at life.past.peers life.conns come.id come.conn sound.conns.each come.is.conn_is in
      let same = once is.peer come.peer (sym is.here ∙ come.is.peer_is) in
      let arises : Arises options h = subst (λ (p : PeerPast). Arises (options_of p.conf) h) same is.arises in
      record {
        conn = come.conn;
        peer = come.peer;
        is = come.is;
        its = come.its;
        arises = arises;
        end = come.end;
        among = come.among;
        is_outcome = refl;
        own = own_debt options h come.end come.among;
        right = all_contained (λ (y : End). IsRightAt options h y.ticket y.outcome) (ends options h) come.end
            (law options h arises) come.among;
      }

  -- a step was taken, and reported this, or was refused, and reported nothing; or these steps were cut off by a crash
  abbrev IsNext : List Step → Life → List (List View) → Life → Type 0
  IsNext some life more later =
      ((step : Step) × (outputs : List View) × (some ≡ step ∷ []) × (more ≡ outputs ∷ [])
      × Takes step life outputs later)
      ⊎ ((step : Step) × (fault : Fault) × (some ≡ step ∷ []) × (more ≡ []) × RefusesStep step life fault later)
      ⊎ ((more ≡ []) × Crashes life some later)

  -- nothing more was reported
  none_more : (begun : Life) (steps : List Step) (lines more : List (List View)) (later : Life) → more ≡ []
      → Comes begun steps lines later → Comes begun steps (lines ++ more) later
  none_more begun steps lines more later none comes =
      subst (λ (l : List (List View)). Comes begun steps (lines ++ l) later) (sym none)
      (subst (λ (l : List (List View)). Comes begun steps l later) (sym (append-nil lines)) comes)

  comes_next : (begun : Life) (steps some : List Step) (lines more : List (List View)) (mid later : Life)
      → Comes begun steps lines mid → IsNext some mid more later → IsSafe later.past → IsSoundLife later
      → Comes begun (steps ++ some) (lines ++ more) later
  comes_next begun steps some lines more mid later comes (inl (step, outputs, one, is, takes)) safe sound =
      subst (λ (l : List Step). Comes begun (steps ++ l) (lines ++ more) later) (sym one)
      (subst (λ (l : List (List View)). Comes begun (steps ++ step ∷ []) (lines ++ l) later) (sym is)
      (Step_taken steps step lines outputs mid later comes takes safe sound))
  comes_next begun steps some lines more mid later comes (inr (inl (step, fault, one, is, refuses))) safe sound =
      subst (λ (l : List Step). Comes begun (steps ++ l) (lines ++ more) later) (sym one)
      (none_more begun (steps ++ step ∷ []) lines more later is
      (Step_refused steps step lines fault mid later comes refuses safe sound))
  comes_next begun steps some lines more mid later comes (inr (inr (is, crash))) safe sound =
      none_more begun (steps ++ some) lines more later is (Crashed steps some lines mid later comes crash)

  abbrev passes_last : (begun : Life) (steps : List Step) (lines : List (List View)) (later : Life)
      → Comes begun steps lines later → Passes begun steps lines later later
  passes_last begun steps lines later comes = record {
    first = steps;
    others = [];
    first_lines = lines;
    other_lines = [];
    steps_are = sym (append-nil steps);
    lines_are = sym (append-nil lines);
    made = comes;
    went_on = No_step (comes_safe begun steps lines later comes) (comes_sound begun steps lines later comes);
  }

  abbrev passes_on : (begun : Life) (steps : List Step) (lines : List (List View)) (mid : Life) (some : List Step)
      (more : List (List View)) (later life : Life)
      → IsNext some mid more later → IsSafe later.past → IsSoundLife later → Passes begun steps lines mid life
      → Passes begun (steps ++ some) (lines ++ more) later life
  passes_on begun steps lines mid some more later life next safe sound p = record {
    first = p.first;
    others = p.others ++ some;
    first_lines = p.first_lines;
    other_lines = p.other_lines ++ more;
    steps_are = ap (λ (l : List Step). l ++ some) p.steps_are ∙ append_assoc p.first p.others some;
    lines_are = ap (λ (l : List (List View)). l ++ more) p.lines_are ∙ append_assoc p.first_lines p.other_lines more;
    made = p.made;
    went_on = comes_next life p.others some p.other_lines more mid later p.went_on next safe sound;
  }

  -- which debts connections may have accepted
  abbrev RunOwned : Life → List Step → List (List View) → Life → Owned
  RunOwned begun steps lines later rank id debt =
      WasTaken begun steps lines later rank id debt ⊎ WasAccepted begun rank id debt

  -- a verdict or an outcome that came of these steps makes the note
  abbrev HasMade : Life → List Step → List (List View) → Life → Says
  HasMade begun steps lines later rank (Owe key token id) = Unit {0}
  HasMade begun steps lines later rank (Final number code) = HasVerdict begun steps lines later rank number code
  HasMade begun steps lines later rank (Drop number cause) = HasOutcome begun steps lines later rank number cause
  HasMade begun steps lines later rank (Seen number) = Unit {0}
  HasMade begun steps lines later rank (Closed source) = Unit {0}

  record RunRight (begun : Life) (steps : List Step) (lines : List (List View)) (later : Life) : Type 0 where
    right : AllRightly (OrShed (HasMade begun steps lines later)) begun.past.peers later.past.peers
    owned : AllOwned (RunOwned begun steps lines later) later.conns

  module _ (begun : Life) (steps some : List Step) (lines more : List (List View)) (life later : Life)
      (comes : Comes begun steps lines life) (one : IsNext some life more later) (safe : IsSafe later.past)
      (sound : IsSoundLife later) where
    abbrev all_steps : List Step
    all_steps = steps ++ some

    abbrev all_lines : List (List View)
    all_lines = lines ++ more

    abbrev passes_here : (at : Life) → Passes begun steps lines life at → Passes begun all_steps all_lines later at
    passes_here at p = passes_on begun steps lines life some more later at one safe sound p

    owned_on : (rank id : ℕ) (debt : Owing) → RunOwned begun steps lines life rank id debt
        → RunOwned begun all_steps all_lines later rank id debt
    owned_on rank id debt (inl was) = inl (record {
      life = was.life;
      passes = passes_here was.life was.passes;
      behind = was.behind ++ some;
      hand = ap (λ (l : List Step). l ++ some) was.hand;
      conn = was.conn;
      peer = was.peer;
      is = was.is;
      its = was.its;
      candidate = was.candidate;
    })
    owned_on rank id debt (inr was) = inr was

    made_on : (rank : ℕ) (note : Note) → HasMade begun steps lines life rank note
        → HasMade begun all_steps all_lines later rank note
    made_on rank (Owe key token id) made = tt
    made_on rank (Final number code) has = record {
      life = has.life;
      passes = passes_here has.life has.passes;
      id = has.id;
      verdict = has.verdict;
      came = has.came;
      of_number = has.of_number;
      of_code = has.of_code;
      owed = owned_on rank has.id has.verdict.debt has.owed;
    }
    made_on rank (Drop number cause) has = record {
      life = has.life;
      passes = passes_here has.life has.passes;
      id = has.id;
      outcome = has.outcome;
      came = has.came;
      moment = has.moment;
      settles = has.settles;
      of_number = has.of_number;
      owed = owned_on rank has.id (debt_in has.outcome) has.owed;
    }
    made_on rank (Seen number) made = tt
    made_on rank (Closed source) made = tt

    or_on : (rank : ℕ) (note : Note) → OrShed (HasMade begun steps lines life) rank note
        → OrShed (HasMade begun all_steps all_lines later) rank note
    or_on rank note (inl shed) = inl shed
    or_on rank note (inr made) = inr (made_on rank note made)

    abbrev OwnedNow : Owned
    OwnedNow = RunOwned begun all_steps all_lines later

    -- the connection took its debt over
    owed_now : AllOwned OwnedNow later.conns → (rank : ℕ) (note : Note) (come : HasCome later rank note)
        → OwnedNow rank come.id (debt_in come.end.outcome)
    owed_now owned rank note come =
        subst (λ (n : ℕ). OwnedNow n come.id (debt_in come.end.outcome)) come.its
        (owned come.id come.conn come.is.conn_is come.end.ticket (debt_in come.end.outcome)
        (own_debt (options_of come.peer.conf) come.conn.transcript come.end come.among))

    passes_now : Passes begun all_steps all_lines later later
    passes_now = passes_last begun all_steps all_lines later
        (comes_next begun steps some lines more life later comes one safe sound)

    made_now : AllOwned OwnedNow later.conns → (rank : ℕ) (note : Note) → HasCome later rank note
        → HasMade begun all_steps all_lines later rank note
    made_now owned rank (Owe key token id) come = tt
    made_now owned rank (Final number code) come =
        let is = final_settled (limits_of come.peer.conf) come.moment come.end.outcome number code come.makes in
        record {
          life = later;
          passes = passes_now;
          id = come.id;
          verdict = is.0;
          came = subst (CameTo later rank come.id) is.1 (came_so later sound rank (Final number code) come);
          of_number = is.2;
          of_code = is.3;
          owed = subst (λ (o : Outcome). OwnedNow rank come.id (debt_in o)) is.1
              (owed_now owned rank (Final number code) come);
        }
    made_now owned rank (Drop number cause) come =
        let is = dropped_settled (settling come.peer come.moment come.end.outcome) (key_in come.end.outcome) number
        cause come.makes in
        record {
          life = later;
          passes = passes_now;
          id = come.id;
          outcome = come.end.outcome;
          came = came_so later sound rank (Drop number cause) come;
          moment = come.moment;
          settles = is.0;
          of_number = is.1;
          owed = owed_now owned rank (Drop number cause) come;
        }
    made_now owned rank (Seen number) come = tt
    made_now owned rank (Closed source) come = tt

    or_now : AllOwned OwnedNow later.conns → (rank : ℕ) (note : Note) → OrShed (HasCome later) rank note
        → OrShed (HasMade begun all_steps all_lines later) rank note
    or_now owned rank note (inl shed) = inl shed
    or_now owned rank note (inr come) = inr (made_now owned rank note come)

    -- if the step hands a debt over, the peer owed it
    owes_now : (step : Step) → some ≡ step ∷ [] → HandsOwed OwnedNow step life
    owes_now step next rank id debt conn peer hand is its candidate = inl (record {
      life = life;
      passes = passes_here life (passes_last begun steps lines life comes);
      behind = [];
      hand = next ∙ ap (λ (s : Step). s ∷ []) hand;
      conn = conn;
      peer = peer;
      is = is;
      its = its;
      candidate = candidate;
    })

    next_right : IsNext some life more later → AllOwned OwnedNow life.conns → Rights OwnedNow life later
    next_right (inl (step, outputs, next, is, takes)) owned =
        takes_make (passage_right OwnedNow) step life outputs later (on_step step life) (ends_step step) takes
        (owes_now step next) owned
    next_right (inr (inl (step, fault, next, is, refuses))) owned =
        refuses_make (passage_right OwnedNow) step life fault later (on_step step life) refuses (owes_now step next)
        owned
    next_right (inr (inr (is, crash))) owned = record {
      right = never_right (HasCome later) life.past later.past
          (crash_keeps on_tapes same_step life some later
          (at_all (λ (step : Step). OnPlans on_tapes step life) some (λ i step here. on_step step life)) crash);
      owned = subst (λ (l : Life). AllOwned OwnedNow l.conns) (sym crash.changed) (none_owned OwnedNow);
    }

    run_goes : RunRight begun steps lines life → RunRight begun all_steps all_lines later
    run_goes before =
        let V = OrShed (HasMade begun all_steps all_lines later) in
        let now = next_right one (λ id conn here ticket debt is.
        owned_on conn.rank id debt (before.owned id conn here ticket debt is)) in
        record {
          right = all_then V begun.past.peers life.past.peers later.past.peers
              (right_weaker (OrShed (HasMade begun steps lines life)) V or_on begun.past.peers life.past.peers
              before.right)
              (right_weaker (OrShed (HasCome later)) V (or_now now.owned) life.past.peers later.past.peers now.right);
          owned = now.owned;
        }

  comes_right : (begun : Life) (steps : List Step) (lines : List (List View)) (later : Life)
      → Comes begun steps lines later
      → RunRight begun steps lines later
  comes_right begun _ _ _ (No_step safe sound) =
      record {
        right = all_same (OrShed (HasMade begun [] [] begun)) begun.past.peers;
        owned = λ id conn here ticket debt has.
            inr (record { conn = conn; is = here; its = refl; ticket = ticket; accepts = has });
      }
  comes_right begun _ _ _ (Step_taken steps step lines outputs life later comes takes safe sound) =
      run_goes begun steps (step ∷ []) lines (outputs ∷ []) life later comes
      (inl (step, outputs, refl, refl, takes)) safe sound (comes_right begun steps lines life comes)
  comes_right begun _ _ _ (Step_refused steps step lines fault life later comes refuses safe sound) =
      subst (λ (l : List (List View)). RunRight begun (steps ++ step ∷ []) l later) (append-nil lines)
      (run_goes begun steps (step ∷ []) lines [] life later comes (inr (inl (step, fault, refl, refl, refuses))) safe
      sound (comes_right begun steps lines life comes))
  comes_right begun _ _ _ (Crashed steps cut lines life later comes crash) =
      let good = crash_good life cut later crash (comes_safe begun steps lines life comes)
      (comes_sound begun steps lines life comes) in
      subst (λ (l : List (List View)). RunRight begun (steps ++ cut) l later) (append-nil lines)
      (run_goes begun steps cut lines [] life later comes (inr (inr (refl, crash))) good.0 good.1
      (comes_right begun steps lines life comes))

  -- a final answer since has its verdict
  final_since : (begun later : Life) (steps : List Step) (lines : List (List View)) (rank number : ℕ)
      (code : FinalCode)
      → OrShed (HasMade begun steps lines later) rank (Final number code)
      → HasVerdict begun steps lines later rank number code
  final_since begun later steps lines rank number code (inl shed) = absurd shed
  final_since begun later steps lines rank number code (inr made) = made

  pub finals_right : AllFinalsAreRight
  finals_right = λ begun later steps lines comes rank number code has.
      let all = (comes_right begun steps lines later comes).right in
      let at = all.back rank has.0 has.1 in
      let since = at.right.1 in
      let note = Final number code in
      elim (contains_either since.kept since.more note
      (subst (λ (notes : List Note). Contains notes note) since.now_is has.2)) [
        | inl before ↦ inl (
          at.before,
          at.here,
          subst (λ (notes : List Note). Contains notes note) (sym since.was_is)
              (contains_prefix since.kept since.lost note before),
        )
        | inr more ↦ inr (final_since begun later steps lines rank number code (since.each note more tt))
      ]

  -- ---- each debt is accounted for

  -- a note since that ends the debt of this number says why
  reason_of : (begun later : Life) (steps : List Step) (lines : List (List View)) (rank number : ℕ)
      (notes : List Note) (note : Note)
      → Contains notes note → EndsDebt number note
      → (IsEnd note → OrShed (HasMade begun steps lines later) rank note)
      → HasReason begun steps lines later rank number notes
  reason_of begun later steps lines rank number notes (Owe key token id) among ends says = absurd ends
  reason_of begun later steps lines rank number notes (Final key code) among ends says =
      subst (λ (n : ℕ). HasReason begun steps lines later rank n notes) ends
      (inl (code, among, final_since begun later steps lines rank key code (says tt)))
  reason_of begun later steps lines rank number notes (Drop key cause) among ends says =
      subst (λ (n : ℕ). HasReason begun steps lines later rank n notes) ends (inr (cause, among, says tt))
  reason_of begun later steps lines rank number notes (Seen n) among ends says = absurd ends
  reason_of begun later steps lines rank number notes (Closed source) among ends says = absurd ends

  -- a peer at the same rank
  stays_at : (begun later : Life) → PeersStay begun.past later.past → (rank : ℕ) (was now : PeerPast)
      → slice_get begun.past.peers rank ≡ Some was → slice_get later.past.peers rank ≡ Some now
      → StaysAcknowledged was.tape now.tape
  stays_at begun later stay rank was now here there =
      let is = zip_get PeerStays begun.past.peers later.past.peers rank now stay there in
      let same = once is.0 was (sym is.1 ∙ here) in
      subst (λ (p : PeerPast). StaysAcknowledged p.tape now.tape) same is.2.1

  pub all_accounted_for : AllAreAccountedFor
  all_accounted_for = λ begun later steps lines comes rank was now here there.
      let at = (comes_right begun steps lines later comes).right.back rank now there in
      let V = OrShed (HasMade begun steps lines later) rank in
      let since : Since V was.tape.history.notes now.tape.history.notes =
      subst (λ (p : PeerPast). Since V p.tape.history.notes now.tape.history.notes)
      (once at.before was (sym at.here ∙ here)) at.right.1 in
      let stays = stays_at begun later (all_stay begun later steps lines comes).peers rank was now here there in
      let first : now.tape.history.notes ≡ take was.tape.history.kept was.tape.history.notes
      ++ (stays.more ++ drop now.tape.history.kept now.tape.history.notes) =
      sym (take-append-drop now.tape.history.kept now.tape.history.notes)
      ∙ (ap (λ ns. ns ++ drop now.tape.history.kept now.tape.history.notes) stays.prefix
      ∙ append_assoc (take was.tape.history.kept was.tape.history.notes) stays.more
      (drop now.tape.history.kept now.tape.history.notes)) in
      let both = since_kept V was.tape.history now.tape.history since
      (stays.more ++ drop now.tape.history.kept now.tape.history.notes) first in
      record {
        since = both.0;
        each = λ number owed. accounted begun later steps lines rank number was.tape.history now.tape.history both.0
            both.1 stays.base owed;
      }
    where
      -- a debt that was owed after the notes that there were
      accounted : (begun later : Life) (steps : List Step) (lines : List (List View)) (rank number : ℕ)
          (was now : History) (since : NotesSince was now)
          → ((note : Note) → Contains since.more note → IsEnd note
          → OrShed (HasMade begun steps lines later) rank note)
          → now.base ≡ was.base → IsOwed (ledger_after was) number
          → IsOwed (ledger_after now) number ⊎ HasReason begun steps lines later rank number since.more
          ⊎ HasOwe since.lost number
      accounted begun later steps lines rank number was now since says base owed =
          let mid = after_notes was.base since.kept in
          let split : ledger_after was ≡ after_notes mid since.lost =
          ap (after_notes was.base) since.was_is ∙ after-append was.base since.kept since.lost in
          let join : ledger_after now ≡ after_notes mid since.more =
          ap (λ (state : State). after_notes state now.notes) base ∙ (ap (after_notes was.base) since.now_is
          ∙ after-append was.base since.kept since.more) in
          elim (owed_from mid since.lost number (subst (λ (state : State). IsOwed state number) split owed)) [
            | inl kept ↦ elim (owed_on mid since.more number kept) [
              | inl still ↦ inl (subst (λ (state : State). IsOwed state number) (sym join) still)
              | inr ended ↦ inr (inl (reason_of begun later steps lines rank number since.more ended.0 ended.1
                  ended.2 (says ended.0 ended.1)))
            ]
            | inr lost ↦ inr (inr lost)
          ]
