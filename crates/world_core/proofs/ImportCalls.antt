-- What the calls of an import make of the stations: one event after another.
use Rattle.std.proofs.Common.{◌≡◌, ℕ, zero, suc, ◌+◌, ◌<◌, ◌≤◌, ◌^◌, Bool, true, false, None, Some, List, [], ◌∷◌}
use Rattle.std.proofs.Common.{◌++◌, length, drop, map, cond, not, refl, sym, ap, ◌∙◌, subst, inl, inr, arith}
use Rattle.std.proofs.Common.{append_assoc, add-one, get_or, Result, IfErr}
use Rattle.std.specs.Prelude.{◌==◌, if◌then◌else◌, nat_lt, IfOk}
use Rattle.std.proofs.lemmas.Bool.{cases_lt, eq-eqb, le-ltb, lt-ltb, ne_eqb}
use Rattle.std.proofs.lemmas.List.{length_push}
use Rattle.std.specs.List.{AllZip, prefix_len, slice_get}
use Rattle.std.specs.Global.{Vec}
use Rattle.std.specs.Str.{bytes_eq}
use Rattle.std.proofs.Math.Seq.{drop-length}
use Rattle.disk_model.specs.declared.Disk.{Ghosts}
use Rattle.ledger_core.specs.Keys.{number-is, number_of}
use Rattle.ledger_core.specs.State.{State, step}
use Rattle.ledger_core.specs.StateLaws.{after-append}
use Rattle.ledger_core.specs.declared.note.Note.{Note}
use Rattle.ledger_core.specs.declared.note.Note.TheVariants.{Owe}
use Rattle.peer_queue.specs.Words.{tape_of}
use Rattle.peer_queue.specs.declared.limits.Owed.{Owed}
use Rattle.peer_queue.specs.declared.limits.Owed.TheVariants.{Already, New}
use Rattle.recovery.specs.Leaving.{pending_notes}
use Rattle.recovery.specs.LeavingLaws.{pends_by}
use Rattle.recovery.specs.Notes.{History, flushed, ledger_after, most_pending, noted}
use Rattle.recovery.specs.Words.{ledger_of, pending_of}
use Rattle.recovery.specs.declared.fault.TapeFault.TheVariants.{Broken}
use Rattle.sections.specs.Tapes.{TapePast, ledger_at}
use Rattle.world_core.specs.Past.{Past, PeerPast, rank_of, with_peer, with_tape}
use Rattle.world_core.specs.Events.{Closes, Does, Event, Imports, Refuses, RefusesAt, Spills, closing, import_key}
use Rattle.world_core.specs.Events.{import_mark_at, open_source, owing_as}
use Rattle.world_core.specs.Events.AllDo.{Start}
use Rattle.world_core.specs.Imports.{Good, HasGood, IsImport, close_events, count_new, good_events, import_events}
use Rattle.world_core.specs.Imports.{mark_behind, pending_behind, room_events, with_room}
use Rattle.world_core.specs.Importing.{BrokeAt, DidAt, HasImported, IsAt, IsBrokenAt, MadeNoRoom, MadeRoom}
use Rattle.world_core.specs.Importing.{answer_above, one_new, pending_for, room_for}
use Rattle.world_core.specs.Stands.{ClosedOne, DidOne, FailedOne, ImportedOne, PeerStands, Stands}
use Rattle.world_core.specs.Stepped.{Did, Failed, TookTapes, TookNot}
use Rattle.world_core.specs.Safe.{KeepsNotes}
use Rattle.world_core.specs.Steps.{IsPlan, Plan, planned}
use Rattle.world_core.specs.Tapes.{RefusesClose, RefusesFlush, RefusesNote, RefusesOwe}
use Rattle.world_core.specs.Output.{Imported as SaidImported, View, view_of}
use Rattle.world_core.specs.declared.fault.Fault.{Fault}
use Rattle.world_core.specs.declared.fault.Fault.TheVariants.{Tape}
use Rattle.world_core.specs.declared.peer.Peer.{Peer}
use Rattle.world_core.specs.declared.stations.Stations.{Stations}
use Rattle.world_core.specs.declared.step.Step.TheVariants.{Import}
use Rattle.world_core.specs.declared.output.Output.{Output}
use Rattle.world_core.specs.declared.output.Output.TheVariants.{Imported as OutputImported}
use Rattle.world_core.proofs.EventLists.{did_none, did_one, did_then, failed_before, failed_one, failed_then}
use Rattle.world_core.proofs.PeerInWorld.{get_set, with_same}
use Rattle.world_core.proofs.MarksAndNotes.{drop_push}
use Rattle.world_core.proofs.SoundOverEvents.{safe_of}
use Rattle.world_core.proofs.Results.{if_err_map, if_ok_map}
use Rattle.world_core.proofs.TapeSteps.{failed_by, took_by}

once : {A : Type 0} (x y : A) → Some x ≡ Some y → x ≡ y
once x y same = cc

apart : (b : Bool) → b ≡ false → b ≡ true → ⊥
apart b one other = let never : false ≡ true = sym one ∙ other in cc

there : (xs : List PeerPast) (i : ℕ) → i < length xs → (p : PeerPast) × (slice_get xs i ≡ Some p)
there [] i within = absurd (omega (arith, within))
there (x ∷ xs) zero within = (x, refl)
there (x ∷ xs) (suc i) within = there xs i (omega (arith, within))

within_step : (b : Bool) (n m i : ℕ) → nat_lt n m ≡ b → cond b (Some n) None ≡ Some i → i < m
within_step true n m i is found =
    let same : n ≡ i = once n i found in
    elim (cases_lt n m) [
      | inl less ↦ omega (arith, less, same)
      | inr more ↦ absurd (apart (nat_lt n m) (le-ltb n m more) is)
    ]
within_step false n m i is found = let never : None ≡ Some i = found in cc

-- the rank of a name is one of theirs
rank_within : (past : Past) (name : List ℕ) (rank : ℕ) → rank_of past name ≡ Some rank → rank < length past.peers
rank_within past name rank is =
    within_step _ (prefix_len (λ (peer : PeerPast). not (bytes_eq peer.conf.name name)) past.peers)
    (length past.peers) rank refl is

drop_here : {A : Type 0} (xs : List A) (k : ℕ) (x : A) → k < length xs → x ≡ get_or xs k x
    → drop k xs ≡ x ∷ drop (suc k) xs
drop_here [] k x within is = absurd (omega (arith, within))
drop_here (y ∷ xs) zero x within is = ap (λ z. z ∷ xs) (sym is)
drop_here (y ∷ xs) (suc k) x within is = drop_here xs k x (omega (arith, within)) is

-- the line at this place, and those after it
pub drop_next : {A : Type 0} (xs : List A) (k : ℕ) (x : A) → k < length xs → x ≡ get_or xs k x
    → drop k xs ≡ x ∷ drop (k + 1) xs
drop_next xs k x within is = drop_here xs k x within is ∙ ap (λ (n : ℕ). x ∷ drop n xs) (sym (add-one k))

pub drop_end : {A : Type 0} (xs : List A) (k : ℕ) → length xs ≤ k → drop k xs ≡ []
drop_end [] zero past = refl
drop_end [] (suc k) past = refl
drop_end (x ∷ xs) zero past = absurd (omega (arith, past))
drop_end (x ∷ xs) (suc k) past = drop_end xs k (omega (arith, past))

-- ---- the peer after an event

at_put : (past later : Past) (rank : ℕ) (was now : PeerPast) → slice_get past.peers rank ≡ Some was
    → later ≡ with_peer past rank now → slice_get later.peers rank ≡ Some now
at_put past later rank was now here is =
    ap (λ (p : Past). slice_get p.peers rank) is ∙ get_set past.peers rank was now here

-- nothing pends after a flush
at_spilled : (past later : Past) (rank source pending mark : ℕ) → IsAt past rank source pending mark
    → Does (Spills rank) past later → IsAt later rank source 0 mark
at_spilled past later rank source pending mark at d =
    let same : at.peer ≡ d.peer = once at.peer d.peer (sym at.here ∙ d.here) in
    let history : d.tape.history ≡ flushed d.peer.tape.history = ap (λ (t : TapePast). t.history) d.flushes.all in
    record {
      peer = with_tape d.peer d.tape;
      here = at_put past later rank d.peer (with_tape d.peer d.tape) d.here d.changed;
      source_is = ap (λ (h : History). (ledger_after h).closed + 1) history
          ∙ ap (λ (p : PeerPast). open_source p) (sym same) ∙ at.source_is;
      pending_is = ap (λ (h : History). length (pending_notes h)) history
          ∙ ap (λ (l : List Note). length l) (drop-length d.peer.tape.history.notes);
      mark_is = ap (λ (h : History). (ledger_after h).import_mark) history
          ∙ ap (λ (p : PeerPast). import_mark_at p) (sym same) ∙ at.mark_is;
    }

-- one more note
noted_ledger : (h : History) (note : Note) → ledger_after (noted h note) ≡ step (ledger_after h) note
noted_ledger h note = after-append h.base h.notes (note ∷ [])

noted_pending : (h : History) (note : Note) → h.kept ≤ length h.notes
    → length (pending_notes (noted h note)) ≡ length (pending_notes h) + 1
noted_pending h note within =
    ap (λ (l : List Note). length l) (drop_push h.kept h.notes note within) ∙ length_push (pending_notes h) note

-- the line's number becomes the mark of the open source
owed_mark : (number : ℕ) (token id : List ℕ) (peer : PeerPast) → number < 2 ^ 64
    → (step (ledger_at peer.tape) (Owe (import_key number peer) token id)).import_mark ≡ number
owed_mark number token id peer fits =
    let far : 2 ^ 64 ≤ import_key number peer = omega arith in
    ap (λ (b : Bool). if b then import_mark_at peer else number_of (import_key number peer))
    (le-ltb (import_key number peer) (2 ^ 64) far) ∙ number-is (open_source peer) number fits

module _ (past later : Past) (rank source pending mark number : ℕ) (token id : List ℕ)
    (at : IsAt past rank source pending mark)
    (d : Does (Imports rank number token id) past later)
    (within : d.peer.tape.history.kept ≤ length d.peer.tape.history.notes) (fits : number < 2 ^ 64) where
  same_peer : at.peer ≡ d.peer
  same_peer = once at.peer d.peer (sym at.here ∙ d.here)

  its_mark : import_mark_at d.peer ≡ mark
  its_mark = ap (λ (p : PeerPast). import_mark_at p) (sym same_peer) ∙ at.mark_is

  line_owed : (b : Bool) → nat_lt mark number ≡ b
      → later ≡ with_peer past rank (owing_as (if b then New else Already) (import_key number d.peer) token id d.peer)
  line_owed b is = d.changed ∙ ap (λ (o : Owed). with_peer past rank
      (owing_as o (import_key number d.peer) token id d.peer))
      (ap (λ (m : ℕ). if nat_lt m number then New else Already) its_mark
      ∙ ap (λ (c : Bool). if c then New else Already) is)

  at_line : (b : Bool) → nat_lt mark number ≡ b
      → IsAt later rank source (if b then pending + 1 else pending) (if b then number else mark)
  at_line true is =
      let h = d.peer.tape.history in
      let note = Owe (import_key number d.peer) token id in
      record {
        peer = owing_as New (import_key number d.peer) token id d.peer;
        here = at_put past later rank d.peer _ d.here (line_owed true is);
        source_is = ap (λ (state : State). state.closed + 1) (noted_ledger h note)
            ∙ ap (λ (p : PeerPast). open_source p) (sym same_peer) ∙ at.source_is;
        pending_is = noted_pending h note within
            ∙ ap (λ (p : PeerPast). length (pending_notes p.tape.history) + 1) (sym same_peer)
            ∙ ap (λ (n : ℕ). n + 1) at.pending_is;
        mark_is = ap (λ (state : State). state.import_mark) (noted_ledger h note) ∙ owed_mark number token id d.peer
            fits;
      }
  at_line false is = record {
    peer = d.peer;
    here = at_put past later rank d.peer d.peer d.here (line_owed false is);
    source_is = ap (λ (p : PeerPast). open_source p) (sym same_peer) ∙ at.source_is;
    pending_is = ap (λ (p : PeerPast). length (pending_notes p.tape.history)) (sym same_peer) ∙ at.pending_is;
    mark_is = its_mark;
  }

  at_imported : IsAt later rank source (if nat_lt mark number then pending + 1 else pending)
      (if nat_lt mark number then number else mark)
  at_imported = at_line (nat_lt mark number) refl

-- how many notes pend after a line, for which there was room
pending_both : (b : Bool) (w p : ℕ)
    → (if b then (if b then w else p) + 1 else (if b then w else p)) ≡ (if b then w + 1 else p)
pending_both true w p = refl
pending_both false w p = refl

-- ---- a broken tape refuses whichever event is first

-- a note that owes, or that closes a source, is refused there for that reason alone
owe_broken : (tape : TapePast) (note : Note) (fault : Fault) → tape.broken ≡ true → RefusesOwe tape note fault
    → fault ≡ Tape Broken
owe_broken tape note fault broken (inl is) = is.0
owe_broken tape note fault broken (inr (inl full)) = absurd (apart tape.broken full.1 broken)
owe_broken tape note fault broken (inr (inr (inl pending))) = absurd (apart tape.broken pending.1 broken)
owe_broken tape note fault broken (inr (inr (inr memory))) = absurd (apart tape.broken memory.1 broken)

note_broken : (tape : TapePast) (fault : Fault) → tape.broken ≡ true → RefusesNote tape fault → fault ≡ Tape Broken
note_broken tape fault broken (inl is) = is.0
note_broken tape fault broken (inr (inl full)) = absurd (apart tape.broken full.1 broken)
note_broken tape fault broken (inr (inr memory)) = absurd (apart tape.broken memory.1 broken)

-- its peer is this one
broken_there : (past : Past) (rank : ℕ) → IsBrokenAt past rank → (peer : PeerPast)
    → slice_get past.peers rank ≡ Some peer → peer.tape.broken ≡ true
broken_there past rank broken peer here =
    ap (λ (p : PeerPast). p.tape.broken) (once peer broken.0 (sym here ∙ broken.1)) ∙ broken.2

module _ {D : Type 0} {g : Ghosts D} where
  -- an event is refused there for that reason alone, and leaves the tape as it was
  broke_so : (R : PeerPast → Fault → TapePast → Type 0) (past : Past) (rank : ℕ) (event : Event) (fault : Fault)
      (stations : Stations D g) (failed : FailedOne past event fault stations) → IsBrokenAt past rank
      → RefusesAt R rank past fault failed.later
      → ((peer : PeerPast) (tape : TapePast) → peer.tape.broken ≡ true → R peer fault tape
      → (fault ≡ Tape Broken) × (tape ≡ peer.tape)) → BrokeAt past rank fault stations
  broke_so R past rank event fault stations failed broken r only =
      let is = only r.peer r.tape (broken_there past rank broken r.peer r.here) r.refused in
      record {
        broken = broken;
        fault_is = is.0;
        stands = subst (Stands stations) (r.changed
            ∙ ap (λ (t : TapePast). with_peer past rank (with_tape r.peer t)) is.1 ∙ with_same past rank r.peer r.here)
            failed.stands;
      }

  module _ (past : Past) (rank : ℕ) (fault : Fault) (stations : Stations D g)
      (broke : BrokeAt past rank fault stations) where
    abbrev peer_here : PeerPast
    peer_here = broke.broken.0

    first_fails : (event : Event) (R : PeerPast → Fault → TapePast → Type 0)
        → (RefusesAt R rank past (Tape Broken) past → Refuses event past (Tape Broken) past)
        → R peer_here (Tape Broken) peer_here.tape → (behind : List Event) → Failed past (event ∷ behind) fault stations
    first_fails event R refuses refused behind =
        subst (λ (f : Fault). Failed past (event ∷ behind) f stations) (sym broke.fault_is) (record {
          later = past;
          fails = record {
            count = 0;
            mid = past;
            event = event;
            prefix = Start;
            here = refl;
            refused = refuses (record {
              peer = peer_here;
              tape = peer_here.tape;
              here = broke.broken.1;
              refused = refused;
              changed = sym (with_same past rank peer_here broke.broken.1);
            });
            safe = safe_of stations past broke.stands;
          };
          stands = broke.stands;
        })

    spills_first : (behind : List Event) → Failed past (Spills rank ∷ behind) fault stations
    spills_first behind = first_fails (Spills rank) _ (λ r. r) (inl (refl, broke.broken.2, refl)) behind

    imports_first : (number : ℕ) (token id : List ℕ) (behind : List Event)
        → Failed past (Imports rank number token id ∷ behind) fault stations
    imports_first number token id behind = first_fails (Imports rank number token id) _ (λ r. r)
        (λ works. absurd (apart peer_here.tape.broken works broke.broken.2), inl (refl, broke.broken.2), refl) behind

    closes_first : (behind : List Event) → Failed past (Closes rank ∷ behind) fault stations
    closes_first behind = first_fails (Closes rank) _ (λ r. r) (
      inr (λ works. absurd (apart peer_here.tape.broken works broke.broken.2), inl (refl, broke.broken.2)),
      refl,
    ) behind

    line_step : (b c : Bool) (number : ℕ) (token id : List ℕ)
        → Failed past ((if b then (if c then Spills rank ∷ [] else []) else []) ++ Imports rank number token id ∷ [])
        fault stations
    line_step true true number token id = spills_first (Imports rank number token id ∷ [])
    line_step true false number token id = imports_first number token id []
    line_step false c number token id = imports_first number token id []

    line_broken : (pending mark : ℕ) (line : Good) → Failed past (good_events rank pending mark line) fault stations
    line_broken pending mark line =
        line_step (nat_lt mark line.0) (pending == most_pending) line.0 line.1.0 line.1.1

    close_step : (c : Bool)
        → Failed past ((if c then Spills rank ∷ [] else []) ++ Closes rank ∷ Spills rank ∷ []) fault stations
    close_step true = spills_first (Closes rank ∷ Spills rank ∷ [])
    close_step false = closes_first (Spills rank ∷ [])

    close_broken : (pending : ℕ) → Failed past (close_events rank pending) fault stations
    close_broken pending = close_step (pending == most_pending)

  -- ---- room for a note

  module _ (past : Past) (rank source pending mark : ℕ) (old : Stations D g) (stands : Stands old past)
      (at : IsAt past rank source pending mark) (was : Peer D g)
      (one : (p : PeerPast) × (slice_get past.peers rank ≡ Some p) × PeerStands p was) (room : ℕ)
      (counts : room + pending_of (tape_of was.station) ≡ most_pending) where
    same_one : at.peer ≡ one.0
    same_one = once at.peer one.0 (sym at.here ∙ one.1)

    -- this many notes pend at a tape that works
    pends : one.0.tape.broken ≡ false → pending_of (tape_of was.station) ≡ pending
    pends works =
        pends_by (tape_of was.station) one.0.tape.history one.2.tape.stands
        (λ b. apart one.0.tape.broken works (sym one.2.tape.broken ∙ b))
        ∙ ap (λ (p : PeerPast). length (pending_notes p.tape.history)) (sym same_one) ∙ at.pending_is

    -- there is room
    has_room : 0 < room → (b : Bool) → one.0.tape.broken ≡ b
        → MadeRoom past (room_events rank pending) rank source (with_room pending) mark old
    has_room some true is = inl ((one.0, one.1, is), stands)
    has_room some false is =
        let less : (pending == most_pending) ≡ false =
        ne_eqb pending most_pending (λ full. omega (arith, some, counts, pends is, full)) in
        inr (subst (λ (b : Bool). DidAt past (if b then Spills rank ∷ [] else []) rank source
        (if b then 0 else pending) mark old) (sym less)
        (record { did = did_none past old stands; at = at }))

    pub made_none : 0 < room → MadeRoom past (room_events rank pending) rank source (with_room pending) mark old
    made_none some = has_room some one.0.tape.broken refl

    module _ (none : room ≡ 0) (new : Stations D g) where
      full : one.0.tape.broken ≡ false → (pending == most_pending) ≡ true
      full works = eq-eqb pending most_pending (omega (arith, none, counts, pends works))

      works_there : (peer : PeerPast) → slice_get past.peers rank ≡ Some peer → peer.tape.broken ≡ false
          → one.0.tape.broken ≡ false
      works_there peer here works =
          ap (λ (p : PeerPast). p.tape.broken) (once one.0 peer (sym one.1 ∙ here)) ∙ works

      pub made_room : DidOne past (Spills rank) new
          → MadeRoom past (room_events rank pending) rank source (with_room pending) mark new
      made_room did =
          inr (subst (λ (b : Bool). DidAt past (if b then Spills rank ∷ [] else []) rank source
          (if b then 0 else pending) mark new)
          (sym (full (works_there did.does.peer did.does.here did.does.flushes.worked)))
          (record {
            did = did_one past (Spills rank) new did;
            at = at_spilled past did.later rank source pending mark at did.does;
          }))

      not_spilled : (fault : Fault) (failed : FailedOne past (Spills rank) fault new)
          → failed.refused.peer.tape.broken ≡ false → MadeNoRoom past (room_events rank pending) rank fault new
      not_spilled fault failed works =
          inr (subst (λ (b : Bool). Failed past (if b then Spills rank ∷ [] else []) fault new)
          (sym (full (works_there failed.refused.peer failed.refused.here works)))
          (failed_one past (Spills rank) fault new failed))

      by_fault : (fault : Fault) (failed : FailedOne past (Spills rank) fault new)
          → RefusesFlush (KeepsNotes failed.refused.peer) failed.refused.peer.tape fault failed.refused.tape
          → MadeNoRoom past (room_events rank pending) rank fault new
      by_fault fault failed (inl broken) =
          let r = failed.refused in
          let is : failed.later ≡ past =
          r.changed ∙ ap (λ (t : TapePast). with_peer past rank (with_tape r.peer t)) broken.2
          ∙ with_same past rank r.peer r.here in
          inl (record {
            broken = (r.peer, r.here, broken.1);
            fault_is = broken.0;
            stands = subst (Stands new) is failed.stands;
          })
      by_fault fault failed (inr (inl long)) = not_spilled fault failed long.1
      by_fault fault failed (inr (inr (inl memory))) = not_spilled fault failed memory.1
      by_fault fault failed (inr (inr (inr disk))) = not_spilled fault failed disk.2.worked

      pub unmade_room : (fault : Fault) → FailedOne past (Spills rank) fault new
          → MadeNoRoom past (room_events rank pending) rank fault new
      unmade_room fault failed = by_fault fault failed failed.refused.refused

  -- if the line is above the mark
  module _ (past : Past) (rank source pending mark number : ℕ) (stations : Stations D g) where
    pub room_above : mark < number
        → MadeRoom past (room_events rank pending) rank source (with_room pending) mark stations
        → MadeRoom past (room_for rank pending mark number) rank source (pending_for pending mark number) mark stations
    room_above above made =
        subst (λ (b : Bool). MadeRoom past (if b then room_events rank pending else []) rank source
        (if b then with_room pending else pending) mark stations) (sym (lt-ltb mark number above)) made

    pub no_room_above : (fault : Fault) → mark < number
        → MadeNoRoom past (room_events rank pending) rank fault stations
        → MadeNoRoom past (room_for rank pending mark number) rank fault stations
    no_room_above fault above made =
        subst (λ (b : Bool). MadeNoRoom past (if b then room_events rank pending else []) rank fault stations)
        (sym (lt-ltb mark number above)) made

    pub no_room_wanted : number ≤ mark → Stands stations past → IsAt past rank source pending mark
        → MadeRoom past (room_for rank pending mark number) rank source (pending_for pending mark number) mark stations
    no_room_wanted below stands at =
        subst (λ (b : Bool). MadeRoom past (if b then room_events rank pending else []) rank source
        (if b then with_room pending else pending) mark stations) (sym (le-ltb mark number below))
        (inr (record { did = did_none past stations stands; at = at }))

  -- the mark that the station returns is its peer's
  pub mark_there : (past : Past) (rank source pending mark : ℕ) (was : Peer D g)
      → IsAt past rank source pending mark
      → (p : PeerPast) × (slice_get past.peers rank ≡ Some p) × PeerStands p was
      → (ledger_of (tape_of was.station)).import_mark ≡ mark
  mark_there past rank source pending mark was at one =
      ap (λ (state : State). state.import_mark) one.2.tape.stands.ledger
      ∙ ap (λ (p : PeerPast). import_mark_at p) (once one.0 at.peer (sym one.1 ∙ at.here)) ∙ at.mark_is

  -- ---- a line

  -- a peer has no more notes acknowledged than it has notes
  kept_at : (xs : List PeerPast) (ys : List (Peer D g)) (i : ℕ) (p : PeerPast) → AllZip PeerStands xs ys
      → slice_get xs i ≡ Some p → p.tape.history.kept ≤ length p.tape.history.notes
  kept_at [] ys i p all here = absurd cc
  kept_at (x ∷ xs) [] i p all here = absurd all
  kept_at (x ∷ xs) (y ∷ ys) zero p all here =
      subst (λ (q : PeerPast). q.tape.history.kept ≤ length q.tape.history.notes) (once x p here)
      all.0.tape.stands.kept_within
  kept_at (x ∷ xs) (y ∷ ys) (suc i) p all here = kept_at xs ys i p all.1 here

  module _ (past : Past) (rank source pending mark : ℕ) (line : Good) (fits : line.0 < 2 ^ 64)
      (old new : Stations D g) where
    abbrev made : Type 0
    made = MadeRoom past (room_for rank pending mark line.0) rank source (pending_for pending mark line.0) mark old

    -- the line was owed, and there was room
    line_did : (d : DidAt past (room_for rank pending mark line.0) rank source (pending_for pending mark line.0) mark
        old)
        (owed : Owed) → ImportedOne d.did.later rank line.0 line.1.0 line.1.1 owed new
        → (owed ≡ answer_above mark line.0)
        × DidAt past (good_events rank pending mark line) rank source (pending_behind pending mark line)
        (mark_behind mark line) new
    line_did d owed o =
        let event = Imports rank line.0 line.1.0 line.1.1 in
        let within = kept_at d.did.later.peers old.peers.items rank o.did.does.peer d.did.stands.peers
        o.did.does.here in
        let at = at_imported d.did.later o.did.later rank source (pending_for pending mark line.0) mark line.0 line.1.0
        line.1.1 d.at o.did.does within fits in (
          o.owed_is
              ∙ ap (λ (m : ℕ). if nat_lt m line.0 then New else Already)
              (ap (λ (p : PeerPast). import_mark_at p) (once o.peer d.at.peer (sym o.here ∙ d.at.here)) ∙ d.at.mark_is),
          record {
            did = did_then past (room_for rank pending mark line.0) (event ∷ []) old new d.did
                (did_one d.did.later event new o.did);
            at = subst (λ (n : ℕ). IsAt o.did.later rank source n (mark_behind mark line))
                (pending_both (nat_lt mark line.0) (with_room pending) pending) at;
          },
        )

    pub line_took : made → (r : Result Owed Fault)
        → ((p : Past) → Stands old p → IfOk r (λ owed. ImportedOne p rank line.0 line.1.0 line.1.1 owed new))
        → IfOk r (λ owed. (owed ≡ answer_above mark line.0)
        × DidAt past (good_events rank pending mark line) rank source (pending_behind pending mark line)
        (mark_behind mark line) new)
    line_took (inl (broken, stands)) r reports = if_ok_map r _ _ (reports past stands) (λ owed o.
        let does = o.did.does in
        absurd (apart does.peer.tape.broken does.works (broken_there past rank broken does.peer does.here)))
    line_took (inr d) r reports = if_ok_map r _ _ (reports d.did.later d.did.stands) (line_did d)

    pub line_failed : {T : Type 0} → made → (r : Result T Fault)
        → ((p : Past) → Stands old p → IfErr r (λ fault.
        FailedOne p (Imports rank line.0 line.1.0 line.1.1) fault new))
        → IfErr r (λ fault. Failed past (good_events rank pending mark line) fault new)
    line_failed (inl (broken, stands)) r reports = if_err_map r _ _ (reports past stands) (λ fault failed.
        line_broken past rank fault new
        (broke_so _ past rank (Imports rank line.0 line.1.0 line.1.1) fault new failed broken failed.refused
        (λ peer tape is refused.
        (owe_broken peer.tape (Owe (import_key line.0 peer) line.1.0 line.1.1) fault is refused.1, refused.2)))
        pending mark line)
    line_failed (inr d) r reports = if_err_map r _ _ (reports d.did.later d.did.stands) (λ fault failed.
        let event = Imports rank line.0 line.1.0 line.1.1 in
        failed_then past (room_for rank pending mark line.0) (event ∷ []) fault old new d.did
        (failed_one d.did.later event fault new failed))

    pub line_no_room : (fault : Fault) → MadeNoRoom past (room_for rank pending mark line.0) rank fault old
        → Failed past (good_events rank pending mark line) fault old
    line_no_room fault (inl broke) = line_broken past rank fault old broke pending mark line
    line_no_room fault (inr failed) =
        failed_before past (room_for rank pending mark line.0) (Imports rank line.0 line.1.0 line.1.1 ∷ []) fault old
        failed

  -- ---- all lines

  pub imported_none : (past : Past) (rank source pending mark : ℕ) (lines : List Good) (stations : Stations D g)
      → Stands stations past → IsAt past rank source pending mark
      → HasImported past rank source pending mark lines lines 0 stations
  imported_none past rank source pending mark lines stations stands at = record {
    events = [];
    now_pending = pending;
    now_mark = mark;
    done = record { did = did_none past stations stands; at = at };
    split = refl;
    counted = omega arith;
  }

  module _ (past : Past) (rank source pending mark : ℕ) (all rest : List Good) (line : Good) (new : ℕ)
      (old stations : Stations D g)
      (has : HasImported past rank source pending mark all (line ∷ rest) new old) where
    count_more : (b : Bool) (owed : Owed) (more : ℕ) → owed ≡ (if b then New else Already)
        → new + ((if b then 1 else 0) + more) ≡ count_new mark all
        → new + one_new owed + more ≡ count_new mark all
    count_more true owed more is counted =
        let done : new + 1 + more ≡ count_new mark all = omega (arith, counted) in
        ap (λ (o : Owed). new + one_new o + more) is ∙ done
    count_more false owed more is counted =
        let done : new + 0 + more ≡ count_new mark all = omega (arith, counted) in
        ap (λ (o : Owed). new + one_new o + more) is ∙ done

    pub imported_more : (owed : Owed) → (owed ≡ answer_above has.now_mark line.0)
        × DidAt has.done.did.later (good_events rank has.now_pending has.now_mark line) rank source
        (pending_behind has.now_pending has.now_mark line) (mark_behind has.now_mark line) stations
        → HasImported past rank source pending mark all rest (new + one_new owed) stations
    imported_more owed (answer, d) = record {
      events = has.events ++ good_events rank has.now_pending has.now_mark line;
      now_pending = pending_behind has.now_pending has.now_mark line;
      now_mark = mark_behind has.now_mark line;
      done = record {
        did = did_then past has.events (good_events rank has.now_pending has.now_mark line) old stations has.done.did
            d.did;
        at = d.at;
      };
      split = has.split ∙ sym (append_assoc has.events (good_events rank has.now_pending has.now_mark line)
          (import_events rank (pending_behind has.now_pending has.now_mark line) (mark_behind has.now_mark line) rest));
      counted = count_more (nat_lt has.now_mark line.0) owed (count_new (mark_behind has.now_mark line) rest) answer
          has.counted;
    }

    pub imported_not : (fault : Fault)
        → Failed has.done.did.later (good_events rank has.now_pending has.now_mark line) fault stations
        → Failed past (import_events rank pending mark all) fault stations
    imported_not fault failed =
        let events = good_events rank has.now_pending has.now_mark line in
        let behind = import_events rank (pending_behind has.now_pending has.now_mark line)
        (mark_behind has.now_mark line) rest in
        subst (λ (es : List Event). Failed past es fault stations) (sym has.split)
        (failed_then past has.events (events ++ behind) fault old stations has.done.did
        (failed_before has.done.did.later events behind fault stations failed))

  -- ---- the close

  module _ (past : Past) (rank source pending mark : ℕ) (old mid : Stations D g) where
    pub close_no_room : (fault : Fault) → MadeNoRoom past (room_events rank pending) rank fault old
        → Failed past (close_events rank pending) fault old
    close_no_room fault (inl broke) = close_broken past rank fault old broke pending
    close_no_room fault (inr failed) =
        failed_before past (room_events rank pending) (Closes rank ∷ Spills rank ∷ []) fault old failed

    close_not : (tape : TapePast) (note : Note) (fault : Fault) → tape.broken ≡ true → RefusesClose tape note fault
        → fault ≡ Tape Broken
    close_not tape note fault broken (inl full) = absurd (apart tape.broken full.1 broken)
    close_not tape note fault broken (inr refused) = note_broken tape fault broken refused.1

    pub close_failed : MadeRoom past (room_events rank pending) rank source (with_room pending) mark old
        → (fault : Fault)
        → ((p : Past) → Stands old p → FailedOne p (Closes rank) fault mid)
        → Failed past (close_events rank pending) fault mid
    close_failed (inl (broken, stands)) fault reports =
        let failed = reports past stands in
        close_broken past rank fault mid
        (broke_so _ past rank (Closes rank) fault mid failed broken failed.refused
        (λ peer tape is refused. (close_not peer.tape (closing peer) fault is refused.0, refused.1))) pending
    close_failed (inr d) fault reports =
        failed_then past (room_events rank pending) (Closes rank ∷ Spills rank ∷ []) fault old mid d.did
        (failed_before d.did.later (Closes rank ∷ []) (Spills rank ∷ []) fault mid
        (failed_one d.did.later (Closes rank) fault mid (reports d.did.later d.did.stands)))

    -- the source was closed, and its peer must still be flushed
    pub closed_one : MadeRoom past (room_events rank pending) rank source (with_room pending) mark old → (closed : ℕ)
        → ((p : Past) → Stands old p → ClosedOne p rank closed mid)
        → (closed ≡ source) × Did past (room_events rank pending ++ Closes rank ∷ []) mid
    closed_one (inl (broken, stands)) closed reports =
        let does = (reports past stands).did.does in
        absurd (apart does.peer.tape.broken does.works (broken_there past rank broken does.peer does.here))
    closed_one (inr d) closed reports =
        let o = reports d.did.later d.did.stands in (
          o.source_is
              ∙ ap (λ (p : PeerPast). open_source p) (once o.peer d.at.peer (sym o.here ∙ d.at.here)) ∙ d.at.source_is,
          did_then past (room_events rank pending) (Closes rank ∷ []) old mid d.did
              (did_one d.did.later (Closes rank) mid o.did),
        )

    close_is : (room_events rank pending ++ Closes rank ∷ []) ++ Spills rank ∷ [] ≡ close_events rank pending
    close_is = append_assoc (room_events rank pending) (Closes rank ∷ []) (Spills rank ∷ [])

    module _ (new : Stations D g) (did : Did past (room_events rank pending ++ Closes rank ∷ []) mid) where
      pub closed_all : DidOne did.later (Spills rank) new → Did past (close_events rank pending) new
      closed_all one = subst (λ (es : List Event). Did past es new) close_is
          (did_then past (room_events rank pending ++ Closes rank ∷ []) (Spills rank ∷ []) mid new did
          (did_one did.later (Spills rank) new one))

      pub closed_not : (fault : Fault) → FailedOne did.later (Spills rank) fault new
          → Failed past (close_events rank pending) fault new
      closed_not fault one = subst (λ (es : List Event). Failed past es fault new) close_is
          (failed_then past (room_events rank pending ++ Closes rank ∷ []) (Spills rank ∷ []) fault mid new did
          (failed_one did.later (Spills rank) fault new one))

-- ---- the step

module _ (name : List ℕ) (text : Vec ℕ) (past : Past) (rank : ℕ) (named : rank_of past name ≡ Some rank)
    (lines : List Good) (has : HasGood text.items lines) where
  its_peer : (p : PeerPast) × (slice_get past.peers rank ≡ Some p)
  its_peer = there past.peers rank (rank_within past name rank named)

  abbrev source_here : ℕ
  source_here = open_source its_peer.0

  abbrev pending_here : ℕ
  pending_here = length (pending_notes its_peer.0.tape.history)

  abbrev mark_here : ℕ
  mark_here = import_mark_at its_peer.0

  at_first : IsAt past rank source_here pending_here mark_here
  at_first =
      record { peer = its_peer.0; here = its_peer.1; source_is = refl; pending_is = refl; mark_is = refl }

  abbrev is_import : IsImport name text.items past (import_events rank pending_here mark_here lines)
  is_import = record {
    rank = rank;
    peer = its_peer.0;
    lines = lines;
    named = named;
    here = its_peer.1;
    has = has;
    events_are = refl;
  }

  -- what the step reports
  abbrev tells_here : Past → List View
  tells_here later = SaidImported name source_here (count_new mark_here lines) ∷ []

  abbrev plan_here : Plan
  plan_here = planned past (import_events rank pending_here mark_here lines) tells_here

  is_plan : IsPlan (Import name text) past plan_here
  is_plan = (import_events rank pending_here mark_here lines, is_import, refl)

  module _ {D : Type 0} {g : Ghosts D} where
    pub import_failed : (old : Stations D g) → Stands old past → (fault : Fault) (new : Stations D g)
        → ((p : Past) (source pending mark : ℕ) → Stands old p → IsAt p rank source pending mark
        → Failed p (import_events rank pending mark lines) fault new)
        → TookNot (Import name text) past fault new
    import_failed old stands fault new reports =
        failed_by (Import name text) past plan_here fault new is_plan
        (reports past source_here pending_here mark_here stands at_first)

    module _ (old : Stations D g) (stands : Stands old past) (count : ℕ) (mid new : Stations D g)
        (imports : (p : Past) (source pending mark : ℕ) → Stands old p → IsAt p rank source pending mark
        → HasImported p rank source pending mark lines [] count mid) where
      each : HasImported past rank source_here pending_here mark_here lines [] count mid
      each = imports past source_here pending_here mark_here stands at_first

      pub import_not_closed : (fault : Fault)
          → ((p : Past) (source pending mark : ℕ) → Stands mid p → IsAt p rank source pending mark
          → Failed p (close_events rank pending) fault new)
          → TookNot (Import name text) past fault new
      import_not_closed fault reports =
          failed_by (Import name text) past plan_here fault new is_plan
          (subst (λ (es : List Event). Failed past es fault new) (sym each.split)
          (failed_then past each.events (close_events rank each.now_pending) fault mid new each.done.did
          (reports each.done.did.later source_here each.now_pending each.now_mark each.done.did.stands each.done.at)))

      pub import_took : (own : List ℕ) (closed : ℕ) (outputs : List Output) → own ≡ name
          → outputs ≡ OutputImported own closed count ∷ []
          → ((p : Past) (source pending mark : ℕ) → Stands mid p → IsAt p rank source pending mark
          → (closed ≡ source) × Did p (close_events rank pending) new)
          → TookTapes (Import name text) past outputs new
      import_took own closed outputs is reports closes =
          let closed_so = closes each.done.did.later source_here each.now_pending each.now_mark each.done.did.stands
          each.done.at in
          let counted : count ≡ count_new mark_here lines = omega (arith, each.counted) in
          took_by (Import name text) past past (import_events rank pending_here mark_here lines) tells_here outputs new
          is_plan
          (subst (λ (es : List Event). Did past es new) (sym each.split)
          (did_then past each.events (close_events rank each.now_pending) mid new each.done.did closed_so.1))
          (ap (map view_of) reports ∙ ap (λ (n : List ℕ). SaidImported n closed count ∷ []) is
          ∙ ap (λ (k : ℕ). SaidImported name k count ∷ []) closed_so.0
          ∙ ap (λ (k : ℕ). SaidImported name source_here k ∷ []) counted)
