-- What a line owed at a station makes of its peer.
use Rattle.std.proofs.Common.{◌≡◌, ◌≢◌, ◌↔◌, ℕ, ◌<◌, ◌≤◌, Bool, true, false, None, List, if◌then◌else◌, nat_lt}
use Rattle.std.proofs.Common.{refl, sym, ap, ◌∙◌, subst, inl, inr}
use Rattle.std.proofs.lemmas.Bool.{cases_lt, lt-ltb, le-ltb}
use Rattle.disk_model.specs.declared.Disk.{Ghosts}
use Rattle.ledger_core.specs.State.{IsNext, Overflows, State, keys, marks_of}
use Rattle.ledger_core.specs.StateLaws.{next-apart}
use Rattle.ledger_core.specs.Written.{IsWhole}
use Rattle.ledger_core.specs.WrittenLaws.{whole-after}
use Rattle.ledger_core.specs.declared.note.Note.{Note}
use Rattle.ledger_core.specs.declared.note.Note.TheVariants.{Owe}
use Rattle.ledger_core.specs.declared.ledger.LedgerFault.TheVariants.{CountFull}
use Rattle.recovery.specs.Leaving.{broken_of}
use Rattle.recovery.specs.LeavingLaws.{pends_by, same_disks}
use Rattle.recovery.specs.Notes.{History, most_pending}
use Rattle.recovery.specs.Tape.{StandsFor}
use Rattle.recovery.specs.Words.{IsBroken, ledger_of, pending_of}
use Rattle.recovery.specs.declared.tape.Tape.{Tape}
use Rattle.recovery.specs.declared.fault.TapeFault.{TapeFault}
use Rattle.recovery.specs.declared.fault.TapeFault.TheVariants.{Damaged, Disk, Broken as BrokenTape, TapeFull}
use Rattle.recovery.specs.declared.fault.TapeFault.TheVariants.{GenerationFull, PendingFull, NoMemory as NoTapeMemory}
use Rattle.recovery.specs.declared.fault.TapeFault.TheVariants.{Note as RefusedNote}
use Rattle.peer_queue.specs.Faults.{IsOweFault, IsOweTapeFault}
use Rattle.peer_queue.specs.DebtPlace.{Places, Ready, place_at, placed, with_place}
use Rattle.peer_queue.specs.Words.{IsSame, Notes, limits_of as station_limits, places_of, tape_of}
use Rattle.peer_queue.specs.declared.fault.StationFault.{StationFault}
use Rattle.peer_queue.specs.declared.fault.StationFault.TheVariants.{NotHeld, Broken, Tape as TapeRefused, NoMemory}
use Rattle.peer_queue.specs.declared.limits.Owed.{Owed}
use Rattle.peer_queue.specs.declared.limits.Owed.TheVariants.{Already, New}
use Rattle.peer_queue.specs.declared.station.Station.{Station}
use Rattle.sections.specs.Tapes.{TapePast, ledger_at}
use Rattle.world_core.specs.Past.{PeerPast}
use Rattle.world_core.specs.Tapes.{HasRoom, RefusesOwe, noted_at}
use Rattle.world_core.specs.Fault.{fault_of, fault_of_station}
use Rattle.world_core.specs.Stands.{OwedNot, OwedTo, PeerStands, TapeStands}
use Rattle.world_core.specs.declared.fault.Fault.{Fault}
use Rattle.world_core.specs.declared.peer.Peer.{Peer}
use Rattle.world_core.proofs.DebtPlaces.{no_place}
use Rattle.world_core.proofs.PeerCalls.{same_tape, same_truth, tape_broken, tape_works}

-- What a line of this number is at a peer, by its source's mark in the ledger; and its key, by the ledger.
abbrev answer_by : (State → ℕ) → ℕ → PeerPast → Owed
answer_by mark number past = if nat_lt (mark (ledger_at past.tape)) number then New else Already

abbrev key_by : (State → ℕ) → PeerPast → ℕ
key_by own past = own (ledger_at past.tape)

new_where : (mark : State → ℕ) (number : ℕ) (past : PeerPast) (above : Bool)
    → nat_lt (mark (ledger_at past.tape)) number ≡ above
    → answer_by mark number past ≡ (if above then New else Already)
new_where mark number past above e = ap (λ (b : Bool). if b then New else Already) e

module _ {D : Type 0} {g : Ghosts D} where
  -- one more note
  pub noted_tape : (past : TapePast) (old new : Station D g) (note : Note) → TapeStands past old.tape
      → Notes old new note
      → TapeStands (noted_at past note) new.tape
  noted_tape past old new note stands notes =
      let here = same_disks new.tape old.tape notes.disks in
      record {
        stands = notes.stands past.history stands.stands;
        log = here.0 ∙ stands.log;
        faults = here.1 ∙ stands.faults;
        broken = same_truth (broken_of old.tape) (broken_of new.tape) notes.works ∙ stands.broken;
      }

  -- nothing changed
  pub same_peer : (past : PeerPast) (old new : Peer D g) → PeerStands past old → IsSame old.station new.station
      → new.conf ≡ old.conf
      → new.parted ≡ old.parted → PeerStands past new
  same_peer past old new stands same conf parts = record {
    conf = conf ∙ stands.conf;
    limits = same.limits ∙ stands.limits;
    tape = same_tape past.tape old.station new.station stands.tape (same.stands past.tape.history stands.tape.stands)
        same;
    places = same.places ∙ stands.places;
    parted = parts ∙ stands.parted;
  }

  -- there is room if the tape says so
  pub room_here : (past : TapePast) (tape : Tape D g) → TapeStands past tape → (IsBroken tape → ⊥)
      → pending_of tape ≢ most_pending → HasRoom past
  room_here past tape stands works room = λ full. room (pends_by tape past.history stands.stands works ∙ full)

  pub no_room_here : (past : TapePast) (tape : Tape D g) → TapeStands past tape → (IsBroken tape → ⊥)
      → pending_of tape ≡ most_pending
      → HasRoom past → ⊥
  no_room_here past tape stands works full = λ room. room (sym (pends_by tape past.history stands.stands works) ∙ full)

  -- the ledger of a tape is whole, as that of any legal history is
  ledger_whole : (tape : Tape D g) (h : History) → StandsFor tape h → IsWhole (ledger_of tape)
  ledger_whole tape h stands =
      subst IsWhole (sym stands.ledger)
      (whole-after h.base h.notes stands.are_legal.notes_are stands.are_legal.legal stands.are_legal.whole)

  -- the number that may be noted next has no place
  unplaced : (number : ℕ) (past : PeerPast) (peer : Peer D g) → PeerStands past peer
      → placed (places_of peer.station) ≡ keys (ledger_of (tape_of peer.station))
      → IsNext (marks_of (ledger_of (tape_of peer.station))) number → place_at past.places number ≡ None
  unplaced number past peer stands are next =
      let state = ledger_of (tape_of peer.station) in
      let whole = ledger_whole (tape_of peer.station) past.tape.history stands.tape.stands in
      subst (λ (p : Places). place_at p number ≡ None) stands.places
      (no_place (places_of peer.station) number (keys state) are
      (next-apart (marks_of state) number (keys state) next whole.debts.past))

  module _ (mark own : State → ℕ) (number : ℕ) where
    owed_new : (past : PeerPast) (token id : List ℕ) (old new : Peer D g) → PeerStands past old
        → (IsBroken (tape_of old.station) → ⊥)
        → mark (ledger_at past.tape) < number → pending_of (tape_of old.station) ≢ most_pending
        → (Overflows (ledger_at past.tape) (Owe (key_by own past) token id) → ⊥)
        → placed (places_of old.station) ≡ keys (ledger_of (tape_of old.station))
        → Notes old.station new.station (Owe (key_by own past) token id)
        → places_of new.station ≡ with_place (places_of old.station) (key_by own past) Ready → new.conf ≡ old.conf
        → new.parted ≡ old.parted
        → OwedTo (answer_by mark number) (key_by own) token id past New new
    owed_new past token id old new stands works above room fits are notes places conf parts = record {
      works = tape_works past.tape (tape_of old.station) stands.tape works;
      owed_is = sym (new_where mark number past true (lt-ltb _ _ above));
      apart = λ _. unplaced (key_by own past) past old stands are notes.legal.0;
      room = λ _. (room_here past.tape (tape_of old.station) stands.tape works room, fits);
      stands = record {
        conf = conf ∙ stands.conf;
        limits = notes.limits ∙ stands.limits;
        tape = noted_tape past.tape old.station new.station (Owe (key_by own past) token id) stands.tape notes;
        places = places ∙ ap (λ (l : Places). with_place l (key_by own past) Ready) stands.places;
        parted = parts ∙ stands.parted;
      };
    }

    owed_old : (past : PeerPast) (token id : List ℕ) (peer : Peer D g) → PeerStands past peer
        → (IsBroken (tape_of peer.station) → ⊥)
        → number ≤ mark (ledger_of (tape_of peer.station))
        → OwedTo (answer_by mark number) (key_by own) token id past Already peer
    owed_old past token id peer stands works below =
        let there : number ≤ mark (ledger_at past.tape) =
        subst (λ (state : State). number ≤ mark state) stands.tape.stands.ledger below in
        record {
          works = tape_works past.tape (tape_of peer.station) stands.tape works;
          owed_is = sym (new_where mark number past false (le-ltb _ _ there));
          apart = λ e. cc;
          room = λ e. cc;
          stands = stands;
        }

    -- what a station returned
    pub owed_answered : (past : PeerPast) (token id : List ℕ) (old new : Peer D g) (owed : Owed)
        → PeerStands past old
        → (IsBroken (tape_of old.station) → ⊥)
        → (owed ≡ Already → number ≤ mark (ledger_of (tape_of old.station)))
        → (owed ≡ New → number ≤ mark (ledger_of (tape_of old.station)) → ⊥)
        → placed (places_of old.station) ≡ keys (ledger_of (tape_of old.station))
        → (owed ≡ Already → new.station ≡ old.station)
        → (owed ≡ New → Notes old.station new.station (Owe (own (ledger_of (tape_of old.station))) token id))
        → (owed ≡ New → places_of new.station
        ≡ with_place (places_of old.station) (own (ledger_of (tape_of old.station))) Ready)
        → (Overflows (ledger_of (tape_of old.station)) (Owe (own (ledger_of (tape_of old.station))) token id) → ⊥)
        → (mark (ledger_of (tape_of old.station)) < number → pending_of (tape_of old.station) ≢ most_pending)
        → new.conf ≡ old.conf → new.parted ≡ old.parted
        → OwedTo (answer_by mark number) (key_by own) token id past owed new
    owed_answered past token id old new New stands works below never are same notes places fits room conf parts =
        let is = stands.tape.stands.ledger in
        let above : mark (ledger_of (tape_of old.station)) < number =
        elim (cases_lt (mark (ledger_of (tape_of old.station))) number) [
          | inl over ↦ over
          | inr under ↦ absurd (never refl under)
        ] in
        owed_new past token id old new stands works (subst (λ (state : State). mark state < number) is above)
        (room above) (subst (λ (state : State). Overflows state (Owe (own state) token id) → ⊥) is fits) are
        (subst (λ (state : State). Notes old.station new.station (Owe (own state) token id)) is (notes refl))
        (subst (λ (state : State). places_of new.station ≡ with_place (places_of old.station) (own state) Ready) is
        (places refl)) conf parts
    owed_answered past token id old new Already stands works below never are same notes places fits room conf parts =
        let st = same refl in
        let stays : PeerStands past new = record {
          conf = conf ∙ stands.conf;
          limits = ap (λ (s : Station D g). station_limits s) st ∙ stands.limits;
          tape = subst (λ (s : Station D g). TapeStands past.tape s.tape) (sym st) stands.tape;
          places = ap (λ (s : Station D g). places_of s) st ∙ stands.places;
          parted = parts ∙ stands.parted;
        } in
        owed_old past token id new stays (subst (λ (s : Station D g). IsBroken s.tape → ⊥) (sym st) works)
        (subst (λ (s : Station D g). number ≤ mark (ledger_of s.tape)) (sym st) (below refl))

  -- ---- the line is refused

  module _ (past : TapePast) (old : Station D g) (note : Note) (stands : TapeStands past old.tape) where
    unowed_tape : (fault : TapeFault) (refusal : Fault) → refusal ≡ fault_of fault → (IsBroken old.tape → ⊥)
        → (TapeRefused fault ≡ TapeRefused (RefusedNote CountFull) → Overflows (ledger_of old.tape) note)
        → (TapeRefused fault ≡ TapeRefused PendingFull
        → (pending_of old.tape ≡ most_pending) × (Overflows (ledger_of old.tape) note → ⊥))
        → IsOweTapeFault fault → RefusesOwe past note refusal
    unowed_tape (Damaged segment at) refusal e works full pending kind = absurd kind
    unowed_tape Disk refusal e works full pending kind = absurd kind
    unowed_tape BrokenTape refusal e works full pending kind = absurd kind
    unowed_tape TapeFull refusal e works full pending kind = absurd kind
    unowed_tape GenerationFull refusal e works full pending kind = absurd kind
    unowed_tape PendingFull refusal e works full pending kind = inr (inr (inl (
      e,
      tape_works past old.tape stands works,
      subst (λ (state : State). Overflows state note → ⊥) stands.stands.ledger (pending refl).1,
      no_room_here past old.tape stands works (pending refl).0,
    )))
    unowed_tape NoTapeMemory refusal e works full pending kind = absurd kind
    unowed_tape (RefusedNote fault) refusal e works full pending kind =
        inr (inl (
          e ∙ ap (λ f. fault_of (RefusedNote f)) kind,
          tape_works past old.tape stands works,
          subst (λ (state : State). Overflows state note) stands.stands.ledger
              (full (ap (λ f. TapeRefused (RefusedNote f)) kind)),
        ))

    unowed : (fault : StationFault) (refusal : Fault) → refusal ≡ fault_of_station fault
        → ((fault ≡ Broken) ↔ IsBroken old.tape)
        → (fault ≡ TapeRefused (RefusedNote CountFull) → Overflows (ledger_of old.tape) note)
        → (fault ≡ TapeRefused PendingFull
        → (pending_of old.tape ≡ most_pending) × (Overflows (ledger_of old.tape) note → ⊥))
        → IsOweFault fault → RefusesOwe past note refusal
    unowed NotHeld refusal e broken full pending kind = absurd kind
    unowed Broken refusal e broken full pending kind = inl (e, tape_broken past old.tape stands (broken.0 refl))
    unowed (TapeRefused fault) refusal e broken full pending kind =
        unowed_tape fault refusal e (λ b. let is : TapeRefused fault ≡ Broken = broken.1 b in cc) full pending kind
    unowed NoMemory refusal e broken full pending kind =
        inr (inr (inr (e, tape_works past old.tape stands (λ b. let is : NoMemory ≡ Broken = broken.1 b in cc))))

  pub owed_refused : (mark own : State → ℕ) (past : PeerPast) (old new : Peer D g) (number : ℕ) (token id : List ℕ)
      → PeerStands past old
      → IsSame old.station new.station
      → new.conf ≡ old.conf → new.parted ≡ old.parted → (fault : StationFault) (refusal : Fault)
      → refusal ≡ fault_of_station fault
      → ((fault ≡ Broken) ↔ IsBroken (tape_of old.station))
      → (fault ≡ TapeRefused (RefusedNote CountFull)
      → Overflows (ledger_of (tape_of old.station)) (Owe (own (ledger_of (tape_of old.station))) token id))
      → (fault ≡ TapeRefused PendingFull
      → (pending_of (tape_of old.station) ≡ most_pending)
      × (Overflows (ledger_of (tape_of old.station)) (Owe (own (ledger_of (tape_of old.station))) token id) → ⊥))
      → IsOweFault fault
      → ((IsBroken (tape_of old.station) → ⊥) → number ≤ mark (ledger_of (tape_of old.station)) → ⊥)
      → OwedNot (answer_by mark number) (key_by own) token id past refusal new
  owed_refused mark own past old new number token id stands same conf parts fault refusal e broken full pending kind
      over =
      record {
        refused = (
          λ works. above_mark (λ b. let said_so = tape_broken past.tape (tape_of old.station) stands.tape b in cc),
          subst (λ (state : State). RefusesOwe past.tape (Owe (own state) token id) refusal) stands.tape.stands.ledger
              (unowed past.tape old.station (Owe (own (ledger_of (tape_of old.station))) token id) stands.tape fault
              refusal
              e broken full pending kind),
          refl,
        );
        stands = same_peer past old new stands same conf parts;
      }
    where
      above_mark : (IsBroken (tape_of old.station) → ⊥) → answer_by mark number past ≡ New
      above_mark works = elim (cases_lt (mark (ledger_at past.tape)) number) [
        | inl above ↦ new_where mark number past true (lt-ltb _ _ above)
        | inr below ↦ absurd (over works
            (subst (λ (state : State). number ≤ mark state) (sym stands.tape.stands.ledger) below))
      ]
