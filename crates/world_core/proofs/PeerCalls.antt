-- What the calls of a station make of its peer.
use Rattle.std.proofs.Common.{◌≡◌, ◌≢◌, ◌↔◌, ℕ, ◌≤◌, Bool, true, false, List, [], ◌∷◌, length, refl, sym, ap, ◌∙◌}
use Rattle.std.proofs.Common.{subst, inl, inr, arith}
use Rattle.disk_model.specs.declared.Disk.{Ghosts}
use Rattle.ledger_core.specs.State.{State}
use Rattle.recovery.specs.Notes.{flushed}
use Rattle.recovery.specs.DiskLaws.{log-read}
use Rattle.recovery.specs.Tape.{IsRead, StandsFor}
use Rattle.recovery.specs.Image.{Log, Survives, TapeLeaves}
use Rattle.recovery.specs.Leaving.{HasLedger, IsFullBy, LedgersLeave, LiesLeft, broken_of, pending_notes}
use Rattle.recovery.specs.LeavingLaws.{TapeLeaves-weaker, prefix_of_survives, full_by, pends_by, same_disks}
use Rattle.recovery.specs.Words.{IsBroken, IsFull, OneHasRisen, log_of, pending_of, faults_of}
use Rattle.recovery.specs.declared.tape.Tape.{Tape}
use Rattle.recovery.specs.declared.fault.TapeFault.{TapeFault}
use Rattle.recovery.specs.declared.fault.TapeFault.TheVariants.{Disk, TapeFull}
use Rattle.peer_queue.specs.Faults.{IsFlushFault}
use Rattle.peer_queue.specs.Calls.{KeepsDebts}
use Rattle.peer_queue.specs.Words.{IsSame, tape_of}
use Rattle.peer_queue.specs.declared.fault.StationFault.{StationFault}
use Rattle.peer_queue.specs.declared.fault.StationFault.TheVariants.{NotHeld, Broken, Tape as TapeRefused, NoMemory}
use Rattle.peer_queue.specs.declared.station.Station.{Station}
use Rattle.sections.specs.Tapes.{TapePast, Breaks, IsReadTape}
use Rattle.world_core.specs.Past.{PeerPast, with_tape}
use Rattle.world_core.specs.Safe.{KeepsNotes}
use Rattle.world_core.specs.Tapes.{IsFlushed, MayFlush, RefusesFlush}
use Rattle.world_core.specs.Fault.{fault_of_station}
use Rattle.world_core.specs.Stands.{PeerStands, TapeStands}
use Rattle.world_core.specs.declared.fault.Fault.{Fault}
use Rattle.world_core.specs.declared.peer.Peer.{Peer}

pub not_true : (b : Bool) → (b ≡ true → ⊥) → b ≡ false
not_true true never = absurd (never refl)
not_true false never = refl

empty : {A : Type 0} (l : List A) → length l ≡ 0 → l ≡ []
empty [] e = refl
empty (x ∷ l) e = absurd (omega (arith, e))

-- the moments of a call, by the ledgers that a stop leaves
pub keeps_moments : (past : PeerPast) (old new : Log) → TapeLeaves (Survives past.tape.history) old new
    → LedgersLeave (KeepsNotes past) old new
keeps_moments past old new moments =
    TapeLeaves-weaker (Survives past.tape.history) (HasLedger (KeepsNotes past)) (prefix_of_survives past.tape.history)
    old new moments

module _ {D : Type 0} {g : Ghosts D} where
  pub tape_works : (past : TapePast) (tape : Tape D g) → TapeStands past tape → (IsBroken tape → ⊥)
      → past.broken ≡ false
  tape_works past tape stands works = not_true past.broken (λ e. works (stands.broken ∙ e))

  pub tape_broken : (past : TapePast) (tape : Tape D g) → TapeStands past tape → IsBroken tape → past.broken ≡ true
  tape_broken past tape stands broken = sym stands.broken ∙ broken

  -- ---- how a flush of a tape that works is reported

  module _ (lies : LiesLeft g) (past : TapePast) (tape : Tape D g) (stands : TapeStands past tape)
      (works : IsBroken tape → ⊥) where
    -- it is full exactly if what lies on its disks and its history say so
    pub full_there : IsFullBy past.log past.history → IsFull tape
    full_there full = (full_by tape past.history lies stands.stands works).1
        (subst (λ (log : Log). IsFullBy log past.history) (sym stands.log) full)

    pub full_here : IsFull tape → IsFullBy past.log past.history
    full_here full = subst (λ (log : Log). IsFullBy log past.history) stands.log
        ((full_by tape past.history lies stands.stands works).0 full)

    -- no note pends at the tape exactly if none does in its history
    pub none_there : pending_notes past.history ≡ [] → pending_of tape ≡ 0
    none_there none = omega (arith, pends_by tape past.history stands.stands works, ap length none)

  module _ (lies : LiesLeft g) (P : State
      → Type 0) (past : TapePast) (old new : Tape D g) (stands : TapeStands past old)
      (moments : LedgersLeave P (log_of old) (log_of new)) where
    from_past : LedgersLeave P past.log (log_of new)
    from_past = subst (λ (log : Log). LedgersLeave P log (log_of new)) stands.log moments

    -- a flush that answered Ok
    pub flushed_as : (IsBroken old → ⊥) → (IsBroken new → ⊥) → (IsFull old → ⊥) → (pending_of old ≡ 0 → new ≡ old)
        → StandsFor new (flushed past.history)
        → faults_of new ≡ faults_of old
        → IsFlushed P past (record {
          history = flushed past.history;
          log = log_of new;
          faults = past.faults;
          broken =
              false;
        })
        × TapeStands (record {
          history = flushed past.history;
          log = log_of new;
          faults = past.faults;
          broken =
              false;
        }) new
    flushed_as worked works fits idle is quiet = (
      record {
        worked = tape_works past old stands worked;
        fits = λ full. fits (full_there lies past old stands worked full);
        idle = λ none. ap log_of (idle (none_there lies past old stands worked none)) ∙ stands.log;
        moments = from_past;
        all = refl;
      },
      record { stands = is; log = refl; faults = quiet ∙ stands.faults; broken = not_true (broken_of new) works },
    )

    -- a disk reported a fault
    pub broke_as : (IsBroken old → ⊥) → IsBroken new → OneHasRisen (faults_of old) (faults_of new)
        → StandsFor new past.history
        → Breaks P past (record { history = past.history; log = log_of new; faults = faults_of new; broken = true })
        × TapeStands (record { history = past.history; log = log_of new; faults = faults_of new; broken = true }) new
    broke_as worked broke risen is = (
      record {
        worked = tape_works past old stands worked;
        cause = subst (λ (faults : ℕ × ℕ). OneHasRisen faults (faults_of new)) stands.faults risen;
        moments = from_past;
        all = refl;
      },
      record { stands = is; log = refl; faults = refl; broken = broke },
    )

-- a flush of a tape was refused
pub record FlushedNot {D : Type 0} {g : Ghosts D} (P : State
    → Type 0) (past : TapePast) (fault : Fault) (tape : Tape D g) : Type 0 where
  pub later : TapePast
  pub refused : RefusesFlush P past fault later
  pub stands : TapeStands later tape

pub same_truth : (one other : Bool) → (one ≡ true ↔ other ≡ true) → other ≡ one
same_truth true other both = both.0 refl
same_truth false true both = sym (both.1 refl)
same_truth false false both = refl

-- the tape after it was read
abbrev pub read_now : {D : Type 0} {g : Ghosts D} → TapePast → Tape D g → TapePast
read_now past tape = record past { faults = faults_of tape }

module _ {D : Type 0} {g : Ghosts D} where
  -- it was read
  pub read_tape : (past : TapePast) (old new : Tape D g) → TapeStands past old → IsRead old new
      → IsReadTape past (read_now past new) × TapeStands (read_now past new) new
  read_tape past old new stands reads =
      let logs = log-read old new reads stands.stands.honest in (
        record {
          first = subst (λ (n : ℕ × ℕ). n.0 ≤ (faults_of new).0) stands.faults reads.continues.first;
          second = subst (λ (n : ℕ × ℕ). n.1 ≤ (faults_of new).1) stands.faults reads.continues.second;
          all = refl;
        },
        record {
          stands = reads.stands past.history stands.stands;
          log = logs ∙ stands.log;
          faults = refl;
          broken = same_truth (broken_of old) (broken_of new) reads.works ∙ stands.broken;
        },
      )

  -- nothing changed
  pub same_tape : (past : TapePast) (old new : Station D g) → TapeStands past old.tape
      → StandsFor new.tape past.history → IsSame old new
      → TapeStands past new.tape
  same_tape past old new stands is same =
      let here = same_disks new.tape old.tape same.disks in
      record {
        stands = is;
        log = here.0 ∙ stands.log;
        faults = here.1 ∙ stands.faults;
        broken = same_truth (broken_of old.tape) (broken_of new.tape) same.works ∙ stands.broken;
      }

  -- the tape is another one, and all debts are as they were
  pub with_station : (past : PeerPast) (old : Peer D g) (station : Station D g) (later : TapePast) → PeerStands past old
      → KeepsDebts old.station station → TapeStands later (tape_of station)
      → PeerStands (with_tape past later) (record old { station = station })
  with_station past old station later stands keeps tape = record {
    conf = stands.conf;
    limits = keeps.limits ∙ stands.limits;
    tape = tape;
    places = keeps.places ∙ stands.places;
    parted = stands.parted;
  }

  module _ (lies : LiesLeft g) (P : State
      → Type 0) (past : TapePast) (old new : Station D g) (stands : TapeStands past old.tape)
      (moments : LedgersLeave P (log_of old.tape) (log_of new.tape)) (is : StandsFor new.tape past.history) where
    -- some notes pend, and there is room for them
    may_flush : (IsBroken old.tape → ⊥) → (IsFull old.tape → ⊥) → (pending_of old.tape ≡ 0 → ⊥) → MayFlush past
    may_flush works fits some = (
      λ none. some (none_there lies past old.tape stands works none),
      λ full. fits (full_there lies past old.tape stands works full),
    )

    pub unflushed_as : (fault : StationFault) (refusal : Fault) → refusal ≡ fault_of_station fault
        → ((fault ≡ Broken) ↔ IsBroken old.tape)
        → ((fault ≡ TapeRefused TapeFull) ↔ ((IsBroken old.tape → ⊥) × IsFull old.tape))
        → (pending_of old.tape ≡ 0 → (IsBroken old.tape → ⊥) → ⊥) → IsFlushFault fault
        → (fault ≢ TapeRefused Disk → IsSame old new) → (fault ≡ TapeRefused Disk → IsBroken new.tape)
        → (fault ≡ TapeRefused Disk → OneHasRisen (faults_of old.tape) (faults_of new.tape))
        → FlushedNot P past refusal new.tape
    unflushed_as NotHeld refusal e broken full idle kind same breaks cause = absurd kind
    unflushed_as Broken refusal e broken full idle kind same breaks cause = record {
      later = past;
      refused = inl (e, tape_broken past old.tape stands (broken.0 refl), refl);
      stands = same_tape past old new stands is (same (λ is. cc));
    }
    unflushed_as (TapeRefused fault) refusal e broken full idle kind same breaks cause =
        let works : IsBroken old.tape → ⊥ = λ b. let never : TapeRefused fault ≡ Broken = broken.1 b in cc in
        elim kind [
          | inl long ↦ record {
            later = past;
            refused = inr (inl (
              e ∙ ap (λ f. fault_of_station (TapeRefused f)) long,
              tape_works past old.tape stands works,
              full_here lies past old.tape stands works (full.0 (ap TapeRefused long)).1,
              refl,
            ));
            stands = same_tape past old new stands is
                (same (λ never. let clash : TapeFull ≡ Disk = sym long ∙ refused_once never in cc));
          }
          | inr disk ↦
              let said_so : TapeRefused fault ≡ TapeRefused Disk = ap TapeRefused disk in
              let done = broke_as lies P past old.tape new.tape stands moments works (breaks said_so) (cause said_so)
              is in
              record {
                later = _;
                refused = inr (inr (inr (
                  e ∙ ap (λ f. fault_of_station (TapeRefused f)) disk,
                  may_flush works (λ f. let never : TapeRefused fault ≡ TapeRefused TapeFull = full.1 (works, f) in
                      let clash : TapeFull ≡ Disk = sym (refused_once never) ∙ disk in cc) (λ none. idle none works),
                  done.0,
                )));
                stands = done.1;
              }
        ]
      where
        refused_once : {one other : TapeFault} → TapeRefused one ≡ TapeRefused other → one ≡ other
        refused_once same = cc
    unflushed_as NoMemory refusal e broken full idle kind same breaks cause =
        let works : IsBroken old.tape → ⊥ = λ b. let never : NoMemory ≡ Broken = broken.1 b in cc in
        record {
          later = past;
          refused = inr (inr (inl (
            e,
            tape_works past old.tape stands works,
            may_flush works (λ f. let never : NoMemory ≡ TapeRefused TapeFull = full.1 (works, f) in
                cc) (λ none. idle none works),
            refl,
          )));
          stands = same_tape past old new stands is (same (λ is. cc));
        }
