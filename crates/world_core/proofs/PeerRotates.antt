-- What a rotation and a shedding at a station make of its peer.
use Rattle.std.proofs.Common.{◌≡◌, ◌≢◌, ◌↔◌, ℕ, ◌+◌, ◌-◌, ◌^◌, false, List, take, refl, sym, ap, ◌∙◌, subst, inl, inr}
use Rattle.disk_model.specs.declared.Disk.{Ghosts}
use Rattle.ledger_core.specs.State.{State}
use Rattle.recovery.specs.Leaving.{HasSegment, LedgersLeave, LiesLeft, broken_of}
use Rattle.recovery.specs.LeavingLaws.{pends_by, rotates_by, same_disks, segment_of}
use Rattle.recovery.specs.Image.{Log}
use Rattle.recovery.specs.Notes.{flushed, most_pending, noted_all}
use Rattle.recovery.specs.Tape.{IsRead as IsTapeRead, StandsFor}
use Rattle.recovery.specs.Words.{IsBroken, OneHasRisen, RotatesTooLong, disks_of, generation_of, ledger_of, log_of}
use Rattle.recovery.specs.Words.{pending_of, faults_of}
use Rattle.recovery.specs.declared.tape.Tape.{Tape}
use Rattle.recovery.specs.declared.fault.TapeFault.{TapeFault}
use Rattle.recovery.specs.declared.fault.TapeFault.TheVariants.{Disk, TapeFull, GenerationFull}
use Rattle.peer_queue.specs.Faults.{IsRotateFault}
use Rattle.peer_queue.specs.DebtPlace.{AreRising, AreUnheld, Places, all_gone}
use Rattle.peer_queue.specs.Shed.{IsShedSet, dropped}
use Rattle.peer_queue.specs.Station.{IsShed}
use Rattle.peer_queue.specs.Words.{limits_of as station_limits, places_of, tape_of}
use Rattle.peer_queue.specs.declared.fault.StationFault.{StationFault}
use Rattle.peer_queue.specs.declared.fault.StationFault.TheVariants.{NotHeld, Broken, Tape as TapeRefused, NoMemory}
use Rattle.peer_queue.specs.declared.limits.Limits.{Limits}
use Rattle.peer_queue.specs.declared.limits.Shed.{Shed}
use Rattle.peer_queue.specs.declared.station.Station.{Station}
use Rattle.peer_queue.specs.ShedLaws.{shed_unheld}
use Rattle.sections.specs.Tapes.{TapePast, ledger_at, IsReadTape}
use Rattle.world_core.specs.Past.{PeerPast, limits_of}
use Rattle.world_core.specs.Tapes.{ComesTo, IsRotated, LivesBy, RefusesAs, RefusesRotate, Rotation}
use Rattle.world_core.specs.Tapes.Rotation.{Is_broken, Is_last, Is_long, Fits}
use Rattle.world_core.specs.Fault.{fault_of_station}
use Rattle.world_core.specs.Stands.{PeerStands, ShedPeer, TapeStands}
use Rattle.world_core.specs.declared.fault.Fault.{Fault}
use Rattle.world_core.specs.declared.peer.Peer.{Peer}
use Rattle.world_core.proofs.PeerCalls.{broke_as, not_true, read_now, read_tape, same_truth, tape_broken, tape_works}

-- a rotation of a tape was refused
pub record RotatedNot {D : Type 0} {g : Ghosts D} (P : State
    → Type 0) (past : TapePast) (fault : Fault) (tape : Tape D g) : Type 0 where
  pub later : TapePast
  pub refused : RefusesRotate P past fault later
  pub stands : TapeStands later tape

segment_on : (log same : Log) (generation size : ℕ) → log ≡ same → HasSegment log generation size
    → (long : ℕ) × HasSegment same generation long
segment_on log same generation size is has = (size, subst (λ (l : Log). HasSegment l generation size) is has)

module _ {D : Type 0} {g : Ghosts D} where
  module _ (lies : LiesLeft g) (past : TapePast) (tape : Tape D g) (stands : TapeStands past tape)
      (works : IsBroken tape → ⊥) where
    -- the live segment on its disks
    lives_by : LivesBy past (generation_of tape)
    lives_by =
        let there = segment_on (log_of tape) past.log (generation_of tape) _ stands.log
        (segment_of tape past.history lies stands.stands works) in
        record { works = tape_works past tape stands works; size = there.0; lives = there.1 }

    is_long : generation_of tape ≢ 2 ^ 64 - 1 → RotatesTooLong tape → ComesTo past (generation_of tape) Is_long
    is_long greater long = (lives_by, greater, (rotates_by tape past.history stands.stands).0 long)

    may_rotate : generation_of tape ≢ 2 ^ 64 - 1 → (RotatesTooLong tape → ⊥) → ComesTo past (generation_of tape) Fits
    may_rotate greater fits =
        (lives_by, greater, λ long. fits ((rotates_by tape past.history stands.stands).1 long))

  module _ (lies : LiesLeft g) (P : State
      → Type 0) (past : TapePast) (old new : Tape D g) (stands : TapeStands past old)
      (moments : LedgersLeave P (log_of old) (log_of new)) where
    -- a rotation that returned this generation
    pub rotated_as : (generation : ℕ) → (IsBroken old → ⊥) → (IsBroken new → ⊥) → generation_of old ≢ 2 ^ 64 - 1
        → (RotatesTooLong old → ⊥)
        → generation ≡ generation_of old + 1 → generation_of new ≡ generation → StandsFor new (flushed past.history)
        → faults_of new ≡ faults_of old
        → IsRotated P generation past
        (record { history = flushed past.history; log = log_of new; faults = past.faults; broken = false })
        × TapeStands (record {
          history = flushed past.history;
          log = log_of new;
          faults = past.faults;
          broken =
              false;
        }) new
    rotated_as generation worked works greater fits next now is quiet =
        let rotated : TapePast =
        record { history = flushed past.history; log = log_of new; faults = past.faults; broken = false } in
        let later : TapeStands rotated new =
        record { stands = is; log = refl; faults = quiet ∙ stands.faults; broken = not_true (broken_of new) works }
        in (
          record {
            before = generation_of old;
            fits = may_rotate lies past old stands worked greater fits;
            next = next;
            now = subst (LivesBy rotated) now (lives_by lies rotated new later works);
            moments = subst (λ (log : Log). LedgersLeave P log (log_of new)) stands.log moments;
            all = refl;
          },
          later,
        )

  module _ (lies : LiesLeft g) (P : State
      → Type 0) (past : TapePast) (old new : Station D g) (stands : TapeStands past old.tape)
      (moments : LedgersLeave P (log_of old.tape) (log_of new.tape)) (is : StandsFor new.tape past.history) where
    -- it was refused, after what it would rewrite was read
    read_not : (refusal : Fault) (rotation : Rotation) → ComesTo past (generation_of old.tape) rotation
        → IsTapeRead old.tape new.tape
        → (IsReadTape past (read_now past new.tape) → RefusesAs P rotation past refusal (read_now past new.tape))
        → RotatedNot P past refusal new.tape
    read_not refusal rotation comes same refuses =
        let read = read_tape past old.tape new.tape stands same in
        record {
          later = read_now past new.tape;
          refused = (generation_of old.tape, rotation, comes, refuses read.0);
          stands = read.1;
        }

    pub unrotated_as : (fault : StationFault) (refusal : Fault) → refusal ≡ fault_of_station fault
        → ((fault ≡ Broken) ↔ IsBroken old.tape)
        → ((fault ≡ TapeRefused GenerationFull) ↔ ((IsBroken old.tape → ⊥) × (generation_of old.tape ≡ 2 ^ 64 - 1)))
        → ((fault ≡ TapeRefused TapeFull)
        ↔ ((IsBroken old.tape → ⊥) × (generation_of old.tape ≢ 2 ^ 64 - 1) × RotatesTooLong old.tape))
        → IsRotateFault fault → (fault ≢ TapeRefused Disk → IsTapeRead old.tape new.tape)
        → (fault ≡ TapeRefused Disk → IsBroken new.tape)
        → (fault ≡ TapeRefused Disk → OneHasRisen (faults_of old.tape) (faults_of new.tape))
        → RotatedNot P past refusal new.tape
    unrotated_as NotHeld refusal e broken greatest full kind same breaks cause = absurd kind
    unrotated_as Broken refusal e broken greatest full kind same breaks cause =
        read_not refusal Is_broken (tape_broken past old.tape stands (broken.0 refl)) (same (λ is. cc)) (λ read. (
          e,
          read,
        ))
    unrotated_as (TapeRefused fault) refusal e broken greatest full kind same breaks cause =
        let works : IsBroken old.tape → ⊥ = λ b. let never : TapeRefused fault ≡ Broken = broken.1 b in cc in
        elim kind [
          | inl last ↦
              read_not refusal Is_last
              (lives_by lies past old.tape stands works, (greatest.0 (ap TapeRefused last)).1)
              (same (λ never. let clash : GenerationFull ≡ Disk = sym last ∙ refused_once never in cc))
              (λ read. (as_said last, read))
          | inr (inl long) ↦
              let at_last = full.0 (ap TapeRefused long) in
              read_not refusal Is_long (is_long lies past old.tape stands works at_last.1 at_last.2)
              (same (λ never. let clash : TapeFull ≡ Disk = sym long ∙ refused_once never in cc))
              (λ read. (as_said long, read))
          | inr (inr disk) ↦
              let said_so : TapeRefused fault ≡ TapeRefused Disk = ap TapeRefused disk in
              let done = broke_as lies P past old.tape new.tape stands moments works (breaks said_so) (cause said_so)
              is in
              let greater : generation_of old.tape ≢ 2 ^ 64 - 1 = λ at_last.
              let clash : Disk ≡ GenerationFull = sym disk ∙ refused_once (greatest.1 (works, at_last)) in cc in
              let fits = may_rotate lies past old.tape stands works greater
              (λ long. let clash : Disk ≡ TapeFull =
              sym disk ∙ refused_once (full.1 (works, greater, long)) in cc) in
              record {
                later = _;
                refused = (generation_of old.tape, Fits, fits, inr (as_said disk, done.0));
                stands = done.1;
              }
        ]
      where
        refused_once : {one other : TapeFault} → TapeRefused one ≡ TapeRefused other → one ≡ other
        refused_once same = cc

        as_said : {other : TapeFault} → fault ≡ other → refusal ≡ fault_of_station (TapeRefused other)
        as_said same = e ∙ ap (λ f. fault_of_station (TapeRefused f)) same
    unrotated_as NoMemory refusal e broken greatest full kind same breaks cause =
        let works : IsBroken old.tape → ⊥ = λ b. let never : NoMemory ≡ Broken = broken.1 b in cc in
        let greater : generation_of old.tape ≢ 2 ^ 64 - 1 = λ at_last.
        let never : NoMemory ≡ TapeRefused GenerationFull = greatest.1 (works, at_last) in cc in
        read_not refusal Fits (may_rotate lies past old.tape stands works greater
        (λ long. let never : NoMemory ≡ TapeRefused TapeFull = full.1 (works, greater, long) in cc))
        (same (λ is. cc)) (λ read. inl (e, read))

  -- what a station shed
  pub shed_as : (past : PeerPast) (old new : Peer D g) (shed : Shed) → PeerStands past old
      → (IsBroken (tape_of old.station) → ⊥)
      → AreRising (places_of old.station)
      → IsShed (station_limits old.station) (ledger_of (tape_of old.station)) (places_of old.station)
      (pending_of (tape_of old.station)) shed
      → StandsFor (tape_of new.station) (noted_all past.tape.history (dropped shed.keys.items))
      → places_of new.station ≡ all_gone (places_of old.station) shed.keys.items
      → disks_of (tape_of new.station) ≡ disks_of (tape_of old.station)
      → (IsBroken (tape_of old.station) ↔ IsBroken (tape_of new.station))
      → station_limits new.station ≡ station_limits old.station → new.conf ≡ old.conf
      → new.parted ≡ old.parted → ShedPeer past shed.keys.items new
  shed_as past old new shed stands works rising is notes places disks same limits conf parts =
      let here = same_disks (tape_of new.station) (tape_of old.station) disks in
      record {
        works = tape_works past.tape (tape_of old.station) stands.tape works;
        sheds = record {
          set = is.set;
          is_set = subst (λ (p : Places). IsShedSet (limits_of past.conf) (ledger_at past.tape) p is.set) stands.places
              (subst (λ (s : State). IsShedSet (limits_of past.conf) s (places_of old.station) is.set)
              stands.tape.stands.ledger
              (subst (λ (l : Limits). IsShedSet l (ledger_of (tape_of old.station)) (places_of old.station) is.set)
              stands.limits is.is_set));
          numbers_are = is.keys ∙ ap (λ (n : ℕ). take (most_pending - n) is.set)
              (pends_by (tape_of old.station) past.tape.history stands.tape.stands works);
          free = subst (λ (p : Places). AreUnheld p shed.keys.items) stands.places
              (subst (λ (numbers : List ℕ). AreUnheld (places_of old.station) numbers) (sym is.keys)
              (shed_unheld (station_limits old.station) (ledger_of (tape_of old.station)) (places_of old.station) is.set
              (most_pending - pending_of (tape_of old.station)) rising is.is_set));
        };
        stands = record {
          conf = conf ∙ stands.conf;
          limits = limits ∙ stands.limits;
          tape = record {
            stands = notes;
            log = here.0 ∙ stands.tape.log;
            faults = here.1 ∙ stands.tape.faults;
            broken = same_truth (broken_of (tape_of old.station)) (broken_of (tape_of new.station)) same
                ∙ stands.tape.broken;
          };
          places = places ∙ ap (λ (p : Places). all_gone p shed.keys.items) stands.places;
          parted = parts ∙ stands.parted;
        };
      }
