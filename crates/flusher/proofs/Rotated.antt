-- A station whose tape is rewritten, after a flush for which there was no room.
use Rattle.std.proofs.Common.{◌≡◌, ◌≢◌, ℕ, Bool, true, false, refl, sym, ap, ◌∙◌, subst, arith}
use Rattle.std.specs.Prelude.{Result, Ok, Err, IfErr, IsErrOf, IsOk, OnOk}
use Rattle.disk_model.specs.declared.Disk.{Ghosts}
use Rattle.flusher.specs.Flushes.{AcknowledgesOr, IsLeftAlone}
use Rattle.flusher.proofs.Keeps.{same_if_full}
use Rattle.peer_queue.specs.Calls.{KeepsDebts}
use Rattle.peer_queue.specs.Words.{Continues, IsRead, IsSame, faults_of, tape_of}
use Rattle.peer_queue.specs.declared.fault.StationFault.{StationFault}
use Rattle.peer_queue.specs.declared.fault.StationFault.TheVariants.{Tape as OfTape}
use Rattle.peer_queue.specs.declared.station.Station.{Station}
use Rattle.recovery.specs.Image.{Survives, TapeLeaves}
use Rattle.recovery.specs.Notes.{History}
use Rattle.recovery.specs.Pairs.{placed}
use Rattle.recovery.specs.Words.{OneHasRisen, disks_of, log_of}
use Rattle.recovery.specs.declared.fault.TapeFault.TheVariants.{Disk, TapeFull}
use Rattle.recovery.specs.declared.tape.Tape.{Tape}

false_not_true : false ≡ true → ⊥
false_not_true same = cc

-- a refusal is no success
pub refused_not_ok : {T E : Type 0} (result : Result T E) (fault : E) → IsErrOf result fault → IsOk result → ⊥
refused_not_ok (Ok value) fault refused ok = cc
refused_not_ok (Err other) fault refused ok = false_not_true ok

fault_of : {T : Type 0} (fault : StationFault) → IsErrOf {T = T} (Err fault) (OfTape TapeFull)
    → fault ≡ OfTape TapeFull
fault_of fault full = cc

-- what is seen of two disks, given which of them is live
placed_along : {A B : Type 0} (f : A → B) (second : Bool) (live other : A)
    → placed second (f live) (f other) ≡ (f (placed second live other).0, f (placed second live other).1)
placed_along f true live other = refl
placed_along f false live other = refl

module _ {D : Type 0} {g : Ghosts D} where
  -- the same is seen of the same disks
  seen_along : {B : Type 0} (f : D → B) (old new : Tape D g) → disks_of new ≡ disks_of old
      → placed new.segments.second (f new.segments.live.disk) (f new.segments.other)
      ≡ placed old.segments.second (f old.segments.live.disk) (f old.segments.other)
  seen_along f old new same =
      placed_along f new.segments.second new.segments.live.disk new.segments.other
      ∙ (ap (λ (d : D × D). (f d.0, f d.1)) same
      ∙ sym (placed_along f old.segments.second old.segments.live.disk old.segments.other))

  same_log : (old left : Station D g) → IsSame old left → log_of (tape_of left) ≡ log_of (tape_of old)
  same_log old left same = seen_along g.log (tape_of old) (tape_of left) same.disks

  same_faults : (old left : Station D g) → IsSame old left → faults_of left ≡ faults_of old
  same_faults old left same = seen_along g.faults_of (tape_of old) (tape_of left) same.disks

  -- a tape that was not even read
  read_itself : (station : Station D g) → IsRead station station
  read_itself station = record {
    tape = record {
      stands = λ h stands. stands;
      ledger = refl;
      pending = refl;
      second = refl;
      generation = refl;
      other = refl;
      end = refl;
      log = λ honest. refl;
      works = (λ broken. broken, λ broken. broken);
      continues = record {
        honest = (λ honest. honest, λ honest. honest);
        first = omega arith;
        second = omega arith;
        place = refl;
      };
    };
    limits = refl;
  }

  -- a flush that was refused, but not for want of room
  pub left_alone : {T : Type 0} (old new : Station D g) (result : Result T StationFault)
      → IfErr result (λ e. e ≢ OfTape Disk → IsSame old new)
      → IfErr result (λ e. e ≢ OfTape Disk → IsLeftAlone old new)
  left_alone old new (Ok value) unchanged = tt
  left_alone old new (Err fault) unchanged = λ other.
      record { left = new; same = unchanged other; reads = read_itself new }

  -- a flush for which there is no room changes nothing
  pub same_behind : {T : Type 0} (old left : Station D g) (result : Result T StationFault)
      → IsErrOf result (OfTape TapeFull) → IfErr result (λ e. e ≢ OfTape Disk → IsSame old left) → IsSame old left
  same_behind old left (Ok value) full unchanged = absurd (refused_not_ok (Ok value) (OfTape TapeFull) full refl)
  same_behind old left (Err fault) full unchanged = same_if_full old left fault unchanged (fault_of fault full)

  -- what a rotation acknowledges, the flush and the rotation do
  pub acknowledged_behind : {T : Type 0} (h : History) (old left new : Station D g) (result : Result T StationFault)
      → IsSame old left → AcknowledgesOr (OfTape Disk) h (tape_of left) (tape_of new) result
      → AcknowledgesOr (OfTape Disk) h (tape_of old) (tape_of new) result
  acknowledged_behind h old left new result same rotates = record {
    ok = rotates.ok;
    stays = rotates.stays;
    moments = subst (λ log. TapeLeaves (Survives h) log (log_of (tape_of new))) (same_log old left same)
        rotates.moments;
    cause = λ failed. subst (λ (faults : ℕ × ℕ). OneHasRisen faults (faults_of new)) (same_faults old left same)
        (rotates.cause failed);
  }

  pub kept_behind : (old left new : Station D g) → IsSame old left → KeepsDebts left new → KeepsDebts old new
  kept_behind old left new same keeps = record {
    places = keeps.places ∙ same.places;
    ledger = keeps.ledger ∙ same.ledger;
    limits = keeps.limits ∙ same.limits;
  }

  pub continued_behind : (old left new : Station D g) → Continues old left → Continues left new → Continues old new
  continued_behind old left new one other =
      let first = one.first in
      let second = one.second in
      let first' = other.first in
      let second' = other.second in
      record {
        honest = (λ honest. other.honest.0 (one.honest.0 honest), λ honest. one.honest.1 (other.honest.1 honest));
        first = omega (arith, first, first');
        second = omega (arith, second, second');
        place = other.place ∙ one.place;
      }

  pub quiet_behind : {T E : Type 0} (old left new : Station D g) (result : Result T E) → IsSame old left
      → OnOk result (faults_of new ≡ faults_of left) → OnOk result (faults_of new ≡ faults_of old)
  quiet_behind old left new (Ok value) same quiet = quiet ∙ same_faults old left same
  quiet_behind old left new (Err fault) same quiet = tt

  -- a refusal leaves the station as the flush left it, or read once more
  pub left_behind : {T : Type 0} (old left new : Station D g) (result : Result T StationFault) → IsSame old left
      → IfErr result (λ e. e ≢ OfTape Disk → IsRead left new)
      → IfErr result (λ e. e ≢ OfTape Disk → IsLeftAlone old new)
  left_behind old left new (Ok value) same reads = tt
  left_behind old left new (Err fault) same reads = λ other. record { left = left; same = same; reads = reads other }
