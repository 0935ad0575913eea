-- What the calls of a tape come to.
use Rattle.std.proofs.Common.{◌≡◌, ◌≤◌, ℕ, Bool, true, false}
use Rattle.std.proofs.Common.{refl, sym, ◌∙◌, subst, arith}
use Rattle.std.specs.Prelude.{Result, Ok, Err}
use Rattle.disk_model.specs.declared.Disk.{Ghosts}
use Rattle.recovery.specs.DiskLaws.{log-read}
use Rattle.recovery.specs.Image.{Log, Survives, TapeLeaves}
use Rattle.recovery.specs.Leaving.{EachLedger, IsPrefix, LedgersLeave, broken_of}
use Rattle.recovery.specs.LeavingLaws.{TapeLeaves-weaker, prefix_of_survives}
use Rattle.recovery.specs.Notes.{History, flushed}
use Rattle.recovery.specs.Tape.{IsRead, StandsFor}
use Rattle.recovery.specs.Words.{IsBroken, OneHasRisen, faults_of, log_of}
use Rattle.recovery.specs.declared.fault.TapeFault.{TapeFault}
use Rattle.recovery.specs.declared.fault.TapeFault.TheVariants.{Broken, Damaged, Disk, GenerationFull, NoMemory}
use Rattle.recovery.specs.declared.fault.TapeFault.TheVariants.{Note, PendingFull, TapeFull}
use Rattle.recovery.specs.declared.tape.Tape.{Tape}
use Rattle.sections.specs.Sections.Call.{Breaks, Puts, Reads}
use Rattle.sections.specs.Sections.OfTape.{Is_cut, Is_put, Is_read}
use Rattle.sections.specs.Tapes.{TapePast}
use Rattle.section_steps.specs.TapeSteps.{PutsAll, RefusesPut, TapeStands, TapeStep, call_of, past_of}

-- ---- a bool

pub not_true : (b : Bool) → (b ≡ true → ⊥) → b ≡ false
not_true true is_not = absurd (is_not refl)
not_true false is_not = refl

pub same_bool : (a b : Bool) → (a ≡ true → b ≡ true) → (b ≡ true → a ≡ true) → b ≡ a
same_bool true b there back = there refl
same_bool false true there back = sym (back refl)
same_bool false false there back = refl

-- ---- what a stop leaves, by ledgers

leaves_prefix : (h : History) (old new : Log) → TapeLeaves (Survives h) old new → LedgersLeave (IsPrefix h) old new
leaves_prefix h old new run = TapeLeaves-weaker (Survives h) _ (prefix_of_survives h) old new run

module _ {D : Type 0} {g : Ghosts D} where
  pub left_prefix : (tape : Tape D g) (h : History) → StandsFor tape h → EachLedger (IsPrefix h) (log_of tape)
  left_prefix tape h stands = λ one other is is'. prefix_of_survives h (one, other) (stands.images one other is is')

  -- it stands for what it has been through
  pub stands_now : (tape : Tape D g) (h : History) → StandsFor tape h → TapeStands (past_of h tape) tape
  stands_now tape h stands = record { stands = stands; log = refl; faults = refl; broken = refl }

  -- ---- a call that reads

  pub reads_tape : (was : TapePast) (old new : Tape D g) → TapeStands was old → IsRead old new
      → TapeStep was Reads new
  reads_tape was old new stands reads =
      let later : TapePast = record was { faults = faults_of new } in
      record {
        later = later;
        does = Is_read later (record {
          first = subst (λ (f : ℕ × ℕ). f.0 ≤ (faults_of new).0) stands.faults reads.continues.first;
          second = subst (λ (f : ℕ × ℕ). f.1 ≤ (faults_of new).1) stands.faults reads.continues.second;
          all = refl;
        });
        stands = record {
          stands = reads.stands was.history stands.stands;
          log = log-read old new reads stands.stands.honest ∙ stands.log;
          faults = refl;
          broken = same_bool (broken_of old) (broken_of new) reads.works.0 reads.works.1 ∙ stands.broken;
        };
      }

  -- ---- a call that is to put all on the disks

  -- what has happened to the tape's disks before, what faults they have reported, and whether it is broken
  module _ (was : TapePast) (old new : Tape D g) (log : log_of old ≡ was.log) (faults : faults_of old ≡ was.faults)
      (broken : broken_of old ≡ was.broken) where
    worked : (IsBroken old → ⊥) → was.broken ≡ false
    worked works = sym broken ∙ not_true (broken_of old) works

    moments_of : TapeLeaves (Survives was.history) (log_of old) (log_of new)
        → LedgersLeave (IsPrefix was.history) was.log (log_of new)
    moments_of run = subst (λ (l : Log). LedgersLeave (IsPrefix was.history) l (log_of new)) log
        (leaves_prefix was.history (log_of old) (log_of new) run)

    pub put_tape : (IsBroken old → ⊥) → (IsBroken new → ⊥) → faults_of new ≡ faults_of old
        → StandsFor new (flushed was.history)
        → TapeLeaves (Survives was.history) (log_of old) (log_of new) → TapeStep was Puts new
    put_tape works still quiet ok moments =
        let later : TapePast = record {
          history = flushed was.history;
          log = log_of new;
          faults = was.faults;
          broken = false;
        } in
        record {
          later = later;
          does = Is_put later (record {
            worked = worked works;
            moments = moments_of moments;
            left = left_prefix new (flushed was.history) ok;
            all = refl;
          });
          stands = record {
            stands = ok;
            log = refl;
            faults = quiet ∙ faults;
            broken = not_true (broken_of new) still;
          };
        }

    pub cut_tape : (IsBroken old → ⊥) → IsBroken new → OneHasRisen (faults_of old) (faults_of new)
        → StandsFor new was.history
        → TapeLeaves (Survives was.history) (log_of old) (log_of new) → TapeStep was Breaks new
    cut_tape works breaks cause stays moments =
        let later : TapePast =
        record { history = was.history; log = log_of new; faults = faults_of new; broken = true } in
        record {
          later = later;
          does = Is_cut later (record {
            worked = worked works;
            cause = subst (λ (f : ℕ × ℕ). OneHasRisen f (faults_of new)) faults cause;
            moments = moments_of moments;
            all = refl;
          });
          stands = record { stands = stays; log = refl; faults = refl; broken = breaks };
        }

    -- no disk was called, and the tape stands for other notes
    pub still_tape : StandsFor new was.history → log_of new ≡ log_of old → faults_of new ≡ faults_of old
        → broken_of new ≡ broken_of old → TapeStep was Reads new
    still_tape stands same_log same_faults same_broken =
        let later : TapePast = record was { faults = was.faults } in
        record {
          later = later;
          does = Is_read later (record { first = omega arith; second = omega arith; all = refl });
          stands = record {
            stands = stands;
            log = same_log ∙ log;
            faults = same_faults ∙ faults;
            broken = same_broken ∙ broken;
          };
        }

  module _ (was : TapePast) (old new : Tape D g) (stands : TapeStands was old) where
    -- the call by its answer
    pub puts_tape : {T : Type 0} (result : Result T TapeFault) → PutsAll was.history old new result
        → RefusesPut old new result → TapeStep was (call_of result) new
    puts_tape (Ok answer) puts refuses =
        put_tape was old new stands.log stands.faults stands.broken
        (λ broken. let same : Ok answer ≡ Err Broken = refuses.broken.1 broken in absurd cc) refuses.works
        refuses.quiet puts.ok puts.moments
    puts_tape (Err Disk) puts refuses =
        cut_tape was old new stands.log stands.faults stands.broken
        (λ broken. let same : Err Disk ≡ Err Broken = refuses.broken.1 broken in absurd cc)
        (refuses.breaks refl) (puts.cause refl) puts.stays puts.moments
    puts_tape (Err Broken) puts refuses = reads_tape was old new stands (refuses.unchanged (λ same. absurd cc))
    puts_tape (Err PendingFull) puts refuses = reads_tape was old new stands (refuses.unchanged (λ same. absurd cc))
    puts_tape (Err TapeFull) puts refuses = reads_tape was old new stands (refuses.unchanged (λ same. absurd cc))
    puts_tape (Err GenerationFull) puts refuses = reads_tape was old new stands (refuses.unchanged (λ same. absurd cc))
    puts_tape (Err NoMemory) puts refuses = reads_tape was old new stands (refuses.unchanged (λ same. absurd cc))
    puts_tape (Err (Note fault)) puts refuses = reads_tape was old new stands (refuses.unchanged (λ same. absurd cc))
    puts_tape (Err (Damaged segment at)) puts refuses =
        reads_tape was old new stands (refuses.unchanged (λ same. absurd cc))
