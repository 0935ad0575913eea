-- What the calls of a side do to its pass and to its tape.
use Rattle.std.specs.Prelude.{◌≡◌, ◌↔◌, ◌<◌, List, ◌++◌, Result, IsErrOf, OnOk}
use Rattle.crossbeam_queue.specs.Passes.{Pass, view, IsSamePass}
use Rattle.disk_model.specs.declared.Disk.{Ghosts}
use Rattle.ledger_core.specs.declared.note.Note.{Note}
use Rattle.ledger_core.specs.State.{IsLegal}
use Rattle.recovery.specs.Notes.{History, most_pending}
use Rattle.recovery.specs.Tape.{StandsFor}
use Rattle.recovery.specs.Words.{Continues, IsBroken, OneHasRisen, RefusesNote, disks_of, faults_of, ledger_of}
use Rattle.recovery.specs.Words.{pending_of, place_of}
use Rattle.recovery.specs.declared.fault.TapeFault.{TapeFault}
use Rattle.recovery.specs.declared.fault.TapeFault.TheVariants.{Broken, Disk, NoMemory, PendingFull}
use Rattle.recovery.specs.declared.fault.TapeFault.TheVariants.{Note as RefusedNote}
use Rattle.recovery.specs.declared.tape.Tape.{Tape}
use Rattle.note_queue.specs.declared.rule.PassLog.{PassLog}

-- a pass that pops took more, or nothing
pub record TakesMore (old new : Pass Note PassLog) : Type 0 where
  pub queue : IsSamePass old new
  pub base : (view new).got_on ≡ (view old).got_on
  pub more : List Note
  pub got : (view new).got ≡ (view old).got ++ more

module _ {D : Type 0} {g : Ghosts D} where
  -- no disk was called; the tape still works if it did, and keeps its place
  pub record IsNotCalled (old new : Tape D g) : Type 0 where
    pub disks : disks_of new ≡ disks_of old
    pub place : place_of new ≡ place_of old
    pub works : IsBroken old ↔ IsBroken new

  -- The tape goes on as the same one; and a call that succeeds has met no fault of a disk, so that it has tried nothing
  -- again that failed.
  pub record GoesOn {T : Type 0} (old new : Tape D g) (result : Result T TapeFault) : Type 0 where
    pub continues : Continues old new
    pub quiet : OnOk result (faults_of new ≡ faults_of old)

  -- What the disks' counts of faults tell of a read: one that succeeds has met none, and Disk has one as its cause.
  pub record TellsFaults {T : Type 0} (old new : Tape D g) (result : Result T TapeFault) : Type 0 where
    pub quiet : OnOk result (faults_of new ≡ faults_of old)
    pub cause : (h : History) → StandsFor old h → IsErrOf result Disk → OneHasRisen (faults_of old) (faults_of new)

  -- the tape refuses this note with this fault
  abbrev pub IsRefusedFor : Tape D g → Note → TapeFault → Type 0
  IsRefusedFor tape note Broken = IsBroken tape
  IsRefusedFor tape note (RefusedNote fault) = (IsBroken tape → ⊥) × RefusesNote (ledger_of tape) note fault
  IsRefusedFor tape note PendingFull =
      (IsBroken tape → ⊥) × IsLegal (ledger_of tape) note × (pending_of tape ≡ most_pending)
  IsRefusedFor tape note NoMemory =
      (IsBroken tape → ⊥) × IsLegal (ledger_of tape) note × (pending_of tape < most_pending)
  IsRefusedFor tape note fault = ⊥
