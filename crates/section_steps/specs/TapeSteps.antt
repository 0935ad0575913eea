-- When a tape stands for what it has been through, and what its calls come to.
use Rattle.std.specs.Prelude.{◌≡◌, ◌≢◌, ◌↔◌, true, Result, Ok, Err, IfErr, IsErrOf, OnErr, OnOk}
use Rattle.disk_model.specs.declared.Disk.{Ghosts}
use Rattle.recovery.specs.Image.{Survives, TapeLeaves}
use Rattle.recovery.specs.Leaving.{broken_of}
use Rattle.recovery.specs.Notes.{History, flushed}
use Rattle.recovery.specs.Tape.{IsRead, StandsFor}
use Rattle.recovery.specs.Words.{IsBroken, OneHasRisen, faults_of, log_of}
use Rattle.recovery.specs.declared.fault.TapeFault.{TapeFault}
use Rattle.recovery.specs.declared.fault.TapeFault.TheVariants.{Broken, Disk}
use Rattle.recovery.specs.declared.tape.Tape.{Tape}
use Rattle.sections.specs.Sections.{Call, OfTape}
use Rattle.sections.specs.Sections.Call.{Breaks, Puts, Reads}
use Rattle.sections.specs.Tapes.{TapePast}

-- what a flush or a rotation that answers this is: all is on the disks; a disk failed; or at most it has read
abbrev pub call_of : {T : Type 0} → Result T TapeFault → Call
call_of (Ok answer) = Puts
call_of (Err Disk) = Breaks
call_of (Err fault) = Reads

module _ {D : Type 0} {g : Ghosts D} where
  -- The tape stands for these notes; this has happened to its disks, and so many faults they have reported; and it is
  -- broken exactly if this says so.
  pub record TapeStands (past : TapePast) (tape : Tape D g) : Type 0 where
    pub stands : StandsFor tape past.history
    pub log : log_of tape ≡ past.log
    pub faults : faults_of tape ≡ past.faults
    pub broken : broken_of tape ≡ past.broken

  -- what a tape of this history has been through
  abbrev pub past_of : History → Tape D g → TapePast
  past_of h tape = record { history = h; log = log_of tape; faults = faults_of tape; broken = broken_of tape }

  -- the call made this of a tape that runs, and the tape stands for it now
  pub record TapeStep (was : TapePast) (call : Call) (new : Tape D g) : Type 0 where
    pub later : TapePast
    pub does : OfTape was true call later
    pub stands : TapeStands later new

  -- what comes of the notes of a tape that stood for this history, if all are to be put on its disks
  pub record PutsAll {T : Type 0} (h : History) (old new : Tape D g) (result : Result T TapeFault) : Type 0 where
    pub ok : OnOk result (StandsFor new (flushed h))
    pub stays : OnErr result (StandsFor new h)
    pub moments : TapeLeaves (Survives h) (log_of old) (log_of new)
    pub cause : IsErrOf result Disk → OneHasRisen (faults_of old) (faults_of new)

  -- when that is refused, and what is left then
  pub record RefusesPut {T : Type 0} (old new : Tape D g) (result : Result T TapeFault) : Type 0 where
    pub broken : IsErrOf result Broken ↔ IsBroken old
    pub unchanged : IfErr result (λ e. e ≢ Disk → IsRead old new)
    pub breaks : IsErrOf result Disk → IsBroken new
    pub works : OnOk result (IsBroken new → ⊥)
    pub quiet : OnOk result (faults_of new ≡ faults_of old)
