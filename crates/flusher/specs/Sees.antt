-- What it does to the intake's tape that a number is noted there, and put on its disks.
use Rattle.std.specs.Prelude.{◌≡◌, ◌≢◌, ◌⊎◌, ◌↔◌, ℕ, List, [], ◌∷◌, Result, IfErr, IsErrOf, OnErr, OnOk}
use Rattle.std.specs.Prelude.{if◌then◌else◌, nat_lt}
use Rattle.disk_model.specs.declared.Disk.{Ghosts}
use Rattle.flusher.specs.Faults.{IsSealFault}
use Rattle.ledger_core.specs.declared.note.Note.{Note}
use Rattle.ledger_core.specs.declared.note.Note.TheVariants.{Seen}
use Rattle.recovery.specs.Image.{Survives, TapeLeaves}
use Rattle.recovery.specs.Notes.{History, flushed, noted_all}
use Rattle.recovery.specs.Tape.{StandsFor}
use Rattle.recovery.specs.Words.{IsBroken, OneHasRisen, disks_of, faults_of, ledger_of, log_of}
use Rattle.recovery.specs.declared.fault.TapeFault.{TapeFault}
use Rattle.recovery.specs.declared.fault.TapeFault.TheVariants.{Broken, Disk}
use Rattle.recovery.specs.declared.tape.Tape.{Tape}

-- the notes by which this number is noted on a tape of this mark: none, if the mark is not below it
abbrev pub seen_notes : (mark number : ℕ) → List Note
seen_notes mark number = if nat_lt mark number then Seen number ∷ [] else []

module _ {D : Type 0} {g : Ghosts D} where
  -- a history of this tape, once the number is noted there
  abbrev pub seeing : ℕ → Tape D g → History → History
  seeing number tape h = noted_all h (seen_notes (ledger_of tape).mark number)

  -- What comes of a tape that stood for this history, if the number is noted there and all is put on the disks.
  pub record Sees {T : Type 0} (number : ℕ) (h : History) (old new : Tape D g) (result : Result T TapeFault)
      : Type 0 where
    -- all its notes are acknowledged, that of the number among them
    pub ok : OnOk result (StandsFor new (flushed (seeing number old h)))
    -- if that is refused, the number is noted or not; a tape worked on which it is noted
    pub stays : OnErr result (StandsFor new h ⊎ (IsBroken old → ⊥) × StandsFor new (seeing number old h))
    -- a stop at any moment of the call leaves a tape of a prefix of the notes, with every acknowledged one
    pub moments : TapeLeaves (Survives (seeing number old h)) (log_of old) (log_of new)
    -- a disk has failed if the call says so, and the number is noted then
    pub cause : IsErrOf result Disk
        → StandsFor new (seeing number old h) × OneHasRisen (faults_of old) (faults_of new)

  -- When that is refused, and what it leaves.
  pub record RefusesSeeing {T : Type 0} (old new : Tape D g) (result : Result T TapeFault) : Type 0 where
    pub broken : IsErrOf result Broken ↔ IsBroken old
    -- all but Disk call no disk, and break nothing
    pub still : IfErr result (λ e. e ≢ Disk → disks_of new ≡ disks_of old)
    pub breaks_nothing : IfErr result (λ e. e ≢ Disk → IsBroken old ↔ IsBroken new)
    pub breaks : IsErrOf result Disk → IsBroken new
    pub works : OnOk result (IsBroken new → ⊥)
    -- one that succeeds has met no fault of a disk: it has tried nothing again that failed
    pub quiet : OnOk result (faults_of new ≡ faults_of old)
    pub kinds : IfErr result IsSealFault
