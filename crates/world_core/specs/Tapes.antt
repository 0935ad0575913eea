-- What the calls on a tape make of it (profile): each later tape is an equation, and each refusal has its condition. P
-- holds of the ledger of whatever a stop leaves at each moment of the call.
use Rattle.std.specs.Prelude.{◌≡◌, ◌≢◌, ◌⊎◌, ◌+◌, ◌-◌, ◌≤◌, ◌^◌, ℕ, true, false, [], length}
use Rattle.ledger_core.specs.declared.ledger.LedgerFault.TheVariants.{CountFull}
use Rattle.ledger_core.specs.declared.note.Note.{Note}
use Rattle.ledger_core.specs.State.{Overflows, State}
use Rattle.recovery.specs.Leaving.{HasSegment, IsFullBy, LedgersLeave, LiesOn, RotatesTooLongBy, ledger_of_first}
use Rattle.recovery.specs.Leaving.{pending_notes}
use Rattle.recovery.specs.Notes.{flushed, most_pending, noted, recovered}
use Rattle.recovery.specs.Words.{OneHasRisen}
use Rattle.recovery.specs.declared.fault.TapeFault.TheVariants.{Broken, Disk, GenerationFull, PendingFull, TapeFull}
use Rattle.recovery.specs.declared.fault.TapeFault.TheVariants.{Note as RefusedNote}
use Rattle.sections.specs.Tapes.{Breaks, IsReadTape, TapePast, ledger_at}
use Rattle.world_core.specs.declared.fault.Fault.{Fault}
use Rattle.world_core.specs.declared.fault.Fault.TheVariants.{NoMemory, Tape}

-- ---- a note

-- one more note, which pends
abbrev pub noted_at : TapePast → Note → TapePast
noted_at tape note = record tape { history = noted tape.history note }

-- there is room for one more note: fewer pend than may
abbrev pub HasRoom : TapePast → Type 0
HasRoom tape = length (pending_notes tape.history) ≢ most_pending

-- a note that ends a debt, or a `Seen` note, is refused
abbrev pub RefusesNote : TapePast → Fault → Type 0
RefusesNote tape fault =
    ((fault ≡ Tape Broken) × (tape.broken ≡ true))
    ⊎ ((fault ≡ Tape PendingFull) × (tape.broken ≡ false) × (HasRoom tape → ⊥))
    ⊎ ((fault ≡ NoMemory) × (tape.broken ≡ false) × HasRoom tape)

-- a note that owes is refused: the station may be refused memory first
abbrev pub RefusesOwe : TapePast → Note → Fault → Type 0
RefusesOwe tape note fault =
    ((fault ≡ Tape Broken) × (tape.broken ≡ true))
    ⊎ ((fault ≡ Tape (RefusedNote CountFull)) × (tape.broken ≡ false) × Overflows (ledger_at tape) note)
    ⊎ ((fault ≡ Tape PendingFull) × (tape.broken ≡ false) × (Overflows (ledger_at tape) note → ⊥) × (HasRoom tape → ⊥))
    ⊎ ((fault ≡ NoMemory) × (tape.broken ≡ false))

-- the note that closes a source is refused: its source is the last one, or for the reason of any note
abbrev pub RefusesClose : TapePast → Note → Fault → Type 0
RefusesClose tape note fault =
    ((fault ≡ Tape (RefusedNote CountFull)) × (tape.broken ≡ false) × Overflows (ledger_at tape) note)
    ⊎ ((tape.broken ≡ false → Overflows (ledger_at tape) note → ⊥) × RefusesNote tape fault)

-- ---- a flush

-- it answered Ok: all notes are acknowledged, and if none pended its disks were not called
pub record IsFlushed (P : State → Type 0) (old new : TapePast) : Type 0 where
  pub worked : old.broken ≡ false
  pub fits : IsFullBy old.log old.history → ⊥
  pub idle : pending_notes old.history ≡ [] → new.log ≡ old.log
  pub moments : LedgersLeave P old.log new.log
  pub all : new ≡ record { history = flushed old.history; log = new.log; faults = old.faults; broken = false }

-- some notes pend, and there is room for them in the segment
abbrev pub MayFlush : TapePast → Type 0
MayFlush tape = (pending_notes tape.history ≢ []) × (IsFullBy tape.log tape.history → ⊥)

abbrev pub RefusesFlush : (State → Type 0) → TapePast → Fault → TapePast → Type 0
RefusesFlush P old fault new =
    ((fault ≡ Tape Broken) × (old.broken ≡ true) × (new ≡ old))
    ⊎ ((fault ≡ Tape TapeFull) × (old.broken ≡ false) × IsFullBy old.log old.history × (new ≡ old))
    ⊎ ((fault ≡ NoMemory) × (old.broken ≡ false) × MayFlush old × (new ≡ old))
    ⊎ ((fault ≡ Tape Disk) × MayFlush old × Breaks P old new)

-- ---- a rotation

-- it works, and the live segment on its disks has this generation
pub record LivesBy (tape : TapePast) (generation : ℕ) : Type 0 where
  pub works : tape.broken ≡ false
  pub size : ℕ
  pub lives : HasSegment tape.log generation size

-- What a rotation comes to before it writes: the tape is broken; the live generation is the greatest there is; what it
-- would write is too long; or it can write.
pub data Rotation : Type 0 where
  Is_broken : Rotation
  Is_last : Rotation
  Is_long : Rotation
  Fits : Rotation

abbrev pub ComesTo : TapePast → ℕ → Rotation → Type 0
ComesTo tape generation Is_broken = tape.broken ≡ true
ComesTo tape generation Is_last = LivesBy tape generation × (generation ≡ 2 ^ 64 - 1)
ComesTo tape generation Is_long =
    LivesBy tape generation × (generation ≢ 2 ^ 64 - 1) × RotatesTooLongBy generation tape.history
ComesTo tape generation Fits =
    LivesBy tape generation × (generation ≢ 2 ^ 64 - 1) × (RotatesTooLongBy generation tape.history → ⊥)

-- The rotation returned this generation, the one after that which was live, and it is live now: all notes are
-- acknowledged.
pub record IsRotated (P : State → Type 0) (generation : ℕ) (old new : TapePast) : Type 0 where
  pub before : ℕ
  pub fits : ComesTo old before Fits
  pub next : generation ≡ before + 1
  pub now : LivesBy new generation
  pub moments : LedgersLeave P old.log new.log
  pub all : new ≡ record { history = flushed old.history; log = new.log; faults = old.faults; broken = false }

-- How it is refused. If the tape is not broken by it, the tape was only read.
abbrev pub RefusesAs : (State → Type 0) → Rotation → TapePast → Fault → TapePast → Type 0
RefusesAs P Is_broken old fault new = (fault ≡ Tape Broken) × IsReadTape old new
RefusesAs P Is_last old fault new = (fault ≡ Tape GenerationFull) × IsReadTape old new
RefusesAs P Is_long old fault new = (fault ≡ Tape TapeFull) × IsReadTape old new
RefusesAs P Fits old fault new =
    ((fault ≡ NoMemory) × IsReadTape old new) ⊎ ((fault ≡ Tape Disk) × Breaks P old new)

abbrev pub RefusesRotate : (State → Type 0) → TapePast → Fault → TapePast → Type 0
RefusesRotate P old fault new =
    (generation : ℕ) × (rotation : Rotation) × ComesTo old generation rotation × RefusesAs P rotation old fault new

-- ---- an opening

-- The disks held the ledger of a prefix of its notes, with every acknowledged one in it; that prefix is its notes now,
-- all of them acknowledged.
pub record IsReopened (P : State → Type 0) (old new : TapePast) : Type 0 where
  pub count : ℕ
  pub enough : old.history.kept ≤ count
  pub within : count ≤ length old.history.notes
  pub found : LiesOn old.log (ledger_of_first old.history count)
  pub moments : LedgersLeave P old.log new.log
  pub all : new ≡ record { history = recovered old.history count; log = new.log; faults = old.faults; broken = false }

-- The opening was refused, and the tape stays as it was but for what has happened to its disks. It is never damaged.
pub record RefusesOpen (P : State → Type 0) (old : TapePast) (fault : Fault) (new : TapePast) : Type 0 where
  pub why : ((fault ≡ Tape Disk) × OneHasRisen old.faults new.faults) ⊎ (fault ≡ NoMemory)
  pub moments : LedgersLeave P old.log new.log
  pub all : new ≡ record { history = old.history; log = new.log; faults = new.faults; broken = false }
