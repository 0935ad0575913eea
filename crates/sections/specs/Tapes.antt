-- What a tape has been through, which notes lines have made, and what stays acknowledged and owed (profile). Runs of
-- sections and runs of a world are stated by these.
use Rattle.std.specs.Prelude.{◌≡◌, ◌⊎◌, ◌<◌, ◌≤◌, ℕ, true, false, Bool, Some, List, ◌++◌, take, slice_get, Contains}
use Rattle.std.specs.List.{AllByRecursion}
use Rattle.ledger_core.specs.declared.note.Cause.{Cause}
use Rattle.ledger_core.specs.declared.note.FinalCode.{FinalCode}
use Rattle.ledger_core.specs.declared.note.Note.{Note}
use Rattle.ledger_core.specs.declared.note.Note.TheVariants.{Owe, Final, Drop, Seen, Closed}
use Rattle.ledger_core.specs.State.{State}
use Rattle.recovery.specs.Image.{Log}
use Rattle.recovery.specs.Leaving.{EachLedger, IsPrefix, LedgersLeave, MayLeave, mark_of, pending_notes}
use Rattle.recovery.specs.Notes.{History, ledger_after}
use Rattle.recovery.specs.Words.{OneHasRisen}

-- A tape: its notes and how many are acknowledged, what has happened to its two disks, how many faults each reported,
-- and whether a flush or a rotation broke it.
pub record TapePast : Type 0 where
  pub history : History
  pub log : Log
  pub faults : ℕ × ℕ
  pub broken : Bool

-- the ledger that a tape's notes make
abbrev pub ledger_at : TapePast → State
ledger_at tape = ledger_after tape.history

-- the greatest number that a tape has noted
abbrev pub mark_at : TapePast → ℕ
mark_at tape = mark_of tape.history

-- ---- what calls make of a tape

-- it was read: a disk may have reported a fault, and nothing else has happened
pub record IsReadTape (old new : TapePast) : Type 0 where
  pub first : old.faults.0 ≤ new.faults.0
  pub second : old.faults.1 ≤ new.faults.1
  pub all : new ≡ record old { faults = new.faults }

-- A disk failed, and the tape is broken from now on. P holds of the ledger of whatever a stop leaves at each moment.
pub record Breaks (P : State → Type 0) (old new : TapePast) : Type 0 where
  pub worked : old.broken ≡ false
  pub cause : OneHasRisen old.faults new.faults
  pub moments : LedgersLeave P old.log new.log
  pub all : new ≡ record { history = old.history; log = new.log; faults = new.faults; broken = true }

-- ---- the notes that lines made

-- the note was made by a line above this number, or by no line
abbrev pub IsAbove : ℕ → Note → Type 0
IsAbove mark (Owe key token id) = mark < key
IsAbove mark (Final key code) = Unit {0}
IsAbove mark (Drop key cause) = Unit {0}
IsAbove mark (Seen number) = Unit {0}
IsAbove mark (Closed source) = Unit {0}

abbrev pub AllAbove : ℕ → List Note → Type 0
AllAbove mark notes = AllByRecursion (IsAbove mark) notes

-- each note that a line up to this number made is acknowledged: no such note pends
abbrev pub PendsAbove : ℕ → History → Type 0
PendsAbove mark h = AllAbove mark (pending_notes h)

-- The intake's tape is that of a prefix of its notes, with every acknowledged one in it; and each note that a line up
-- to its mark made is acknowledged in each of these histories.
pub record KeepsLinesOf {A : Type 0} (history_of : A → History) (intake : History) (all : List A) (state : State) :
    Type 0 where
  pub prefix : IsPrefix intake state
  pub lines : AllByRecursion (λ (x : A). PendsAbove state.mark (history_of x)) all

-- A line of this number is acknowledged as soon as a stop may leave the intake's tape with a mark at or above it.
pub record IsAcknowledgedBy (intake : TapePast) (number : ℕ) : Type 0 where
  pub seen : State
  pub may : MayLeave intake.log seen
  pub below : number ≤ seen.mark

-- ---- what stays

-- the notes that were acknowledged are a prefix of those that are now
pub record StaysAcknowledged (was now : TapePast) : Type 0 where
  pub base : now.history.base ≡ was.history.base
  pub more : List Note
  pub prefix : take now.history.kept now.history.notes ≡ take was.history.kept was.history.notes ++ more

-- among these notes is a final answer to the debt of this number, or a drop of it
abbrev pub HasEnd : List Note → ℕ → Type 0
HasEnd notes number =
    ((code : FinalCode) × Contains notes (Final number code)) ⊎ ((cause : Cause) × Contains notes (Drop number cause))

-- the debt is owed in this ledger, or the notes have a final answer to it or a drop of it
abbrev pub OwesOrEnded : List Note → ℕ → List ℕ → List ℕ → State → Type 0
OwesOrEnded notes number token id state = Contains state.debts (number, (token, id)) ⊎ HasEnd notes number

-- A debt that was acknowledged, or that the history began from, is owed after any prefix of the notes that has every
-- acknowledged one in it, unless the notes have a final answer to it or a drop of it.
pub record StillOwes (was now : History) : Type 0 where
  pub owed : (index number : ℕ) (token id : List ℕ) → slice_get was.notes index ≡ Some (Owe number token id)
      → index < was.kept → (state : State) → IsPrefix now state → OwesOrEnded now.notes number token id state
  pub given : (number : ℕ) (token id : List ℕ) → Contains was.base.debts (number, (token, id))
      → (state : State) → IsPrefix now state → OwesOrEnded now.notes number token id state

-- Whatever a stop may leave of the tape is the tape of a prefix of its notes, with every acknowledged one in it; and
-- each debt that was acknowledged is still owed there, or has ended.
pub record IsRecovered (was now : TapePast) : Type 0 where
  pub prefix : EachLedger (IsPrefix now.history) now.log
  pub owes : StillOwes was.history now.history
