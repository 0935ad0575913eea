-- What the calls under a tape's lock say of the side there, all their clauses together.
use Rattle.std.specs.Prelude.{◌≡◌, ℕ, List, ◌++◌, Result, IfOk}
use Rattle.crossbeam_queue.specs.Passes.{view}
use Rattle.disk_model.specs.declared.Disk.{Ghosts}
use Rattle.ledger_core.specs.declared.note.Note.{Note}
use Rattle.note_queue.specs.Calls.{GoesOn, IsNotCalled, TakesMore}
use Rattle.note_queue.specs.Ends.{IsSameEnd, PutsMore}
use Rattle.note_queue.specs.Words.{taking, tape_of}
use Rattle.note_queue.specs.declared.side.Side.{Side}
use Rattle.recovery.specs.Flushes.{Flushes, HasFlushed, RefusesFlush}
use Rattle.recovery.specs.Notes.{History}
use Rattle.recovery.specs.Rotates.{RefusesRotation, Rotates}
use Rattle.recovery.specs.Tape.{IsRead, StandsFor}
use Rattle.recovery.specs.Words.{place_of}
use Rattle.recovery.specs.declared.fault.TapeFault.{TapeFault}
use Rattle.recovery.specs.declared.fault.TapeFault.TheVariants.{Disk}
use Rattle.recovery.specs.declared.flushed.Flushed.{Flushed}

module _ {D : Type 0} {g : Ghosts D} where
  -- notes are pulled (`Side::pull`, of `TapeDesk::pull`)
  pub record SaysPull (old new : Side D g) : Type 0 where
    pub takes : TakesMore (taking old) (taking new)
    pub puts : PutsMore old new
    pub keeps : IsNotCalled (tape_of old) (tape_of new)

  -- What was popped meanwhile were the first notes of the queue, in order: what was sent is what was received, followed
  -- by what the queue holds, at both moments (`Relayed`).
  abbrev pub IsPopped : Side D g → List Note → Side D g → List Note → Type 0
  IsPopped old items new left = (view (taking old)).got ++ items ≡ (view (taking new)).got ++ left

  -- the notes that pend are put on the disks (`Side::flush`, of `TapeDesk::flush`)
  pub record SaysFlush (old new : Side D g) (result : Result Flushed TapeFault) : Type 0 where
    pub flushes : (h : History) → StandsFor (tape_of old) h → Flushes Disk h (tape_of old) (tape_of new) result
    pub ok : IfOk result (HasFlushed (place_of (tape_of old)) (tape_of old) (tape_of new))
    pub refuses : RefusesFlush (tape_of old) (tape_of new) result
    pub keeps : IsSameEnd old new
    pub goes_on : GoesOn (tape_of old) (tape_of new) result

  -- the tape is rewritten (`Side::rotate`, of `TapeDesk::rotate`)
  pub record SaysRotate (old new : Side D g) (result : Result ℕ TapeFault) : Type 0 where
    pub rotates : (h : History) → StandsFor (tape_of old) h → Rotates Disk h (tape_of old) (tape_of new) result
    pub refuses : RefusesRotation (tape_of old) (tape_of new) result
    pub keeps : IsSameEnd old new
    pub goes_on : GoesOn (tape_of old) (tape_of new) result

  -- a debt, or some, are read back (`TapeDesk::debt`, `debts`)
  pub record SaysRead (old new : Side D g) : Type 0 where
    pub reads : IsRead (tape_of old) (tape_of new)
    pub keeps : IsSameEnd old new
