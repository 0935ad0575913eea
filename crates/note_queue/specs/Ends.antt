-- What the calls of a side leave.
use Rattle.std.specs.Prelude.{◌≡◌, ◌≢◌, ◌≤◌, ◌+◌, ◌-◌, ◌^◌, ◌++◌, ℕ, List, [], Some, length, min}
use Rattle.crossbeam_queue.specs.Passes.{view}
use Rattle.disk_model.specs.declared.Disk.{Ghosts}
use Rattle.ledger_core.specs.declared.note.Note.{Note}
use Rattle.recovery.specs.Notes.{History, noted_all}
use Rattle.recovery.specs.Tape.{StandsFor}
use Rattle.recovery.specs.Words.{AreHonest, IsBroken, flushed_of, ledger_of, place_of}
use Rattle.recovery.specs.declared.fault.TapeFault.{TapeFault}
use Rattle.note_queue.specs.Calls.{IsRefusedFor}
use Rattle.note_queue.specs.Owns.{AreAllOnDisks, put_on}
use Rattle.note_queue.specs.declared.side.Side.{Side}

module _ {D : Type 0} {g : Ghosts D} where
  -- a note is kept, which the tape refuses with this fault
  abbrev pub KeepsFor : Side D g → TapeFault → Type 0
  KeepsFor side fault = (note : Note) × (side.kept ≡ Some note) × IsRefusedFor side.tape note fault

  -- the notes that it received and put on its tape: all but the kept one
  abbrev pub put_by : Side D g → List Note
  put_by side = put_on (view side.pass).got side.kept

  -- The pass, the kept note, and the tape's ledger and place are as they were, and the count at the split. On honest
  -- disks the tape's count of acknowledged notes has not fallen.
  pub record IsSameEnd (old new : Side D g) : Type 0 where
    pub pass : new.pass ≡ old.pass
    pub kept : new.kept ≡ old.kept
    pub ledger : ledger_of new.tape ≡ ledger_of old.tape
    pub place : place_of new.tape ≡ place_of old.tape
    pub since : new.since ≡ old.since
    pub rises : AreHonest old.tape → flushed_of old.tape ≤ flushed_of new.tape

  -- More of the notes that it received were put on its tape, in their order: the tape stands for each history that it
  -- stood for, followed by these. A tape works that takes a note. What is acknowledged is as before.
  pub record PutsMore (old new : Side D g) : Type 0 where
    pub more : List Note
    pub put : put_by new ≡ put_by old ++ more
    pub stands : (h : History) → StandsFor old.tape h → StandsFor new.tape (noted_all h more)
    pub worked : more ≢ [] → IsBroken old.tape → ⊥
    pub since : new.since ≡ old.since
    pub flushed : AreHonest old.tape → flushed_of new.tape ≡ flushed_of old.tape

  -- All that it put on its tape is on the disks, and the count says so: it is the count at the split and then one for
  -- each of these notes, or the greatest u64 if that is less.
  pub record IsOnDisks (side : Side D g) (count : ℕ) : Type 0 where
    pub counted : AreHonest side.tape → count ≡ min (side.since + length (put_by side)) (2 ^ 64 - 1)
    pub all : AreAllOnDisks side.tape
