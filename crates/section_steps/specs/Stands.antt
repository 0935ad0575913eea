-- When what the locks of a station keep stands for what the station has been through.
use Rattle.std.specs.Prelude.{◌≡◌, ◌+◌, ℕ, Bool, true, List, ◌++◌, length}
use Rattle.disk_model.specs.declared.Disk.{Ghosts}
use Rattle.ledger_core.specs.declared.note.Note.{Note}
use Rattle.recovery.specs.declared.tape.Tape.{Tape}
use Rattle.sections.specs.Post.{StationPast}
use Rattle.section_steps.specs.TapeSteps.{TapeStands}

-- What a front's lock keeps, as far as sections speak of it: the notes that were sent since the split, and those that
-- were not; how many its tape counts as settled, and how many further ones were sent; and whether it is cut off.
pub record FrontSeen : Type 0 where
  pub sent : List Note
  pub unsent : List Note
  pub settled : ℕ
  pub pending : ℕ
  pub broken : Bool

-- The notes that the tape had before the split, followed by those that were sent since, are on the tape or in the
-- queue. A front counts from the opening of its tape on, as the tape does.
pub record FrontStands (before : List Note) (front : FrontSeen) (station : StationPast) : Type 0 where
  pub runs : station.runs ≡ true
  pub noted : station.tape.history.notes ++ station.queue ≡ before ++ front.sent
  pub unsent : station.unsent ≡ front.unsent
  pub settled : station.settled ≡ station.tape.history.opened + front.settled
  pub counted : station.tape.history.opened + (front.settled + front.pending) ≡ length (before ++ front.sent)
  pub cut_off : station.cut_off ≡ front.broken

-- What a tape's lock keeps: the tape; the notes that were put on it since the split; and the kept note, if there is
-- one.
pub record SideSeen (D : Type 0) (g : Ghosts D) : Type 0 where
  pub tape : Tape D g
  pub put : List Note
  pub kept : List Note

-- The notes that the tape had before the split, followed by those that were put on it since, are the tape's; and the
-- kept note goes before what the queue holds.
pub record SideStands {D : Type 0} {g : Ghosts D} (before : List Note) (side : SideSeen D g) (items : List Note)
    (station : StationPast) : Type 0 where
  pub runs : station.runs ≡ true
  pub tape : TapeStands station.tape side.tape
  pub put : station.tape.history.notes ≡ before ++ side.put
  pub queue : station.queue ≡ side.kept ++ items
