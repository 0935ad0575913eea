-- What a post has been through (profile): its state between two sections, which nothing stores.
use Rattle.std.specs.Prelude.{ℕ, Bool, List, ◌++◌, slice_set}
use Rattle.ledger_core.specs.declared.note.Note.{Note}
use Rattle.recovery.specs.Notes.{History}
use Rattle.sections.specs.Tapes.{TapePast}

-- A peer's station, split into a front and a tape: the tape; the notes that the front has sent and that are not on the
-- tape, which are in the queue or, before these, were refused by the tape; those that are not sent; how many notes the
-- front knows to be on the disks; whether it is cut off, because its tape broke; and whether it runs: its tape was
-- opened, and no stop has come since.
pub record StationPast : Type 0 where
  pub tape : TapePast
  pub queue : List Note
  pub unsent : List Note
  pub settled : ℕ
  pub cut_off : Bool
  pub runs : Bool

-- what a receipt knows of a station
pub data Progress : Type 0 where
  Waits : Progress  -- nothing yet
  Due : (count : ℕ) → Progress  -- it found so many notes at the station's front
  Counted : Progress  -- as many as it found there are settled

-- A receipt that is being made: its number; and what it knows of each station, by the stations' ranks.
pub record SealingPast : Type 0 where
  pub number : ℕ
  pub progress : List Progress

-- All stations, in byte order of their peers' names; the intake's tape, and whether it runs; the number that was shown
-- last; and all sealings, in the order in which they began.
pub record PostPast : Type 0 where
  pub stations : List StationPast
  pub intake : TapePast
  pub intake_runs : Bool
  pub last : ℕ
  pub sealings : List SealingPast

-- all that a front has noted
abbrev pub notes_of : StationPast → List Note
notes_of station = station.tape.history.notes ++ (station.queue ++ station.unsent)

-- what a front stands for: the history of its tape, with all that the front has noted
abbrev pub front_history : StationPast → History
front_history station = record station.tape.history { notes = notes_of station }

-- ---- what is put into it: all else stays

abbrev pub with_tape : StationPast → TapePast → StationPast
with_tape station tape = record station { tape = tape }

-- the station at this rank is replaced
abbrev pub with_station : PostPast → ℕ → StationPast → PostPast
with_station post rank station = record post { stations = slice_set post.stations rank station }

abbrev pub with_intake : PostPast → TapePast → PostPast
with_intake post tape = record post { intake = tape }

-- the sealing at this place is replaced
abbrev pub with_sealing : PostPast → ℕ → SealingPast → PostPast
with_sealing post id sealing = record post { sealings = slice_set post.sealings id sealing }

-- what the sealing knows of the station at this rank is replaced
abbrev pub with_progress : SealingPast → ℕ → Progress → SealingPast
with_progress sealing rank one = record sealing { progress = slice_set sealing.progress rank one }
