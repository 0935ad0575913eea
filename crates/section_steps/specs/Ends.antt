-- What the two ends of a queue keep, and when they stand for a station.
use Rattle.std.specs.Prelude.{◌+◌, ◌<◌, ◌≤◌, ◌^◌, ℕ, List, length}
use Rattle.crossbeam_queue.specs.Passes.{view}
use Rattle.disk_model.specs.declared.Disk.{Ghosts}
use Rattle.ledger_core.specs.declared.note.Note.{Note}
use Rattle.note_queue.specs.Ends.{put_by}
use Rattle.note_queue.specs.Owns.{kept_list}
use Rattle.note_queue.specs.Words.{front_of, kept_of, sending, tape_of}
use Rattle.note_queue.specs.declared.sender.Sender.{Sender}
use Rattle.note_queue.specs.declared.side.Side.{Side}
use Rattle.sections.specs.Post.{StationPast, notes_of}
use Rattle.section_steps.specs.FrontWords.{seen_with}
use Rattle.section_steps.specs.Stands.{FrontSeen, FrontStands, SideSeen, SideStands}

-- what sections see of a sender
abbrev pub front_seen : Sender → FrontSeen
front_seen sender = seen_with (view (sending sender)).sent (front_of sender)

-- A sender stands for a station: the notes that the tape had before the split, followed by those that its pass has
-- sent, are the tape's, followed by the queue's. What is unsent and settled there, and whether it is cut off, are the
-- front's.
abbrev pub SenderStands : List Note → Sender → StationPast → Type 0
SenderStands before sender station = FrontStands before (front_seen sender) station

-- Fewer than 2^64 notes were made at the station since its tape was opened.
abbrev pub HasFewNotes : StationPast → Type 0
HasFewNotes station = length (notes_of station) < station.tape.history.opened + 2 ^ 64

-- ---- what stays true until the station stops

-- so many notes, as the station's tape counts them, are on its disks
abbrev pub AreOnTape : ℕ → StationPast → Type 0
AreOnTape count station = station.tape.history.opened + count ≤ station.tape.history.kept

-- and its front has settled so many
abbrev pub AreSettled : ℕ → StationPast → Type 0
AreSettled count station = station.tape.history.opened + count ≤ station.settled

module _ {D : Type 0} {g : Ghosts D} where
  -- what sections see of a side
  abbrev pub side_seen : Side D g → SideSeen D g
  side_seen side = record { tape = tape_of side; put = put_by side; kept = kept_list (kept_of side) }

  -- A side and what its queue holds stand for a station: the tape stands for its history; the notes that the tape had
  -- before the split, followed by those that the side has put there, are the tape's; and the kept note, followed by
  -- what the queue holds, is its queue.
  abbrev pub EndStands : List Note → Side D g → List Note → StationPast → Type 0
  EndStands before side items station = SideStands before (side_seen side) items station
