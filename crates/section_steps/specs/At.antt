-- Where a call is made, and what it comes to there.
use Rattle.std.specs.Prelude.{◌≡◌, ◌⊎◌, ◌+◌, ℕ, Bool, true, false, List, [], ◌∷◌, Result, IfOk, IsErrOf, IsTrue}
use Rattle.disk_model.specs.declared.Disk.{Ghosts}
use Rattle.ledger_core.specs.declared.note.Note.{Note}
use Rattle.note_queue.specs.declared.sender.Sender.{Sender}
use Rattle.note_queue.specs.declared.side.Side.{Side}
use Rattle.recovery.specs.declared.fault.TapeFault.{TapeFault}
use Rattle.recovery.specs.declared.fault.TapeFault.TheVariants.{Broken, Disk}
use Rattle.recovery.specs.declared.flushed.Flushed.{Flushed}
use Rattle.sections.specs.Post.{StationPast}
use Rattle.sections.specs.Sections.{Section}
use Rattle.sections.specs.Sections.Section.{Calls, Cuts_off, Learns}
use Rattle.section_steps.specs.Ends.{AreOnTape, AreSettled, EndStands, SenderStands, front_seen, side_seen}
use Rattle.section_steps.specs.Steps.{FrontDoes, SideDoes}
use Rattle.section_steps.specs.TapeSteps.{call_of}

-- A station: the notes that its tape had before the split; what it has been through since; its rank; and the number
-- that is shown.
pub record Spot : Type 0 where
  pub before : List Note
  pub was : StationPast
  pub rank : ℕ
  pub last : ℕ

-- the sender stands for it
abbrev pub StandsThere : Spot → Sender → Type 0
StandsThere at sender = SenderStands at.before sender at.was

-- These sections are done there, one after another, and the sender stands for the station now. Whatever side and queue
-- stood for it before, they do so now, once these notes are in the queue.
abbrev pub DoesThere : {D : Type 0} → Ghosts D → Spot → List Section → List Note → Sender → Type 0
DoesThere g at sections pushed new = FrontDoes g at.before at.last at.rank at.was sections pushed (front_seen new)

-- the section in which a front learns so many notes, by its answer
abbrev pub learnt : Spot → ℕ → Bool → List Section
learnt at count false = []
learnt at count true = Learns at.rank (at.was.tape.history.opened + count) ∷ []

-- the section in which a front is cut off, if its tape broke
abbrev pub cut_if : Spot → Bool → List Section
cut_if at false = []
cut_if at true = Cuts_off at.rank ∷ []

-- the front learns, and so many notes are settled there if it says so
pub record LearnsThere {D : Type 0} (g : Ghosts D) (at : Spot) (count : ℕ) (result : Bool) (new : Sender)
    : Type 0 where
  pub does : DoesThere g at (learnt at count result) [] new
  pub settles : IsTrue result → AreSettled count does.later

module _ {D : Type 0} {g : Ghosts D} where
  -- a side and what its queue holds stand for it
  abbrev pub EndsThere : Spot → Side D g → List Note → Type 0
  EndsThere at side items = EndStands at.before side items at.was

  -- These sections are done there, one after another, and the side and what its queue holds now stand for the station.
  -- Whatever front stood for it before does so now.
  abbrev pub SideDoesThere : Spot → List Section → Side D g → List Note → Type 0
  SideDoesThere at sections new items = SideDoes at.before at.last at.rank at.was sections (side_seen new) items

  -- The same of a call that puts all on the disks. The tape is broken if it fails on a disk, or says that it was.
  pub record PutsThere {T : Type 0} (at : Spot) (new : Side D g) (items : List Note) (result : Result T TapeFault)
      : Type 0 where
    pub does : SideDoesThere at (Calls at.rank (call_of result) ∷ []) new items
    pub breaks : IsErrOf result Disk ⊎ IsErrOf result Broken → does.later.tape.broken ≡ true

  -- the same of a flush, whose answer counts what is on the disks
  pub record FlushesThere (at : Spot) (new : Side D g) (items : List Note) (result : Result Flushed TapeFault)
      : Type 0 where
    pub puts : PutsThere at new items result
    pub answers : IfOk result (λ flushed. AreOnTape flushed.count puts.does.later)
