-- What holds of a post between any two sections.
use Rattle.std.specs.Prelude.{◌≤◌, ℕ, List, drop, length}
use Rattle.std.specs.List.{AllByRecursion, AllZip}
use Rattle.ledger_core.specs.State.{AllLegal, State}
use Rattle.recovery.specs.Leaving.{EachLedger, IsPrefix}
use Rattle.sections.specs.Post.{PostPast, Progress, SealingPast, StationPast, front_history, notes_of}
use Rattle.sections.specs.Post.Progress.{Counted, Due, Waits}
use Rattle.sections.specs.Tapes.{AllAbove, KeepsLinesOf, PendsAbove, mark_at}

-- each note that a line up to this number made is acknowledged: none pends on the tape, in the queue or at the front
abbrev pub HasAcknowledged : ℕ → StationPast → Type 0
HasAcknowledged mark station = PendsAbove mark (front_history station)

pub record IsSoundStation (station : StationPast) : Type 0 where
  pub within : station.tape.history.kept ≤ length station.tape.history.notes
  pub settled : station.settled ≤ station.tape.history.kept

-- What a sealing of this number knows is so. If it has looked at the station's front, no note behind those that it
-- found there was made by a line up to its number. If the station is counted, all that such lines made is acknowledged.
abbrev pub IsKnown : ℕ → Progress → StationPast → Type 0
IsKnown number Waits station = Unit {0}
IsKnown number (Due count) station = AllAbove number (drop count (notes_of station))
IsKnown number Counted station = HasAcknowledged number station

-- its number is not above the last; and all that it knows of each station is so
pub record IsSoundSealing (stations : List StationPast) (last : ℕ) (sealing : SealingPast) : Type 0 where
  pub below : sealing.number ≤ last
  pub known : AllZip (IsKnown sealing.number) sealing.progress stations

-- The marks and numbers are in order; and what the intake's tape has noted, or a sealing has counted, is acknowledged
-- at the stations.
pub record IsSound (post : PostPast) : Type 0 where
  pub stations : AllByRecursion IsSoundStation post.stations
  pub legal : AllLegal post.intake.history.base post.intake.history.notes
  pub within : post.intake.history.kept ≤ length post.intake.history.notes
  pub marked : mark_at post.intake ≤ post.last
  pub acknowledged : AllByRecursion (HasAcknowledged (mark_at post.intake)) post.stations
  pub sealings : AllByRecursion (IsSoundSealing post.stations post.last) post.sealings

-- ---- what a stop may leave

-- a station's tape is that of a prefix of its notes, with every acknowledged one in it
abbrev pub KeepsNotes : StationPast → State → Type 0
KeepsNotes station state = IsPrefix station.tape.history state

-- the same of the intake's tape; and each note that a line up to its mark made is acknowledged at its station
abbrev pub KeepsLines : PostPast → State → Type 0
KeepsLines post state = KeepsLinesOf front_history post.intake.history post.stations state

-- the same of whatever a stop leaves now of each tape
pub record IsSafe (post : PostPast) : Type 0 where
  pub stations : AllByRecursion (λ (station : StationPast). EachLedger (KeepsNotes station) station.tape.log)
      post.stations
  pub intake : EachLedger (KeepsLines post) post.intake.log
