-- How receipts are made, and what the calls that make them say, all their clauses together.
use Rattle.std.specs.Prelude.{◌≡◌, ◌⊎◌, ◌+◌, ◌<◌, ℕ, List, Result, OnErr, OnOk, length}
use Rattle.std.specs.Prelude.{IsOk, replicate, slice_get, slice_index_or, slice_set, Some}
use Rattle.std.specs.List.{AllZip}
use Rattle.disk_model.specs.declared.Disk.{Ghosts}
use Rattle.flusher.specs.Flushes.{Acknowledges}
use Rattle.flusher.specs.Sealed.{SettlesDue, noted_at}
use Rattle.flusher.specs.Sees.{RefusesSeeing, Sees}
use Rattle.flusher.specs.declared.sealing.PlaceProgress.{PlaceProgress as Look}
use Rattle.flusher.specs.declared.sealing.PlaceProgress.TheVariants.{Done, Due, Waits}
use Rattle.note_queue.specs.Words.{front_of}
use Rattle.note_queue.specs.declared.sender.Sender.{Sender}
use Rattle.recovery.specs.Notes.{History}
use Rattle.recovery.specs.Rotates.{RefusesRotation}
use Rattle.recovery.specs.Tape.{StandsFor}
use Rattle.recovery.specs.Words.{IsDue, faults_of}
use Rattle.recovery.specs.declared.fault.TapeFault.{TapeFault}
use Rattle.recovery.specs.declared.tape.Tape.{Tape}
use Rattle.sections.specs.Post.{PostPast, Progress, SealingPast, StationPast, with_intake}
use Rattle.sections.specs.Post.Progress.{Counted, Due as DueIs}
use Rattle.sections.specs.Sections.{Call, Does, Section}
use Rattle.sections.specs.Sections.Call.{Puts}
use Rattle.sections.specs.Sections.Section.{Calls_intake, Seals}
use Rattle.sections.specs.Tapes.{TapePast}
use Rattle.section_steps.specs.TapeSteps.{TapeStands, call_of}

-- a place that a sealing has done is a station that is counted
abbrev pub IsCountedIf : Look → Progress → Type 0
IsCountedIf Waits progress = Unit {0}
IsCountedIf (Due count) progress = Unit {0}
IsCountedIf Done progress = progress ≡ Counted

-- what sections see of a sealing: its number, and what it knows of each place
pub record SealingSeen : Type 0 where
  pub number : ℕ
  pub places : List Look

-- A sealing stands for a receipt that is being made: it has its number, and has done only what is counted there. What
-- is due at a place, counted from the opening of its tape on, is what the receipt has found there.
pub record SealingStands (stations : List StationPast) (sealing : SealingSeen) (past : SealingPast) : Type 0 where
  pub number : sealing.number ≡ past.number
  pub long : length past.progress ≡ length stations
  pub done : AllZip IsCountedIf sealing.places past.progress
  pub due : (rank count : ℕ) (station : StationPast) → slice_get sealing.places rank ≡ Some (Due count)
      → slice_get stations rank ≡ Some station
      → slice_get past.progress rank ≡ Some (DueIs (station.tape.history.opened + count))

-- the section is done at the post, and this holds of what comes then
pub record DoesAtPost (post : PostPast) (section : Section) (Holds : PostPast → Type 0) : Type 0 where
  pub later : PostPast
  pub does : Does post section later
  pub holds : Holds later

-- ---- what the calls say

-- a sealing begins, with the number of this line (`Sealing::begin`)
pub record SaysBegin (last places : ℕ) (new : SealingSeen) : Type 0 where
  pub number : new.number ≡ last
  pub none : new.places ≡ replicate places Waits

-- it looks at the front at this place, and finds so many notes there (`Sealing::due`, with its condition)
pub record SaysDue (place : ℕ) (sender : Sender) (found : ℕ) (old new : SealingSeen) : Type 0 where
  pub within : place < length old.places
  pub count : found ≡ noted_at (front_of sender)
  pub due : new.places ≡ slice_set old.places place (Due found)
  pub number : new.number ≡ old.number

-- it adds a place where so much is settled (`Sealing::add`, with its conditions)
pub record SaysAdd (place count : ℕ) (old new : SealingSeen) : Type 0 where
  pub within : place < length old.places
  pub settles : SettlesDue count (slice_index_or old.places place Waits)
  pub done : new.places ≡ slice_set old.places place Done
  pub number : new.number ≡ old.number

module _ {D : Type 0} {g : Ghosts D} where
  -- a number is noted on the intake's tape, and put on the disks (`Intake::seal`)
  pub record SaysSeal {T : Type 0} (number : ℕ) (old new : Tape D g) (result : Result T TapeFault) : Type 0 where
    pub sees : (h : History) → StandsFor old h → Sees number h old new result
    pub refuses : RefusesSeeing old new result

  -- the intake's tape is rewritten, if that is due (`Intake::rotate`)
  pub record SaysRewrite {T : Type 0} (old new : Tape D g) (result : Result T TapeFault) : Type 0 where
    pub unchanged : (IsDue old → ⊥) → (new ≡ old) × IsOk result
    pub acknowledges : IsDue old → (h : History) → StandsFor old h → Acknowledges h old new result
    pub refuses : IsDue old → RefusesRotation old new result
    pub quiet : OnOk result (faults_of new ≡ faults_of old)

  -- ---- what they come to

  -- the number of this receipt is sealed, and then this call is made on the intake's tape, which stands for that then
  pub record SealsThere (post : PostPast) (id : ℕ) (call : Call) (new : Tape D g) : Type 0 where
    pub sealed : TapePast
    pub seals : Does post (Seals id) (with_intake post sealed)
    pub later : TapePast
    pub calls : Does (with_intake post sealed) (Calls_intake call) (with_intake post later)
    pub stands : TapeStands later new

  -- the same, or the number was refused
  abbrev pub SealsOrNot : {T : Type 0} → PostPast → ℕ → Tape D g → Result T TapeFault → Type 0
  SealsOrNot post id new result =
      OnOk result (SealsThere post id Puts new)
      × OnErr result (TapeStands post.intake new ⊎ SealsThere post id (call_of result) new)
