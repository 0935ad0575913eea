-- What a line does to a front, and when the front refuses it.
use Rattle.std.specs.Prelude.{◌≡◌, ◌≢◌, ◌↔◌, ◌+◌, ◌<◌, ◌≤◌, ◌∷◌, [], ℕ, List, Result, Ok, Err, IfErr, IsErrOf}
use Rattle.std.specs.Prelude.{if◌then◌else◌, max, nat_lt}
use Rattle.ledger_core.specs.declared.note.Note.TheVariants.{Owe}
use Rattle.peer_queue.specs.DebtPlace.{Ready, with_place}
use Rattle.peer_queue.specs.Front.{Notes, front_shape, places_of}
use Rattle.peer_queue.specs.FrontCalls.{RefusesOwe}
use Rattle.peer_queue.specs.declared.fault.StationFault.{StationFault}
use Rattle.peer_queue.specs.declared.front.Front.{Front}
use Rattle.peer_queue.specs.declared.limits.Owed.{Owed}
use Rattle.flusher.specs.Faults.{IsTakeFault}
use Rattle.flusher.specs.declared.fault.TakeFault.{TakeFault}
use Rattle.flusher.specs.declared.fault.TakeFault.TheVariants.{Station as OfStation, Stranger as OtherMark}

-- A line above the mark is owed from now on, by this note, and is ready. Any other changes nothing.
pub record TakesLine (mark number : ℕ) (token id : List ℕ) (old new : Front) : Type 0 where
  pub owes : mark < number → Notes old new (Owe number token id ∷ [])
      × (places_of new ≡ with_place (places_of old) number Ready)
  pub unchanged : number ≤ mark → new ≡ old

-- A line is taken at a front of this mark: the mark is raised to the line's number if it is below it, and then the line
-- is counted.
pub record TakesAndCounts (mark number : ℕ) (token id : List ℕ) (old new : Front) (raised before after : ℕ)
    : Type 0 where
  pub marked : raised ≡ max mark number
  pub counted : after ≡ before + (if nat_lt mark number then 1 else 0)
  pub takes : TakesLine mark number token id old new

-- what a desk answers if its front answers this to a line
abbrev pub taken_by : Result Owed StationFault → Result (Unit {0}) TakeFault
taken_by (Ok owed) = Ok tt
taken_by (Err fault) = Err (OfStation fault)

-- the answer is the front's, which had this mark, and refuses the line only as `owe` does
pub record AnswersLine (mark number : ℕ) (token id : List ℕ) (old new : Front) (result : Result (Unit {0}) TakeFault)
    : Type 0 where
  pub answer : Result Owed StationFault
  pub is : result ≡ taken_by answer
  pub refuses : RefusesOwe mark number (Owe number token id) old new answer

-- when a desk refuses a line: exactly if its front has another mark than this, or as the front does
pub record RefusesAtDesk (mark number : ℕ) (token id : List ℕ) (old new : Front) (result : Result (Unit {0}) TakeFault)
    : Type 0 where
  pub stranger : IsErrOf result OtherMark ↔ (front_shape old).mark ≢ mark
  pub answers : (front_shape old).mark ≡ mark → AnswersLine mark number token id old new result
  pub kinds : IfErr result IsTakeFault
