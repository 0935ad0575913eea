-- When a front refuses what its peer's post is asked.
use Rattle.std.specs.Prelude.{◌≡◌, ◌≢◌, ◌↔◌, ◌<◌, ℕ, IfErr, IsErr, IsErrAnd, IsErrOf, IsSome, OnErr, Result}
use Rattle.conn_core.specs.declared.outcome.Outcome.{Outcome}
use Rattle.note_queue.specs.Noted.{IsOnlySent}
use Rattle.peer_queue.specs.DebtPlace.{IsHeldBy, least_candidate}
use Rattle.peer_queue.specs.Front.{IsBroken, IsSame, MeetsFull, front_shape, limits_of, pending_of, places_of}
use Rattle.peer_queue.specs.FrontCalls.{Refuses}
use Rattle.peer_queue.specs.Refusals.{Tells}
use Rattle.peer_queue.specs.Settled.{IsEnded, key_in, settled_by}
use Rattle.peer_queue.specs.declared.fault.StationFault.{StationFault}
use Rattle.peer_queue.specs.declared.fault.StationFault.TheVariants.{Broken, NoMemory, NotHeld, Tape}
use Rattle.peer_queue.specs.declared.front.Front.{Front}
use Rattle.peer_queue.specs.declared.settled.Settled.{Settled}
use Rattle.recovery.specs.Notes.{most_pending}
use Rattle.recovery.specs.declared.fault.TapeFault.TheVariants.{PendingFull}
use Rattle.flusher.specs.Faults.{IsShedFault}
use Rattle.flusher.specs.declared.fault.PostFault.{PostFault}
use Rattle.flusher.specs.declared.fault.PostFault.TheVariants.{CountFull, Station, Stranger}

-- when a front refuses an outcome, in the order in which it is tried; then nothing has changed
pub record RefusesOutcome (connection now : ℕ) (outcome : Outcome) (old new : Front)
    (result : Result Settled (Outcome × StationFault)) : Type 0 where
  pub held : Refuses old connection (key_in outcome) result
  pub pending_full : Tells result (Tape PendingFull)
      ↔ (IsEnded (settled_by (limits_of old) now outcome) × MeetsFull old connection (key_in outcome))
  pub no_memory : Tells result NoMemory → IsEnded (settled_by (limits_of old) now outcome)
  pub unchanged : OnErr result (IsSame old new)

-- when a front refuses to shed
pub record RefusesShed {A : Type 0} (front : Front) (result : Result A StationFault) : Type 0 where
  pub broken : IsErrOf result Broken ↔ IsBroken front
  pub kinds : IfErr result IsShedFault

-- the front of this peer refused the call with this fault, and something was handed back with it
abbrev pub TellsOf : {A B : Type 0} → ℕ → Result A (B × PostFault) → StationFault → Type 0
TellsOf peer result fault = IsErrAnd result (λ e. e.1 ≡ Station peer fault)

-- when a call at this peer's front is refused that is about a debt which this connection should hold
pub record RefusesHeldOf {A B : Type 0} (peer : ℕ) (front : Front) (connection key : ℕ)
    (result : Result A (B × PostFault)) : Type 0 where
  pub broken : TellsOf peer result Broken ↔ IsBroken front
  pub not_held : TellsOf peer result NotHeld
      ↔ ((IsBroken front → ⊥) × (IsHeldBy (places_of front) connection key → ⊥))

-- the same of an outcome, which a full front refuses, too, if the debt ends
pub record RefusesOutcomeOf (peer connection now : ℕ) (outcome : Outcome) (front : Front)
    (result : Result Settled (Outcome × PostFault)) : Type 0 where
  pub held : RefusesHeldOf peer front connection (key_in outcome) result
  pub pending_full : TellsOf peer result (Tape PendingFull)
      ↔ (IsEnded (settled_by (limits_of front) now outcome) × MeetsFull front connection (key_in outcome))
  pub no_memory : TellsOf peer result NoMemory → IsEnded (settled_by (limits_of front) now outcome)

-- when a claim is refused at a front; a broken front is as it was
pub record RefusesClaim {A : Type 0} (now : ℕ) (old new : Front) (result : Result A StationFault) : Type 0 where
  pub broken : IsErrOf result Broken ↔ IsBroken old
  pub no_memory : IsErrOf result NoMemory → IsSome (least_candidate now (places_of old))
  pub unchanged : IsErrOf result Broken → places_of new ≡ places_of old

-- the same at this peer's front
pub record RefusesClaimOf {A : Type 0} (peer now : ℕ) (old new : Front) (result : Result A PostFault) : Type 0 where
  pub broken : IsErrOf result (Station peer Broken) ↔ IsBroken old
  pub no_memory : IsErrOf result (Station peer NoMemory) → IsSome (least_candidate now (places_of old))
  pub unchanged : IsErrOf result (Station peer Broken) → places_of new ≡ places_of old

-- When a line of this number is refused at this peer's front, in the order in which it is tried: the tally of what was
-- taken is full; the front's mark is not the intake's; the front is broken; as many notes pend as may; or memory, which
-- may be refused before the notes are counted. Only a number above the mark is refused for the last two.
pub record RefusesTaking (peer : ℕ) (IsFull : Type 0) (mark number : ℕ) (front : Front)
    (result : Result (Unit {0}) PostFault) : Type 0 where
  pub count_full : IsErrOf result CountFull ↔ IsFull
  pub stranger : IsErrOf result (Stranger peer) ↔ ((IsFull → ⊥) × ((front_shape front).mark ≢ mark))
  pub broken : IsErrOf result (Station peer Broken)
      ↔ ((IsFull → ⊥) × ((front_shape front).mark ≡ mark) × IsBroken front)
  pub pending_full : IsErrOf result (Station peer (Tape PendingFull))
      → (mark < number) × (pending_of front ≡ most_pending)
  pub no_memory : IsErrOf result (Station peer NoMemory) → (IsBroken front → ⊥) × (mark < number)
  pub never : (mark < number) × (pending_of front ≡ most_pending) → IsErr result

-- this was done to a front, and then some of its notes, or none, were sent
abbrev pub ThenSent : (Front → Type 0) → Front → Type 0
ThenSent Done new = (between : Front) × Done between × IsOnlySent between new
