-- What the calls of a front do, and when they are refused.
use Rattle.std.specs.Prelude.{◌≡◌, ◌⊎◌, ◌↔◌, ◌∷◌, [], ℕ, true, false}
use Rattle.std.specs.Prelude.{IfErr, IsErrOf, IsSome, OnErr, Option, Result}
use Rattle.ledger_core.specs.Shape.{FitsShape, OverflowsShape}
use Rattle.ledger_core.specs.State.{Owing}
use Rattle.ledger_core.specs.declared.note.Cause.TheVariants.{Deferred as PutOff}
use Rattle.ledger_core.specs.declared.note.Note.{Note}
use Rattle.ledger_core.specs.declared.note.Note.TheVariants.{Drop, Final as FinalNote}
use Rattle.conn_core.specs.declared.deferral.Deferral.{Deferral}
use Rattle.conn_core.specs.declared.outcome.Outcome.{Outcome}
use Rattle.recovery.specs.declared.flushed.Flushed.{Flushed}
use Rattle.peer_queue.specs.Front.{IsBroken, IsSame, KeepsNotes, Notes, closing, front_shape, limits_of, pending_of}
use Rattle.peer_queue.specs.Front.{places_of}
use Rattle.peer_queue.specs.Outbox.{IsAnswerTo, IsTextIn}
use Rattle.peer_queue.specs.DebtPlace.{DebtPlace, IsHeldBy, Later as LaterPlace, Ready as ReadyPlace, all_gone}
use Rattle.peer_queue.specs.DebtPlace.{deferred_until}
use Rattle.peer_queue.specs.DebtPlace.{gone, least_candidate, moved}
use Rattle.peer_queue.specs.Refusals.{RefusesEnd, RefusesHeld, RefusesLine}
use Rattle.peer_queue.specs.Settled.{key_in, settled_by}
use Rattle.peer_queue.specs.Shed.{IsShedByShape, dropped}
use Rattle.peer_queue.specs.Station.{IsShedFrom}
use Rattle.peer_queue.specs.Words.{deferred_key}
use Rattle.peer_queue.specs.declared.fault.StationFault.{StationFault}
use Rattle.peer_queue.specs.declared.fault.StationFault.TheVariants.{Broken, NoMemory}
use Rattle.peer_queue.specs.declared.front.Front.{Front}
use Rattle.peer_queue.specs.declared.limits.Shed.{Shed}
use Rattle.peer_queue.specs.declared.outbox.Outbox.{Outbox}
use Rattle.peer_queue.specs.declared.settled.Settled.{Settled}
use Rattle.peer_queue.specs.declared.settled.Settled.TheVariants.{Answered, Dropped, Later, Ready}

-- ---- refusals

-- when owing the line of this number by this note is refused; its source was noted up to this mark
abbrev pub RefusesOwe : {T : Type 0} → ℕ → ℕ → Note → Front → Front → Result T StationFault → Type 0
RefusesOwe mark number note old new result =
    RefusesLine (IsBroken old) (OverflowsShape (front_shape old) note) (IsSame old new) mark number
    (pending_of old) result

-- when closing the open source is refused
abbrev pub RefusesClose : Front → Front → Result ℕ StationFault → Type 0
RefusesClose old new result =
    RefusesEnd (IsBroken old) (OverflowsShape (front_shape old) (closing old)) (FitsShape (front_shape old)
    (closing old))
    (IsSame old new) (pending_of old) result

-- when a call is refused that is about a debt which this connection should hold
abbrev pub Refuses : {A B : Type 0} → Front → ℕ → ℕ → Result A (B × StationFault) → Type 0
Refuses old connection number result = RefusesHeld (IsBroken old) (IsHeldBy (places_of old) connection number) result

-- When a claim at this moment is refused; then nothing has changed.
pub record RefusesClaim {T : Type 0} (now : ℕ) (old new : Front) (result : Result T StationFault) : Type 0 where
  pub broken : IsErrOf result Broken ↔ IsBroken old
  -- except for Broken, there was a debt to claim
  pub no_memory : IsErrOf result NoMemory → IsSome (least_candidate now (places_of old))
  pub kinds : IfErr result (λ e. (e ≡ Broken) ⊎ (e ≡ NoMemory))
  pub places : OnErr result (places_of new ≡ places_of old)

-- ---- what becomes of a debt that a connection held

-- it is owed no more, by this one note
pub record Ends (connection number : ℕ) (note : Note) (old new : Front) : Type 0 where
  pub held : IsHeldBy (places_of old) connection number
  pub notes : Notes old new (note ∷ [])
  pub places : places_of new ≡ gone (places_of old) number

-- it is owed as before, and at this place
pub record Moves (connection number : ℕ) (place : DebtPlace) (old new : Front) : Type 0 where
  pub held : IsHeldBy (places_of old) connection number
  pub keeps : KeepsNotes old new
  pub places : places_of new ≡ moved (places_of old) number place

-- this has become of it
abbrev pub Settles : ℕ → ℕ → Settled → Front → Front → Type 0
Settles connection number (Answered code) old new = Ends connection number (FinalNote number code) old new
Settles connection number (Dropped cause) old new = Ends connection number (Drop number cause) old new
Settles connection number (Later moment) old new = Moves connection number (LaterPlace moment) old new
Settles connection number Ready old new = Moves connection number ReadyPlace old new

-- what an outcome, at this moment, makes of a front
abbrev pub Finishes : ℕ → ℕ → Outcome → Front → Front → Type 0
Finishes connection now outcome old new =
    Settles connection (key_in outcome) (settled_by (limits_of old) now outcome) old new

-- a debt that the connection held was deferred at this moment: it waits, or is dropped if deferred debts are
pub record Defers (connection : ℕ) (deferral : Deferral) (now : ℕ) (old new : Front) : Type 0 where
  pub held : IsHeldBy (places_of old) connection (deferred_key deferral)
  pub later : (limits_of old).drop_deferred ≡ false → KeepsNotes old new
      × (places_of new ≡ moved (places_of old) (deferred_key deferral) (LaterPlace (deferred_until now)))
  pub dropped : (limits_of old).drop_deferred ≡ true → Notes old new (Drop (deferred_key deferral) PutOff ∷ [])
      × (places_of new ≡ gone (places_of old) (deferred_key deferral))

-- ---- what is shed

-- these debts were shed: each is dropped by a note, which pends, and has no place any more
pub record Sheds (old new : Front) (shed : Shed) : Type 0 where
  pub set : IsShedFrom (IsShedByShape (limits_of old) (front_shape old) (places_of old)) (pending_of old) shed
  pub notes : Notes old new (dropped shed.keys.items)
  pub places : places_of new ≡ all_gone (places_of old) shed.keys.items

-- ---- texts

-- the texts of the debt of this key, or none
abbrev pub IsTextOf : Front → ℕ → Option Owing → Type 0
IsTextOf front key found = IsTextIn front.outbox key found

-- ---- what is sent and settled

-- only the notes changed, in this way: no place and no limit did
pub record OnlyOutbox (Changes : Outbox → Outbox → Type 0) (old new : Front) : Type 0 where
  pub outbox : Changes old.outbox new.outbox
  pub places : places_of new ≡ places_of old
  pub limits : limits_of new ≡ limits_of old

-- a flush's answer is of this front's tape, and covers only notes that were sent
abbrev pub IsAnswered : Flushed → Front → Type 0
IsAnswered flushed front = IsAnswerTo flushed front.outbox
