-- What becomes of a debt that a connection held, by its outcome (profile; innfeed.conf(5), drop-deferred).
use Rattle.std.specs.Prelude.{◌≡◌, ℕ, Bool, true, false}
use Rattle.disk_model.specs.declared.Disk.{Ghosts}
use Rattle.ledger_core.specs.declared.note.Note.{Note}
use Rattle.ledger_core.specs.declared.note.Note.TheVariants.{Final as FinalNote, Drop}
use Rattle.ledger_core.specs.declared.note.Cause.TheVariants.{Deferred as PutOff}
use Rattle.conn_core.specs.Commands.{debt_in}
use Rattle.conn_core.specs.declared.outcome.Outcome.{Outcome}
use Rattle.conn_core.specs.declared.outcome.Outcome.TheVariants.{Final, Deferred, Lost, Back}
use Rattle.peer_queue.specs.DebtPlace.{DebtPlace, Ready as ReadyPlace, Later as LaterPlace}
use Rattle.peer_queue.specs.DebtPlace.{IsHeldBy, deferred_until, gone, moved}
use Rattle.peer_queue.specs.Words.{IsSameTape, Notes, limits_of, places_of}
use Rattle.peer_queue.specs.declared.limits.Limits.{Limits}
use Rattle.peer_queue.specs.declared.settled.Settled.{Settled}
use Rattle.peer_queue.specs.declared.settled.Settled.TheVariants.{Answered, Dropped, Later, Ready}
use Rattle.peer_queue.specs.declared.station.Station.{Station}

-- the key of the debt that an outcome is about
abbrev pub key_in : Outcome → ℕ
key_in outcome = (debt_in outcome).0

-- what becomes of a deferred debt: it is dropped if deferred debts are, and otherwise waits
abbrev pub deferred_as : Bool → ℕ → Settled
deferred_as true now = Dropped PutOff
deferred_as false now = Later (deferred_until now)

-- what becomes of a debt by its outcome, at this moment, at a station of these limits
abbrev pub settled_by : Limits → ℕ → Outcome → Settled
settled_by limits now (Final verdict) = Answered verdict.code
settled_by limits now (Deferred deferral) = deferred_as limits.drop_deferred now
settled_by limits now (Lost debt cause) = Dropped cause
settled_by limits now (Back debt) = Ready

-- the debt is owed no more
abbrev pub IsEnded : Settled → Type 0
IsEnded (Answered code) = Unit {0}
IsEnded (Dropped cause) = Unit {0}
IsEnded (Later moment) = ⊥
IsEnded Ready = ⊥

module _ {D : Type 0} {g : Ghosts D} where
  -- a debt that the connection held is owed no more, by this one note
  pub record Ends (connection number : ℕ) (note : Note) (old new : Station D g) : Type 0 where
    pub held : IsHeldBy (places_of old) connection number
    pub notes : Notes old new note
    pub places : places_of new ≡ gone (places_of old) number

  -- a debt that the connection held is owed as before, and at this place
  pub record Moves (connection number : ℕ) (place : DebtPlace) (old new : Station D g) : Type 0 where
    pub held : IsHeldBy (places_of old) connection number
    pub tape : IsSameTape old new
    pub places : places_of new ≡ moved (places_of old) number place

  -- this has become of a debt that the connection held
  abbrev pub Settles : ℕ → ℕ → Settled → Station D g → Station D g → Type 0
  Settles connection number (Answered code) old new = Ends connection number (FinalNote number code) old new
  Settles connection number (Dropped cause) old new = Ends connection number (Drop number cause) old new
  Settles connection number (Later moment) old new = Moves connection number (LaterPlace moment) old new
  Settles connection number Ready old new = Moves connection number ReadyPlace old new

  -- what an outcome, at this moment, makes of a station
  abbrev pub Finishes : ℕ → ℕ → Outcome → Station D g → Station D g → Type 0
  Finishes connection now outcome old new =
      Settles connection (key_in outcome) (settled_by (limits_of old) now outcome) old new
