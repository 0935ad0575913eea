-- What a front holds. Words that mean the same have the station's names.
use Rattle.std.specs.Prelude.{◌≡◌, ◌+◌, ◌↔◌, ℕ, List, [], Some, length}
use Rattle.disk_model.specs.declared.Disk.{Ghosts}
use Rattle.ledger_core.specs.Keys.{key_of}
use Rattle.ledger_core.specs.Shape.{Shape, shape_of}
use Rattle.ledger_core.specs.declared.note.Note.{Note}
use Rattle.ledger_core.specs.declared.note.Note.TheVariants.{Closed}
use Rattle.recovery.specs.Notes.{History, most_pending}
use Rattle.recovery.specs.Tape.{StandsFor}
use Rattle.recovery.specs.Words.{IsBroken as IsBrokenTape, IsSame as IsSameTape, disks_of, flushed_of}
use Rattle.recovery.specs.Words.{place_of as tape_place}
use Rattle.recovery.specs.declared.tape.Tape.{Tape}
use Rattle.peer_queue.specs.Outbox.{IsCutOff, IsSameOutbox, Pends, box_shape, notes_in, unsent_in, unsettled_in}
use Rattle.peer_queue.specs.DebtPlace.{IsHeldBy, Places}
use Rattle.peer_queue.specs.Words.{IsBroken as IsBrokenStation, ledger_of}
use Rattle.peer_queue.specs.Words.{limits_of as station_limits, places_of as station_places, tape_of}
use Rattle.peer_queue.specs.declared.front.Front.{Front}
use Rattle.peer_queue.specs.declared.limits.Limits.{Limits}
use Rattle.peer_queue.specs.declared.station.Station.{Station}

-- the shape of its ledger, the notes that pend included
abbrev pub front_shape : Front → Shape
front_shape front = box_shape front.outbox

-- the place of each key that is owed
abbrev pub places_of : Front → Places
places_of front = front.index

-- the limits of its backlog
abbrev pub limits_of : Front → Limits
limits_of front = front.limits

-- the notes whose texts it has: the last of the settled ones, then all that are not settled
abbrev pub notes_of : Front → List Note
notes_of front = notes_in front.outbox

-- the notes that are not settled: they pend
abbrev pub unsettled_of : Front → List Note
unsettled_of front = unsettled_in front.outbox

-- those of them that were not sent
abbrev pub unsent_of : Front → List Note
unsent_of front = unsent_in front.outbox

-- how many notes pend
abbrev pub pending_of : Front → ℕ
pending_of front = length (unsettled_of front)

-- how many of them were sent
abbrev pub sent_of : Front → ℕ
sent_of front = front.outbox.sent

-- how many notes are settled, as its tape counts them
abbrev pub settled_of : Front → ℕ
settled_of front = front.outbox.settled

-- its place among the fronts of other peers; its tape has the same
abbrev pub place_of : Front → ℕ
place_of front = front.outbox.place

-- its tape broke, and its peer's station has to be opened again from the disks
abbrev pub IsBroken : Front → Type 0
IsBroken front = IsCutOff front.outbox

-- the key of the line of this number of the source that is open
abbrev pub open_key : Front → ℕ → ℕ
open_key front number = key_of ((front_shape front).closed + 1) number

-- the note that closes the source that is open
abbrev pub closing : Front → Note
closing front = Closed ((front_shape front).closed + 1)

-- these notes were taken, in this order, and pend
pub record Notes (old new : Front) (notes : List Note) : Type 0 where
  pub outbox : Pends notes old.outbox new.outbox
  pub limits : limits_of new ≡ limits_of old

-- at most the places changed
pub record KeepsNotes (old new : Front) : Type 0 where
  pub outbox : new.outbox ≡ old.outbox
  pub limits : limits_of new ≡ limits_of old

-- nothing changed
pub record IsSame (old new : Front) : Type 0 where
  pub outbox : IsSameOutbox old.outbox new.outbox
  pub places : places_of new ≡ places_of old
  pub limits : limits_of new ≡ limits_of old

-- the connection holds the number, the front works, and no more notes may pend
abbrev pub MeetsFull : Front → ℕ → ℕ → Type 0
MeetsFull old connection number =
    (IsBroken old → ⊥) × IsHeldBy (places_of old) connection number × (pending_of old ≡ most_pending)

module _ {D : Type 0} {g : Ghosts D} where
  -- The front of this station, of which no note pends, at this place: it owes the same debts at the same places, and
  -- its count of settled notes is that of the notes put on the tape.
  pub record IsFrontOf (at : ℕ) (station : Station D g) (front : Front) : Type 0 where
    pub shape : front_shape front ≡ shape_of (ledger_of station)
    pub places : places_of front ≡ station_places station
    pub limits : limits_of front ≡ station_limits station
    pub notes : notes_of front ≡ []
    pub unsettled : unsettled_of front ≡ []
    pub unsent : unsent_of front ≡ []
    pub sent : sent_of front ≡ 0
    pub settled : settled_of front ≡ flushed_of (tape_of station)
    pub place : place_of front ≡ at
    pub works : IsBroken front ↔ IsBrokenStation station

  -- the tape has this place now, and is otherwise as it was
  pub record IsPlaced (at : ℕ) (old new : Tape D g) : Type 0 where
    pub place : tape_place new ≡ Some at
    pub stands : (h : History) → StandsFor old h ↔ StandsFor new h
    pub same : IsSameTape old new
    pub disks : disks_of new ≡ disks_of old
    pub works : IsBrokenTape old ↔ IsBrokenTape new
