-- What a sender knows of its front, and what sending leaves of it.
use Rattle.std.specs.Prelude.{◌≡◌, ◌≤◌, ◌-◌, ◌++◌, drop, length}
use Rattle.ledger_core.specs.Shape.{shape_of}
use Rattle.ledger_core.specs.State.{after}
use Rattle.peer_queue.specs.Front.{front_shape, limits_of, notes_of, place_of, places_of, sent_of, settled_of}
use Rattle.peer_queue.specs.Front.{unsent_of, unsettled_of}
use Rattle.peer_queue.specs.declared.front.Front.{Front}
use Rattle.note_queue.specs.declared.rule.PassLog.{PassLog}

-- what a sender knows of its front and of what its pass has sent
pub record IsNoted (log : PassLog) (front : Front) : Type 0 where
  -- the ledger at the split, followed by what was sent and what was not, has the front's shape
  pub shape : front_shape front ≡ shape_of (after log.sent_on (log.sent ++ unsent_of front))
  -- the notes that are not settled are the last of those that were sent, and then those that were not
  pub last : unsettled_of front ≡ drop (length log.sent - sent_of front) log.sent ++ unsent_of front
  pub within : sent_of front ≤ length log.sent

-- of the front, only how many notes were sent has changed
pub record IsOnlySent (old new : Front) : Type 0 where
  pub shape : front_shape new ≡ front_shape old
  pub notes : notes_of new ≡ notes_of old
  pub unsettled : unsettled_of new ≡ unsettled_of old
  pub settled : settled_of new ≡ settled_of old
  pub place : place_of new ≡ place_of old
  pub works : new.outbox.broken ≡ old.outbox.broken
  pub places : places_of new ≡ places_of old
  pub limits : limits_of new ≡ limits_of old
