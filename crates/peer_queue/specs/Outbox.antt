-- What a front has noted, and what of it is sent and settled.
use Rattle.std.specs.Prelude.{◌≡◌, ◌+◌, ◌-◌, ◌<◌, ◌≤◌, ◌^◌, ℕ, true, List, ◌∷◌, ◌++◌, drop, length}
use Rattle.std.specs.Prelude.{Contains, IfNone, IfSome, Option, Some}
use Rattle.ledger_core.specs.Outline.{shape_in}
use Rattle.ledger_core.specs.Shape.{IsSized, Shape}
use Rattle.ledger_core.specs.State.{Owing}
use Rattle.ledger_core.specs.declared.note.Note.{Note}
use Rattle.ledger_core.specs.declared.note.Note.TheVariants.{Owe}
use Rattle.recovery.specs.declared.flushed.Flushed.{Flushed}
use Rattle.peer_queue.specs.Numbers.{most_lying}
use Rattle.peer_queue.specs.Shapes.{AllFit, shape_after}
use Rattle.peer_queue.specs.declared.outbox.Outbox.{Outbox}

-- the shape of the ledger that all its notes leave
abbrev pub box_shape : Outbox → Shape
box_shape outbox = shape_in outbox.outline

-- the notes that it has: the last of the settled ones, then all that are not settled
abbrev pub notes_in : Outbox → List Note
notes_in outbox = outbox.notes.items

-- those of them that are not settled
abbrev pub unsettled_in : Outbox → List Note
unsettled_in outbox = drop outbox.lying (notes_in outbox)

-- and of these those that were not sent
abbrev pub unsent_in : Outbox → List Note
unsent_in outbox = drop outbox.sent (unsettled_in outbox)

-- its tape broke: it takes no note any more
abbrev pub IsCutOff : Outbox → Type 0
IsCutOff outbox = outbox.broken ≡ true

-- these notes were taken, in this order, and are neither sent nor settled
pub record Pends (taken : List Note) (old new : Outbox) : Type 0 where
  pub legal : AllFit (box_shape old) taken
  pub shape : box_shape new ≡ shape_after (box_shape old) taken
  pub notes : notes_in new ≡ notes_in old ++ taken
  pub lying : new.lying ≡ old.lying
  pub unsettled : unsettled_in new ≡ unsettled_in old ++ taken
  pub unsent : unsent_in new ≡ unsent_in old ++ taken
  pub sent : new.sent ≡ old.sent
  pub settled : new.settled ≡ old.settled
  pub place : new.place ≡ old.place
  pub works : new.broken ≡ old.broken

-- nothing changed
pub record IsSameOutbox (old new : Outbox) : Type 0 where
  pub shape : box_shape new ≡ box_shape old
  pub notes : notes_in new ≡ notes_in old
  pub lying : new.lying ≡ old.lying
  pub unsettled : unsettled_in new ≡ unsettled_in old
  pub unsent : unsent_in new ≡ unsent_in old
  pub sent : new.sent ≡ old.sent
  pub settled : new.settled ≡ old.settled
  pub place : new.place ≡ old.place
  pub works : new.broken ≡ old.broken

-- a flush's answer is of this outbox's tape, and covers only notes that were sent
abbrev pub IsAnswerTo : Flushed → Outbox → Type 0
IsAnswerTo flushed outbox = (flushed.place ≡ Some outbox.place) × (flushed.count ≤ outbox.settled + outbox.sent)

-- `more` further notes are settled now. The last 8,192 settled ones are kept, as far as they were there.
pub record Learns (more : ℕ) (old new : Outbox) : Type 0 where
  pub settled : new.settled ≡ old.settled + more
  pub unsettled : unsettled_in new ≡ drop more (unsettled_in old)
  pub unsent : unsent_in new ≡ unsent_in old
  pub sent : new.sent ≡ old.sent - more
  pub notes : notes_in new ≡ drop (old.lying + more - most_lying) (notes_in old)
  pub shape : box_shape new ≡ box_shape old
  pub place : new.place ≡ old.place
  pub works : new.broken ≡ old.broken

-- the first unsent note counts as sent now
pub record Sends (old new : Outbox) : Type 0 where
  pub unsent : (note : Note) (rest : List Note) → unsent_in old ≡ note ∷ rest → unsent_in new ≡ rest
  pub sent : new.sent ≡ old.sent + 1
  pub unsettled : unsettled_in new ≡ unsettled_in old
  pub notes : notes_in new ≡ notes_in old
  pub shape : box_shape new ≡ box_shape old
  pub settled : new.settled ≡ old.settled
  pub place : new.place ≡ old.place
  pub works : new.broken ≡ old.broken

-- it is cut off now
pub record Breaks (old new : Outbox) : Type 0 where
  pub breaks : IsCutOff new
  pub notes : notes_in new ≡ notes_in old
  pub unsettled : unsettled_in new ≡ unsettled_in old
  pub unsent : unsent_in new ≡ unsent_in old
  pub sent : new.sent ≡ old.sent
  pub shape : box_shape new ≡ box_shape old
  pub settled : new.settled ≡ old.settled
  pub place : new.place ≡ old.place

-- The texts of the debt of this key, or none. Some: the debt is owed, and one of the notes here owes it with these
-- texts.
-- None: it is not owed, or no note here owes it; that holds as long as ordinals have 64 bits.
pub record IsTextIn (outbox : Outbox) (key : ℕ) (found : Option Owing) : Type 0 where
  pub some : IfSome found (λ debt. (debt.0 ≡ key) × IsSized (box_shape outbox) key
      × Contains (notes_in outbox) (Owe key debt.1.0 debt.1.1))
  pub none : IfNone found (outbox.settled + length (unsettled_in outbox) < 2 ^ 64 → IsSized (box_shape outbox) key
      → (token id : List ℕ) → Contains (notes_in outbox) (Owe key token id) → ⊥)
