-- The pending notes, in the payloads that a flush writes.
use Rattle.std.specs.Prelude.{◌≡◌, ◌⊎◌, ℕ, ◌+◌, ◌-◌, ◌^◌, ◌<◌, ◌≤◌, min, List, [], ◌∷◌, ◌++◌, Some, length, map}
use Rattle.std.specs.Prelude.{slice_get, vec_items, Vec}
use Rattle.std.specs.declared.alloc.Global.{Global}
use Rattle.ledger_core.specs.declared.note.Note.{Note}
use Rattle.ledger_core.specs.Batch.{Cuts, IsBatch, IsFullFor, batch_spelling, longest_batch, payload_of, payloads_of}
use Rattle.ledger_core.specs.Spelling.{spelling}
use Rattle.ledger_core.specs.declared.ledger.Ledger.{Ledger}
use Rattle.ledger_core.specs.Index.{Indexes}
use Rattle.ledger_core.specs.Spots.{IsPlaced, records_length}
use Rattle.recovery.specs.declared.pending.Pending.{Pending}
use Rattle.recovery.specs.declared.pending.PendingPlace.{PendingPlace}

-- their payloads, in order
abbrev pub payloads_in : Pending → List (List ℕ)
payloads_in pending = map vec_items pending.payloads.items

-- These notes are pending, cut into the longest batches that fit.
pub record Holds (pending : Pending) (notes : List Note) : Type 0 where
  pub batches : List (List Note)
  pub cut : Cuts notes batches
  pub payloads : payloads_in pending ≡ payloads_of batches

-- There is room for a note of `len` octets, in the last payload and for a payload of its own.
pub record HasRoom (pending : Pending) (len : ℕ) : Type 0 where
  pub begin : length pending.payloads.items < pending.payloads.cap
  pub joins : (last : Vec ℕ Global)
      → slice_get pending.payloads.items (length pending.payloads.items - 1) ≡ Some last
      → length last.items + 5 + len ≤ last.cap

-- A note came after these payloads. It begins one of its own, if the last would be too long with it, or joins the last.
abbrev pub Begins : List (List ℕ) → List (List ℕ) → Note → Type 0
Begins old new note =
    (new ≡ old ++ spelling note ∷ []) × ((prefix : List (List ℕ)) (batch : List Note) → IsBatch batch
    → old ≡ prefix ++ payload_of batch ∷ [] → IsFullFor batch note)

pub record Joins (old new : List (List ℕ)) (note : Note) : Type 0 where
  pub prefix : List (List ℕ)
  pub batch : List Note
  pub is : IsBatch batch
  pub was : old ≡ prefix ++ payload_of batch ∷ []
  pub fits : length (batch_spelling (batch ++ note ∷ [])) ≤ longest_batch
  pub now : new ≡ prefix ++ payload_of (batch ++ note ∷ []) ∷ []

abbrev pub Grows : List (List ℕ) → List (List ℕ) → Note → Type 0
Grows old new note = Begins old new note ⊎ Joins old new note

-- Where the last pending record begins, and where one after all of them will begin, after those that are on the tape.
pub record EndsAt (kept pending : List (List ℕ)) (last next : ℕ) : Type 0 where
  pub last_is : (prefix : List (List ℕ)) (payload : List ℕ) → pending ≡ prefix ++ payload ∷ []
      → last ≡ min (records_length (kept ++ prefix)) (2 ^ 64 - 1)
  pub next_is : next ≡ min (records_length (kept ++ pending)) (2 ^ 64 - 1)

-- A note has its place in these pending payloads, and the ledger still says where the others are.
pub record Places (kept pending : List (List ℕ)) (ledger : Ledger) (note : Note) (place : PendingPlace) : Type 0 where
  pub indexes : Indexes (length kept) (kept ++ pending) ledger
  pub stands : IsPlaced (length kept) (kept ++ pending) place.at place.slot place.within note
  pub ends : EndsAt kept pending place.at place.next
