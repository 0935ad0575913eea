-- What a claim leaves of a front.
use Rattle.std.specs.Prelude.{◌≡◌, ◌⊎◌, ℕ, Option, None, Some}
use Rattle.flusher.specs.declared.front_desk.Claimed.{Claimed}
use Rattle.flusher.specs.declared.front_desk.Claimed.TheVariants.{Nothing, Debt, ReadBefore, OnTape}
use Rattle.peer_queue.specs.Front.{IsBroken, IsSame, KeepsNotes, places_of}
use Rattle.peer_queue.specs.FrontCalls.{IsTextOf}
use Rattle.peer_queue.specs.DebtPlace.{Held, IsHeldBy, Ready, held_count, least_candidate, moved, released}
use Rattle.peer_queue.specs.declared.front.Front.{Front}
use Rattle.ledger_core.specs.State.{Owing}

-- the least candidate is held by the connection
pub record Holds (connection now key : ℕ) (old new : Front) : Type 0 where
  pub least : least_candidate now (places_of old) ≡ Some key
  pub places : places_of new ≡ moved (places_of old) key (Held connection)

-- What a claim found: no candidate; or the least one, which the connection holds now, with its texts; or with those
-- that were read from the tape before; or only its key, if no note of the front has these.
abbrev pub Claims : (connection now : ℕ) → Front → Front → Claimed → Type 0
Claims connection now old new Nothing =
    (least_candidate now (places_of old) ≡ None) × (places_of new ≡ places_of old)
Claims connection now old new (Debt debt) = Holds connection now debt.0 old new × IsTextOf old debt.0 (Some debt)
Claims connection now old new (ReadBefore debt) = Holds connection now debt.0 old new
Claims connection now old new (OnTape key) = Holds connection now key old new × IsTextOf old key None

-- A claim was refused: nothing has changed; or the least candidate, for which there was no memory, is ready.
abbrev pub GivesBack : (connection now : ℕ) → Front → Front → Type 0
GivesBack connection now old new =
    (places_of new ≡ places_of old)
    ⊎ ((key : ℕ) × (least_candidate now (places_of old) ≡ Some key)
    × (places_of new ≡ moved (moved (places_of old) key (Held connection)) key Ready))

-- A key is given back that a connection claimed: it is ready. A broken front stays as it is, and so does one at which
-- the connection doesn't hold the key.
pub record Unclaims (connection key : ℕ) (old new : Front) : Type 0 where
  pub ready : (IsBroken old → ⊥) → IsHeldBy (places_of old) connection key
      → KeepsNotes old new × (places_of new ≡ moved (places_of old) key Ready)
  pub broken : IsBroken old → IsSame old new
  pub not_held : (IsHeldBy (places_of old) connection key → ⊥) → IsSame old new

-- What a claim hands out: no debt, if there is no candidate; or the least one, which the connection holds from then on.
abbrev pub HandsOut : (connection now : ℕ) → Option Owing → Front → Front → Type 0
HandsOut connection now None old new = (least_candidate now (places_of old) ≡ None) × (places_of new ≡ places_of old)
HandsOut connection now (Some debt) old new = Holds connection now debt.0 old new

-- all debts that the connection held are ready, and so many are they
pub record Releases (connection count : ℕ) (old new : Front) : Type 0 where
  pub held : count ≡ held_count connection (places_of old)
  pub places : places_of new ≡ released connection (places_of old)
  pub keeps : KeepsNotes old new
