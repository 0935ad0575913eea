-- What the calls of a station do.
use Rattle.std.specs.Prelude.{◌≡◌, ◌↔◌, ◌<◌, ◌+◌, ◌-◌, ℕ, true, List, length, take}
use Rattle.ledger_core.specs.State.{State}
use Rattle.recovery.specs.Notes.{most_pending}
use Rattle.peer_queue.specs.DebtPlace.{Places}
use Rattle.peer_queue.specs.Shed.{IsShedSet}
use Rattle.peer_queue.specs.declared.limits.Limits.{Limits}
use Rattle.peer_queue.specs.declared.limits.Shed.{Shed}

-- What was shed of the numbers to shed: all of them, or the longest prefix for which there was room.
pub record IsShedFrom (IsSet : List ℕ → Type 0) (pending : ℕ) (shed : Shed) : Type 0 where
  pub set : List ℕ
  pub is_set : IsSet set
  pub keys : shed.keys.items ≡ take (most_pending - pending) set
  pub more : (shed.more ≡ true) ↔ (most_pending < pending + length set)

-- what was shed of this ledger
abbrev pub IsShed : Limits → State → Places → ℕ → Shed → Type 0
IsShed limits state places pending shed = IsShedFrom (IsShedSet limits state places) pending shed
