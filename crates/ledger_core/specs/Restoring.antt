-- A ledger while the payloads of a tape are read, one after another.
use Rattle.std.specs.Prelude.{◌≡◌, ◌⊎◌, ℕ, ◌-◌, ◌<◌, ◌≤◌, ◌^◌, List, [], length, min, take}
use Rattle.ledger_core.specs.declared.base.Base.{Base}
use Rattle.ledger_core.specs.declared.restoring.RefusedPayload.{RefusedPayload}
use Rattle.ledger_core.specs.declared.restoring.Restoring.{Restoring}
use Rattle.ledger_core.specs.declared.restoring.RestoreStage.{RestoreStage}
use Rattle.ledger_core.specs.declared.restoring.RestoreStage.TheVariants.{Unread, Begun, Refused}
use Rattle.ledger_core.specs.Base.{BeginsWith, IsSound, RestoreStopsAt, Restores}
use Rattle.ledger_core.specs.Index.{Indexes}
use Rattle.ledger_core.specs.Ledger.{state_of}
use Rattle.ledger_core.specs.Owing.{OwesAll}
use Rattle.ledger_core.specs.Spots.{records_length}
use Rattle.ledger_core.specs.State.{State, start}

-- These payloads are a sound Base of this generation, which counts this many debts as taken, and the first of its
-- debts; others are missing.
pub record IsOwing (generation taken : ℕ) (payloads : List (List ℕ)) (state : State) : Type 0 where
  pub base : Base
  pub behind : List (List ℕ)
  pub begins : BeginsWith payloads base behind
  pub sound : IsSound base
  pub owes : OwesAll base behind state
  pub generation_is : generation ≡ base.generation
  pub taken_is : taken ≡ base.taken
  pub missing : state.taken < taken

-- these payloads, one or more, are a tape of this generation, and leave a state in which this many debts were taken
pub record IsWhole (generation taken : ℕ) (payloads : List (List ℕ)) (state : State) : Type 0 where
  pub begun : 1 ≤ length payloads
  pub restores : Restores payloads generation state
  pub enough : taken ≤ state.taken

-- so far these payloads can be read, and leave this state
abbrev pub HasRead : RestoreStage → State → List (List ℕ) → Type 0
HasRead Unread state payloads = (payloads ≡ []) × (state ≡ start)
HasRead (Begun generation taken) state payloads =
    IsOwing generation taken payloads state ⊎ IsWhole generation taken payloads state
HasRead Refused state payloads = ⊥

-- this is how many payloads there are, and where the record after theirs begins; both are at most the greatest number
pub record IsPlace (payloads : List (List ℕ)) (index at : ℕ) : Type 0 where
  pub index_is : index ≡ min (length payloads) (2 ^ 64 - 1)
  pub at_is : at ≡ min (records_length payloads) (2 ^ 64 - 1)

-- each of these payloads was read
pub record HasGoneOn (restoring : Restoring) (payloads : List (List ℕ)) : Type 0 where
  pub reads : HasRead restoring.stage (state_of restoring.ledger) payloads
  pub indexed : (kept : ℕ) → length payloads ≤ kept → Indexes kept payloads restoring.ledger
  pub place : IsPlace payloads restoring.index restoring.at

-- one of these payloads was refused, the first for which that holds
pub record HasStopped (restoring : Restoring) (payloads : List (List ℕ)) : Type 0 where
  pub stage_is : restoring.stage ≡ Refused
  pub stop : ℕ
  pub within : stop < length payloads
  pub stops : RestoreStopsAt payloads stop
  pub place : IsPlace (take stop payloads) restoring.index restoring.at

-- it stands for having taken exactly these payloads
abbrev pub HasTaken : Restoring → List (List ℕ) → Type 0
HasTaken restoring payloads = HasGoneOn restoring payloads ⊎ HasStopped restoring payloads

-- Reading these payloads stops at this one, whose record begins there; or after the last, if a debt is missing.
pub record StopsWith (payloads : List (List ℕ)) (refused : RefusedPayload) : Type 0 where
  pub index : ℕ
  pub stops : RestoreStopsAt payloads index
  pub within : index ≤ length payloads
  pub index_is : refused.index ≡ min index (2 ^ 64 - 1)
  pub at_is : refused.at ≡ min (records_length (take index payloads)) (2 ^ 64 - 1)
