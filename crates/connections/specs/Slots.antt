-- What happened at the slot of a connection, and when it is tried again (profile).
use Rattle.std.specs.Prelude.{◌≡◌, ◌+◌, ◌-◌, ◌^◌, ◌&&◌, ℕ, Bool, true, false, not, min, nat_le, nat_lt}
use Rattle.std.specs.Prelude.{if◌then◌else◌, List, [], ◌∷◌}
use Rattle.deferral.specs.Wait.{wait_after}
use Rattle.deferral.specs.Failed.{Failed, first_wait_of, most_wait_of}
use Rattle.connections.specs.declared.slot.Slot.{Slot}
use Rattle.connections.specs.declared.slot.Standing.{Standing}
use Rattle.connections.specs.declared.slot.Standing.TheVariants.{Vacant, Taken, Waiting}

-- what happens at a slot
pub data Event : Type 0 where
  -- a connection begins to be made
  Tried : Event
  -- the peer agreed to a mode over it
  Agreed : Event
  -- it could not be made to one of the peer's addresses, and the next one is tried at once
  Missed : Event
  -- at this moment no address was left to which it could be made, or it closed, but not as one that was left in good
  -- order
  Lost : (now : ℕ) → Event
  -- it was left in good order
  Left : Event

-- how many tries there were
abbrev pub tries : List Event → ℕ
tries [] = 0
tries (Tried ∷ h) = tries h + 1
tries (Agreed ∷ h) = tries h
tries (Missed ∷ h) = tries h
tries (Lost now ∷ h) = tries h
tries (Left ∷ h) = tries h

-- how often it was lost in a row since the peer agreed to a mode, newest event first
abbrev pub losses : List Event → ℕ
losses [] = 0
losses (Tried ∷ h) = losses h
losses (Agreed ∷ h) = 0
losses (Missed ∷ h) = losses h
losses (Lost now ∷ h) = losses h + 1
losses (Left ∷ h) = losses h

-- to how many addresses in a row it could not be made, since it was lost or left, or the peer agreed to a mode
abbrev pub misses : List Event → ℕ
misses [] = 0
misses (Tried ∷ h) = misses h
misses (Agreed ∷ h) = 0
misses (Missed ∷ h) = misses h + 1
misses (Lost now ∷ h) = 0
misses (Left ∷ h) = 0

-- it could not be connected to one of the peer's addresses: it is lost once that was so for all of them in a row
abbrev pub unmade : (now addresses : ℕ) → List Event → List Event
unmade now addresses h = (if nat_lt (misses h + 1) addresses then Missed else Lost now) ∷ h

-- what it has: after each loss in a row it waits for twice as long as before, from the first wait to the most
abbrev pub standing : (first most : ℕ) → List Event → Standing
standing first most [] = Vacant
standing first most (Tried ∷ h) = Taken
standing first most (Agreed ∷ h) = standing first most h
standing first most (Missed ∷ h) = Vacant
standing first most (Lost now ∷ h) = Waiting (min (now + wait_after first most (losses h + 1)) (2 ^ 64 - 1))
standing first most (Left ∷ h) = Vacant

-- whether one that has this is to be given a connection: one that waits only before the last phase
abbrev pub is_due : Standing → (now : ℕ) → (last_phase : Bool) → Bool
is_due Vacant now last_phase = true
is_due Taken now last_phase = false
is_due (Waiting until) now last_phase = not last_phase && nat_le until now

-- whether it waits
abbrev pub is_waiting : Standing → Bool
is_waiting Vacant = false
is_waiting Taken = false
is_waiting (Waiting until) = true

-- for how many seconds it still waits
abbrev pub wait_left : Standing → (now : ℕ) → ℕ
wait_left Vacant now = 0
wait_left Taken now = 0
wait_left (Waiting until) now = until - now

-- what a slot of these waits has after these events
abbrev pub stands_at : Slot → List Event → Standing
stands_at slot h = standing (first_wait_of slot.backoff) (most_wait_of slot.backoff) h

-- the slot stands for these events
abbrev pub StandsFor : Slot → List Event → Type 0
StandsFor slot h = (slot.standing ≡ stands_at slot h) × (slot.tries ≡ min (tries h) (2 ^ 64 - 1))
    × (slot.missed ≡ misses h) × Failed slot.backoff (losses h)

-- the two have the same target and the same waits
abbrev pub IsSameSlot : Slot → Slot → Type 0
IsSameSlot old new = (new.target ≡ old.target) × (first_wait_of new.backoff ≡ first_wait_of old.backoff)
    × (most_wait_of new.backoff ≡ most_wait_of old.backoff)
