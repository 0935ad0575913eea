-- Names of segments that are held while their directory changes (profile).
use Rattle.std.specs.Prelude.{ℕ, ◌<◌, ◌≤◌, ◌⊎◌, List, Contains}

-- A name that was listed and is not among those held lies between two segments that were read: this one, and the one
-- that is open.
pub record IsBetweenRead (held listed : List ℕ) (begun reached segment next : ℕ) : Type 0 where
  pub held_one : Contains held segment
  pub read : begun ≤ segment
  pub listed_one : Contains listed next
  pub over : segment < next
  pub under : next < reached
  pub new : Contains held next → ⊥

-- after a sync the names below a line are durable that were, and those that have a held one after them
abbrev pub IsDurable : List ℕ → ℕ → ℕ → Type 0
IsDurable held before first = (first < before) ⊎ ((last : ℕ) × Contains held last × (first < last))
