-- The search for the first LF of the octets that a reader holds.
use Rattle.std.specs.Prelude.{◌≡◌, ◌≢◌, ◌<◌, ◌≤◌, ℕ, List, ◌∷◌, ◌++◌, length, slice_index}
use Rattle.funnel.specs.Stream.{IsUnended}

-- the octets are unread from `first` on, and there is no LF before `searched`
pub record IsSearched (octets : List ℕ) (first searched : ℕ) : Type 0 where
  pub low : first ≤ searched
  pub high : searched ≤ length octets
  pub none : (offset : ℕ) → first ≤ offset → offset < searched → slice_index octets offset ≢ 10

-- the first LF of the octets is at this offset
abbrev pub EndsAt : List ℕ → ℕ → Type 0
EndsAt octets offset = (line rest : List ℕ) × (octets ≡ line ++ 10 ∷ rest) × IsUnended line × (offset ≡ length line)
