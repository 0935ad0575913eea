-- The segments of a directory as the numbers of their first lines (profile).
use Rattle.std.specs.Prelude.{◌≡◌, ◌↔◌, ◌⊎◌, ℕ, ◌+◌, ◌<◌, ◌≤◌, ◌^◌, List, Contains, All}
use Rattle.std.specs.List.Sorted.{IsStrictlyIncreasing}
use Rattle.segments.specs.declared.place.SegmentPlace.{SegmentPlace}

-- each is the number of a line: from 1 to the greatest of 64 bits
abbrev pub AreLines : List ℕ → Type 0
AreLines firsts = All (λ first. (1 ≤ first) × (first < 2 ^ 64)) firsts

-- they rise, and each is the number of a line
pub record AreFirsts (firsts : List ℕ) : Type 0 where
  pub rising : IsStrictlyIncreasing firsts
  pub within : AreLines firsts

-- new has this one and those of old
abbrev pub JoinsOne : List ℕ → ℕ → List ℕ → Type 0
JoinsOne old first new = (other : ℕ) → Contains new other ↔ ((other ≡ first) ⊎ Contains old other)

-- the last segment that begins at or below the line after the mark, and how many lines lie between
pub record IsPlaceOf (firsts : List ℕ) (mark : ℕ) (place : SegmentPlace) : Type 0 where
  pub there : Contains firsts place.first
  pub last : (other : ℕ) → Contains firsts other → place.first < other → mark + 1 < other
  pub skipped : place.first + place.skipped ≡ mark + 1

-- the least one above this number
pub record IsNext (firsts : List ℕ) (first next : ℕ) : Type 0 where
  pub there : Contains firsts next
  pub above : first < next
  pub least : (other : ℕ) → Contains firsts other → first < other → next ≤ other

-- one that begins below this line
abbrev pub IsBefore : List ℕ → ℕ → ℕ → Type 0
IsBefore firsts first other = Contains firsts other × (other < first)

-- All lines of the segment that begins with this one are at or below the mark, if these are all: one of them begins
-- above it, and no later than the line after the mark.
abbrev pub IsDone : List ℕ → ℕ → ℕ → Type 0
IsDone firsts mark first = (later : ℕ) × Contains firsts later × (first < later) × (later ≤ mark + 1)

-- one that begins between two lines, and is none of those that are known
pub record IsUnknown (firsts known : List ℕ) (above below first : ℕ) : Type 0 where
  pub there : Contains firsts first
  pub over : above < first
  pub under : first < below
  pub new : Contains known first → ⊥
