-- When segments may have become removable (profile).
use Rattle.std.specs.Prelude.{◌≡◌, ◌+◌, ◌≤◌, ℕ, Option, Some}

-- all lines before the first one of this segment are acknowledged
abbrev pub IsDue : Option ℕ → ℕ → Type 0
IsDue due mark = (first : ℕ) × (due ≡ Some first) × (first ≤ mark + 1)
