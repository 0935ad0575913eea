-- What becomes of a file of lines to which lines are added.
use Rattle.std.specs.Prelude.{◌≡◌, ◌==◌, ◌&&◌, ◌++◌, ◌-◌, ℕ, Bool, not, List, [], ◌∷◌, length, take, nat_lt}
use Rattle.std.specs.Prelude.{if◌then◌else◌, slice_index}

-- whether there are octets and the last one is no LF
abbrev pub ends_open : List ℕ → Bool
ends_open octets = nat_lt 0 (length octets) && not (slice_index octets (length octets - 1) == 10)

-- the same octets, with an LF after a last line that has none
abbrev pub ended : List ℕ → List ℕ
ended octets = if ends_open octets then octets ++ 10 ∷ [] else octets

-- these octets begin with those
abbrev pub BeginsWith : List ℕ → List ℕ → Type 0
BeginsWith kept octets = take (length kept) octets ≡ kept
