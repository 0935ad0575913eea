-- The first record of a segment (docs/FORMATS.md).
use Rattle.std.specs.Prelude.{ℕ, ◌+◌, ◌==◌, if◌then◌else◌, List, [], ◌∷◌, take}
use Rattle.tape_journal.specs.Segment.{open_gate, told_length}

-- how many octets it has, by its gate and the length in it; if the gate is closed, the gate alone
abbrev pub first_length : List ℕ → ℕ
first_length [] = 0
first_length (gate ∷ rest) = if gate == open_gate then 5 + told_length (gate ∷ rest) else 1

-- its octets, or all octets if it is not whole
abbrev pub first_record_of : List ℕ → List ℕ
first_record_of segment = take (first_length segment) segment
