-- Names of peers, in byte order.
use Rattle.std.specs.Prelude.{ℕ, Bool, List}
use Rattle.std.specs.List.{list_any}
use Rattle.std.specs.List.Sorted.{IsNonDecreasingBy}
use Rattle.std.specs.Cmp.Lexicographic.{slice_cmp}
use Rattle.std.specs.Ordering.{nat_cmp, ordering_index}
use Rattle.std.specs.Str.{bytes_eq}

-- whether a name is one of these
abbrev pub is_named : List (List ℕ) → List ℕ → Bool
is_named names name = list_any (λ one. bytes_eq one name) names

-- They are in byte order: along them, the answers of a comparison with any name do not fall.
abbrev pub AreRising : List (List ℕ) → Type 0
AreRising names = (name : List ℕ) → IsNonDecreasingBy (λ one. ordering_index (slice_cmp nat_cmp one name)) names
