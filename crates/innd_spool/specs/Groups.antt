-- The newsgroups that a tradspool.map has (INN's storage/tradspool).
use Rattle.std.specs.Prelude.{◌≡◌, ◌==◌, ℕ, if◌then◌else◌, List, Option, Some, None, fold}
use Rattle.std.specs.BTreeMap.{BTreeMap, get}
use Rattle.std.specs.Option.{option_map}
use Rattle.std.specs.Ordering.{nat_cmp}
use Rattle.std.specs.Global.{Vec}
use Rattle.std.specs.Vec.{vec_items}
use Rattle.funnel.specs.Stream.{Splits}
use Rattle.innd_storage.specs.MapLines.{map_line_of}

-- the directory of a newsgroup after one more line: a line with its number stands in place of an earlier one
abbrev pub with_parts : ℕ → Option (List ℕ) → Option (List ℕ × ℕ) → Option (List ℕ)
with_parts number before None = before
with_parts number before (Some parts) = if parts.1 == number then Some parts.0 else before

-- the directory that the last line of a newsgroup gives it
abbrev pub directory_in : List (List ℕ) → ℕ → Option (List ℕ)
directory_in lines number = fold (λ before line. with_parts number before (map_line_of line)) None lines

-- the directory that a map has for a newsgroup
abbrev pub directory_of : BTreeMap ℕ (Vec ℕ) → ℕ → Option (List ℕ)
directory_of groups number = option_map vec_items (get nat_cmp groups number)

-- the map has, for each newsgroup, what the whole lines of the text say of it
abbrev pub IsMapOf : List ℕ → BTreeMap ℕ (Vec ℕ) → Type 0
IsMapOf text groups =
    (lines : List (List ℕ)) × (rest : List ℕ) × Splits text lines rest
    × ((number : ℕ) → directory_of groups number ≡ directory_in lines number)
