-- Whose articles a list has that is restricted to names.
use Rattle.std.specs.Prelude.{◌≡◌, ◌⊎◌, ℕ, List, length}
use Rattle.std.specs.Borrow.{Bor}
use Rattle.std.specs.List.{Any}
use Rattle.funnel.specs.Words.{IsFirstWord}
use Rattle.owed_list.specs.declared.lines.Owed.{Owed}
use Rattle.owed_list.specs.declared.lines.Owed.TheVariants.{Kept, Unknown}

-- it is one of these names
abbrev pub IsNamed : (names : List (Bor (List ℕ))) → List ℕ → Type 0
IsNamed names name = Any (λ (one : Bor (List ℕ)). one.now ≡ name) names

-- A list of no names has all.
abbrev pub IsWanted : (names : List (Bor (List ℕ))) → List ℕ → Type 0
IsWanted names name = (length names ≡ 0) ⊎ IsNamed names name

-- the first word of this line is one of these names
abbrev pub BeginsWithOne : (names : List (Bor (List ℕ))) → List ℕ → Type 0
BeginsWithOne names line = (word rest : List ℕ) × IsFirstWord line word rest × IsNamed names word

-- A line of `NAME~kept` waits for NAME; a line of `~unknown` for the name with which it begins.
abbrev pub MayList : (names : List (Bor (List ℕ))) → Owed → List ℕ → Type 0
MayList names (Kept peer) line = Unit {0}
MayList names Unknown line = (length names ≡ 0) ⊎ BeginsWithOne names line
