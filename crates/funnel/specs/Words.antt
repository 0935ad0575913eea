-- The words of a line (profile). A word is a longest run of octets other than space and tab.
use Rattle.std.specs.Prelude.{◌≡◌, ◌==◌, ◌||◌, ◌<◌, ℕ, Bool, not, List, [], ◌∷◌, ◌++◌, length, IsTrue}
use Rattle.std.specs.List.{list_all}

-- space or tab
abbrev pub is_blank : ℕ → Bool
is_blank octet = octet == 32 || octet == 9

-- nothing, or only blanks
abbrev pub IsGap : List ℕ → Type 0
IsGap octets = IsTrue (list_all is_blank octets)

-- one octet or more, none of them a blank
pub record IsWord (octets : List ℕ) : Type 0 where
  pub some : 0 < length octets
  pub solid : IsTrue (list_all (λ octet. not (is_blank octet)) octets)

-- what may follow a word: nothing, or a blank first
abbrev pub EndsWord : List ℕ → Type 0
EndsWord [] = Unit {0}
EndsWord (octet ∷ rest) = IsTrue (is_blank octet)

-- The text begins with this word, except for blanks before it, and this rest follows the word.
pub record IsFirstWord (text word rest : List ℕ) : Type 0 where
  pub gap : List ℕ
  pub parts : text ≡ gap ++ word ++ rest
  pub blank : IsGap gap
  pub whole : IsWord word
  pub ends : EndsWord rest

-- the line has these words, in order, and otherwise only blanks
abbrev pub HasWords : List ℕ → List (List ℕ) → Type 0
HasWords line [] = IsGap line
HasWords line (word ∷ words) = (gap rest : List ℕ) × (line ≡ gap ++ word ++ rest) × IsGap gap × IsWord word × EndsWord rest × HasWords rest words
