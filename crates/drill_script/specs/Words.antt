-- The words of a script's line, with one space between them (profile).
use Rattle.std.specs.Prelude.{◌≡◌, ◌≢◌, ℕ, List, ◌∷◌, ◌++◌, Option, None, Some}
use Rattle.std.specs.List.{All}

-- there is no space among the octets
abbrev pub IsSolid : List ℕ → Type 0
IsSolid octets = All (λ octet. octet ≢ 32) octets

-- the octets are this word alone, or this word, one space and then this text
abbrev pub IsCut : (octets word : List ℕ) → Option (List ℕ) → Type 0
IsCut octets word None = octets ≡ word
IsCut octets word (Some text) = octets ≡ word ++ 32 ∷ text
