-- The line before each article of a batch (RFC 5537, section 4.1).
use Rattle.std.specs.Prelude.{◌≡◌, ◌++◌, ◌∷◌, [], ℕ, List, true}
use Rattle.feed_conf.specs.Values.{decimal, is_number}

-- `#! rnews `
abbrev pub word : List ℕ
word = 35 ∷ 33 ∷ 32 ∷ 114 ∷ 110 ∷ 101 ∷ 119 ∷ 115 ∷ 32 ∷ []

-- The line, without its LF, is the word and then decimal digits that write this length.
pub record IsBatchLine (line : List ℕ) (n : ℕ) : Type 0 where
  pub digits : List ℕ
  pub line_is : line ≡ word ++ digits
  pub form : is_number digits ≡ true
  pub value : decimal 0 digits ≡ n
