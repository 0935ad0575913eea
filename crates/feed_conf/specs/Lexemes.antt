-- The lexemes of a line of a configuration (profile).
use Rattle.std.specs.Prelude.{◌≡◌, ◌==◌, ◌||◌, ◌<◌, ℕ, Bool, false, not, List, [], ◌∷◌, ◌++◌, length, IsTrue}
use Rattle.std.specs.List.{list_all}

-- The parts of a line, apart from blanks and a comment.
pub data Lexeme : Type 0 where
  -- octets without a blank or a mark between them
  Word : List ℕ → Lexeme
  -- the text between two quotes
  Quoted : List ℕ → Lexeme
  Open : Lexeme
  Close : Lexeme
  -- a quote without a second one on its line
  Unclosed : Lexeme

-- space, tab or CR
abbrev pub is_blank : ℕ → Bool
is_blank octet = octet == 32 || octet == 9 || octet == 13

-- a quote, `#`, `{` or `}`
abbrev pub is_mark : ℕ → Bool
is_mark octet = octet == 34 || octet == 35 || octet == 123 || octet == 125

-- an octet that a word may have
abbrev pub is_word_octet : ℕ → Bool
is_word_octet octet = not (is_blank octet || is_mark octet)

-- nothing, or blanks alone
abbrev pub IsGap : List ℕ → Type 0
IsGap octets = IsTrue (list_all is_blank octets)

-- any octet but a quote
abbrev pub is_quoted_octet : ℕ → Bool
is_quoted_octet octet = not (octet == 34)

abbrev pub HasNoQuote : List ℕ → Type 0
HasNoQuote octets = IsTrue (list_all is_quoted_octet octets)

-- one or more octets that a word may have
pub record IsWord (octets : List ℕ) : Type 0 where
  pub some : 0 < length octets
  pub solid : IsTrue (list_all is_word_octet octets)

-- what may follow a word: nothing, a blank or a mark
abbrev pub EndsWord : List ℕ → Type 0
EndsWord [] = Unit {0}
EndsWord (octet ∷ rest) = is_word_octet octet ≡ false

-- nothing, or a comment
abbrev pub IsEnd : List ℕ → Type 0
IsEnd [] = Unit {0}
IsEnd (octet ∷ rest) = octet ≡ 35

-- these octets spell the lexeme, if this rest of the line follows
abbrev pub IsForm : Lexeme → List ℕ → List ℕ → Type 0
IsForm (Word word) form rest = (form ≡ word) × IsWord word × EndsWord rest
IsForm (Quoted octets) form rest = (form ≡ 34 ∷ (octets ++ 34 ∷ [])) × HasNoQuote octets
IsForm Open form rest = form ≡ 123 ∷ []
IsForm Close form rest = form ≡ 125 ∷ []
IsForm Unclosed form rest = (octets : List ℕ) × (form ≡ 34 ∷ octets) × HasNoQuote octets × (rest ≡ [])

-- the line, without its LF, has these lexemes, in order, and otherwise only blanks and a comment
abbrev pub HasLexemes : List ℕ → List Lexeme → Type 0
HasLexemes line [] = (gap rest : List ℕ) × (line ≡ gap ++ rest) × IsGap gap × IsEnd rest
HasLexemes line (lexeme ∷ lexemes) =
    (gap form rest : List ℕ) × (line ≡ gap ++ (form ++ rest)) × IsGap gap × IsForm lexeme form rest × HasLexemes rest lexemes
