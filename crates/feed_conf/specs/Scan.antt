-- The lexemes of a line by one walk over its octets. The laws show that these are the lexemes of `HasLexemes`.
use Rattle.std.specs.Prelude.{◌≡◌, ◌==◌, ℕ, Bool, true, false, List, [], ◌∷◌, ◌++◌, if◌then◌else◌}
use Rattle.feed_conf.specs.Lexemes.{Lexeme, Word, Quoted, Open, Close, Unclosed, is_blank, is_word_octet}

-- the state of the walk: between lexemes, or within a word or a quote whose octets so far are these
pub data Walk : Type 0 where
  Between : Walk
  InWord : List ℕ → Walk
  InQuote : List ℕ → Walk

-- the lexemes from an octet that stands between lexemes
abbrev pub scan_first : ℕ → (Walk → List Lexeme) → List Lexeme
scan_first octet next =
    if is_blank octet then next Between else (
    if octet == 35 then [] else (
    if octet == 34 then next (InQuote []) else (
    if octet == 123 then Open ∷ next Between else (
    if octet == 125 then Close ∷ next Between else
    next (InWord (octet ∷ []))))))

abbrev pub scan : List ℕ → Walk → List Lexeme
scan [] Between = []
scan [] (InWord word) = Word word ∷ []
scan [] (InQuote octets) = Unclosed ∷ []
scan (octet ∷ rest) Between = scan_first octet (scan rest)
scan (octet ∷ rest) (InWord word) =
    if is_word_octet octet then scan rest (InWord (word ++ octet ∷ [])) else Word word ∷ scan_first octet (scan rest)
scan (octet ∷ rest) (InQuote octets) =
    if octet == 34 then Quoted octets ∷ scan rest Between else scan rest (InQuote (octets ++ octet ∷ []))

-- the lexemes of a line
abbrev pub lexemes_of : List ℕ → List Lexeme
lexemes_of line = scan line Between

-- nothing, or octets of which the first fails the test
abbrev pub StopsAt : (ℕ → Bool) → List ℕ → Type 0
StopsAt test [] = Unit {0}
StopsAt test (octet ∷ rest) = test octet ≡ false

-- octets of which the first may be in a word
abbrev pub BeginsWord : List ℕ → Type 0
BeginsWord [] = ⊥
BeginsWord (octet ∷ rest) = is_word_octet octet ≡ true
