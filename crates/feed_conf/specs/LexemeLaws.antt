-- The walk over a line gives the lexemes of the line, and no others.
use Rattle.std.proofs.Common.{◌≡◌, ◌<◌, ◌==◌, ◌||◌, ℕ, true, false, List, [], ◌∷◌, ◌++◌, length, refl, ap, ◌∙◌, sym}
use Rattle.std.proofs.Common.{append_assoc, append-nil, arith}
use Rattle.std.specs.List.{list_all}
use Rattle.std.proofs.lemmas.Bool.{not-true, or_parts, and_parts}
use Rattle.feed_conf.specs.Lexemes.{Lexeme, Word, Quoted, Open, Close, Unclosed, is_blank, is_mark, is_word_octet}
use Rattle.feed_conf.specs.Lexemes.{is_quoted_octet, EndsWord, IsEnd, IsForm, HasLexemes}
use Rattle.feed_conf.specs.Scan.{Walk, Between, InWord, InQuote, scan, scan_first, lexemes_of}

-- a blank is skipped
scan_first-blank : (octet : ℕ) (next : Walk → List Lexeme) → is_blank octet ≡ true
    → scan_first octet next ≡ next Between
scan_first-blank octet next blank = rw blank refl

pub scan-gap : (gap rest : List ℕ) → list_all is_blank gap ≡ true → lexemes_of (gap ++ rest) ≡ lexemes_of rest
scan-gap [] rest blank = refl
scan-gap (octet ∷ gap) rest blank =
    let parts = and_parts (is_blank octet) (list_all is_blank gap) blank in
    scan_first-blank octet (scan (gap ++ rest)) parts.0 ∙ scan-gap gap rest parts.1

-- an octet that a word may have is no blank and no mark
record IsPlain (octet : ℕ) : Type 0 where
  blank : is_blank octet ≡ false
  quote : (octet == 34) ≡ false
  comment : (octet == 35) ≡ false
  opening : (octet == 123) ≡ false
  closing : (octet == 125) ≡ false

plain : (octet : ℕ) → is_word_octet octet ≡ true → IsPlain octet
plain octet solid =
    let both = or_parts (is_blank octet) (is_mark octet) (not-true (is_blank octet || is_mark octet) solid) in
    let three = or_parts (octet == 34 || octet == 35 || octet == 123) (octet == 125) both.1 in
    let two = or_parts (octet == 34 || octet == 35) (octet == 123) three.0 in
    let one = or_parts (octet == 34) (octet == 35) two.0 in
    record { blank = both.0; quote = one.0; comment = one.1; opening = two.1; closing = three.1 }

-- an octet that a word may have begins one
scan_first-word : (octet : ℕ) (next : Walk → List Lexeme) → is_word_octet octet ≡ true
    → scan_first octet next ≡ next (InWord (octet ∷ []))
scan_first-word octet next solid =
    let p = plain octet solid in
    rw (p.blank, p.comment, p.quote, p.opening, p.closing) refl

scan-in_word : (word rest met : List ℕ) → list_all is_word_octet word ≡ true → EndsWord rest
    → scan (word ++ rest) (InWord met) ≡ Word (met ++ word) ∷ lexemes_of rest
scan-in_word [] [] met solid ends = rw append-nil refl
scan-in_word [] (octet ∷ rest) met solid ends = rw (ends, append-nil) refl
scan-in_word (octet ∷ word) rest met solid ends =
    let parts = and_parts (is_word_octet octet) (list_all is_word_octet word) solid in
    rw parts.0 (scan-in_word word rest (met ++ octet ∷ []) parts.1 ends ∙ ap (λ w. Word w ∷ lexemes_of rest) (append_assoc met (octet ∷ []) word))

-- a word between lexemes
pub scan-word : (word rest : List ℕ) → 0 < length word → list_all is_word_octet word ≡ true → EndsWord rest
    → lexemes_of (word ++ rest) ≡ Word word ∷ lexemes_of rest
scan-word [] rest some solid ends = absurd (omega arith)
scan-word (octet ∷ word) rest some solid ends =
    let parts = and_parts (is_word_octet octet) (list_all is_word_octet word) solid in
    scan_first-word octet (scan (word ++ rest)) parts.0 ∙ scan-in_word word rest (octet ∷ []) parts.1 ends

pub scan-in_quote : (octets rest met : List ℕ) → list_all is_quoted_octet octets ≡ true
    → scan (octets ++ 34 ∷ rest) (InQuote met) ≡ Quoted (met ++ octets) ∷ lexemes_of rest
scan-in_quote [] rest met none = rw append-nil refl
scan-in_quote (octet ∷ octets) rest met none =
    let parts = and_parts (is_quoted_octet octet) (list_all is_quoted_octet octets) none in
    let other = not-true (octet == 34) parts.0 in
    rw other (scan-in_quote octets rest (met ++ octet ∷ []) parts.1 ∙ ap (λ w. Quoted w ∷ lexemes_of rest) (append_assoc met (octet ∷ []) octets))

pub scan-unclosed : (octets met : List ℕ) → list_all is_quoted_octet octets ≡ true
    → scan octets (InQuote met) ≡ Unclosed ∷ []
scan-unclosed [] met none = refl
scan-unclosed (octet ∷ octets) met none =
    let parts = and_parts (is_quoted_octet octet) (list_all is_quoted_octet octets) none in
    let other = not-true (octet == 34) parts.0 in
    rw other (scan-unclosed octets (met ++ octet ∷ []) parts.1)

form-scan : (lexeme : Lexeme) (form rest : List ℕ) → IsForm lexeme form rest
    → lexemes_of (form ++ rest) ≡ lexeme ∷ lexemes_of rest
form-scan (Word word) form rest h = ap (λ z. lexemes_of (z ++ rest)) h.0 ∙ scan-word word rest h.1.some h.1.solid h.2
form-scan (Quoted octets) form rest h =
    ap (λ z. lexemes_of (z ++ rest)) h.0 ∙ ap (λ z. scan z (InQuote [])) (append_assoc octets (34 ∷ []) rest) ∙ scan-in_quote octets rest [] h.1
form-scan Open form rest h = ap (λ z. lexemes_of (z ++ rest)) h
form-scan Close form rest h = ap (λ z. lexemes_of (z ++ rest)) h
form-scan Unclosed form rest h =
    ap (λ z. lexemes_of (form ++ z)) h.3 ∙ ap lexemes_of (append-nil form) ∙ ap lexemes_of h.1 ∙ scan-unclosed h.0 [] h.2 ∙ sym (ap (λ z. Unclosed ∷ lexemes_of z) h.3)

end-scan : (rest : List ℕ) → IsEnd rest → lexemes_of rest ≡ []
end-scan [] h = refl
end-scan (octet ∷ rest) h = ap (λ z. lexemes_of (z ∷ rest)) h

-- a line has no lexemes but those of the walk
pub lexemes-are : (line : List ℕ) (lexemes : List Lexeme) → HasLexemes line lexemes → lexemes_of line ≡ lexemes
lexemes-are line [] h = ap lexemes_of h.2 ∙ scan-gap h.0 h.1 h.3 ∙ end-scan h.1 h.4
lexemes-are line (lexeme ∷ lexemes) h =
    ap lexemes_of h.3 ∙ scan-gap h.0 (h.1 ++ h.2) h.4 ∙ form-scan lexeme h.1 h.2 h.5 ∙ ap (λ z. lexeme ∷ z) (lexemes-are h.2 lexemes h.6)
