-- A line has the lexemes that the walk over it gives.
use Rattle.std.proofs.Common.{◌≡◌, ◌==◌, ◌||◌, ℕ, Bool, true, false, List, [], ◌∷◌, ◌++◌, refl, ap, ◌∙◌, subst, sym}
use Rattle.std.proofs.Common.{append_assoc, arith, inl, inr}
use Rattle.std.specs.List.{list_all}
use Rattle.std.proofs.lemmas.Bool.{and_parts, and_from, or_from, not_from_false, cases_Bool, eqb-true}
use Rattle.feed_conf.specs.Lexemes.{Lexeme, is_blank, is_mark, is_word_octet, is_quoted_octet, IsWord, HasNoQuote}
use Rattle.feed_conf.specs.Lexemes.{HasLexemes}
use Rattle.feed_conf.specs.Scan.{Between, InWord, InQuote, scan, scan_first, lexemes_of}

has-blank : (octet : ℕ) (line : List ℕ) (lexemes : List Lexeme) → is_blank octet ≡ true → HasLexemes line lexemes
    → HasLexemes (octet ∷ line) lexemes
has-blank octet line [] blank h =
    (octet ∷ h.0, h.1, ap (λ z. octet ∷ z) h.2, and_from (is_blank octet) (list_all is_blank h.0) blank h.3, h.4)
has-blank octet line (lexeme ∷ lexemes) blank h =
    (octet ∷ h.0, h.1, h.2, ap (λ z. octet ∷ z) h.3, and_from (is_blank octet) (list_all is_blank h.0) blank h.4, h.5, h.6)

-- what the walk gives from each index on
record Walks (line : List ℕ) : Type 0 where
  between : HasLexemes line (scan line Between)
  in_word : (word : List ℕ) → IsWord word → HasLexemes (word ++ line) (scan line (InWord word))
  in_quote : (octets : List ℕ) → HasNoQuote octets → HasLexemes (34 ∷ (octets ++ line)) (scan line (InQuote octets))

all-push : (test : ℕ → Bool) (octets : List ℕ) (octet : ℕ) → list_all test octets ≡ true → test octet ≡ true
    → list_all test (octets ++ octet ∷ []) ≡ true
all-push test [] octet h k = and_from (test octet) true k refl
all-push test (first ∷ octets) octet h k =
    let parts = and_parts (test first) (list_all test octets) h in
    and_from (test first) (list_all test (octets ++ octet ∷ [])) parts.0 (all-push test octets octet parts.1 k)

word-push : (word : List ℕ) (octet : ℕ) → IsWord word → is_word_octet octet ≡ true → IsWord (word ++ octet ∷ [])
word-push [] octet h k = absurd (omega (arith, h.some))
word-push (first ∷ word) octet h k = record { some = omega arith; solid = all-push is_word_octet (first ∷ word) octet h.solid k }

-- an octet that is no blank and none of the four marks
at-word : (octet : ℕ) (line : List ℕ) → Walks line → is_blank octet ≡ false → (octet == 35) ≡ false
    → (octet == 34) ≡ false → (octet == 123) ≡ false → (octet == 125) ≡ false
    → HasLexemes (octet ∷ line) (scan line (InWord (octet ∷ [])))
at-word octet line w b0 b35 b34 b123 b125 =
    let mark = or_from (octet == 34 || octet == 35 || octet == 123) (octet == 125) (or_from (octet == 34 || octet == 35) (octet == 123) (or_from (octet == 34) (octet == 35) b34 b35) b123) b125 in
    let plain : is_word_octet octet ≡ true = not_from_false (is_blank octet || is_mark octet) (or_from (is_blank octet) (is_mark octet) b0 mark) in
    w.in_word (octet ∷ []) (record { some = omega arith; solid = and_from (is_word_octet octet) true plain refl })

at-first : (octet : ℕ) (line : List ℕ) → Walks line → HasLexemes (octet ∷ line) (scan_first octet (scan line))
at-first octet line w =
    elim (cases_Bool (is_blank octet)) [
      | inl b0 ↦ rw b0 (has-blank octet line (scan line Between) b0 w.between)
      | inr b0 ↦ elim (cases_Bool (octet == 35)) [
        | inl b35 ↦ rw (b0, b35) ([], octet ∷ line, refl, refl, eqb-true octet 35 b35)
        | inr b35 ↦ elim (cases_Bool (octet == 34)) [
          | inl b34 ↦ rw (b0, b35, b34) (subst (λ z. HasLexemes (z ∷ line) (scan line (InQuote []))) (sym (eqb-true octet 34 b34)) (w.in_quote [] refl))
          | inr b34 ↦ elim (cases_Bool (octet == 123)) [
            | inl b123 ↦ rw (b0, b35, b34, b123) ([], octet ∷ [], line, refl, refl, ap (λ z. z ∷ []) (eqb-true octet 123 b123), w.between)
            | inr b123 ↦ elim (cases_Bool (octet == 125)) [
              | inl b125 ↦ rw (b0, b35, b34, b123, b125) ([], octet ∷ [], line, refl, refl, ap (λ z. z ∷ []) (eqb-true octet 125 b125), w.between)
              | inr b125 ↦ rw (b0, b35, b34, b123, b125) (at-word octet line w b0 b35 b34 b123 b125)
            ]
          ]
        ]
      ]
    ]

in-word : (octet : ℕ) (line : List ℕ) → Walks line → (word : List ℕ) → IsWord word
    → HasLexemes (word ++ octet ∷ line) (scan (octet ∷ line) (InWord word))
in-word octet line w word h =
    elim (cases_Bool (is_word_octet octet)) [
      | inl e ↦ rw e (subst (λ z. HasLexemes z (scan line (InWord (word ++ octet ∷ [])))) (append_assoc word (octet ∷ []) line) (w.in_word (word ++ octet ∷ []) (word-push word octet h e)))
      | inr e ↦ rw e ([], word, octet ∷ line, refl, refl, (refl, h, e), at-first octet line w)
    ]

in-quote : (octet : ℕ) (line : List ℕ) → Walks line → (octets : List ℕ) → HasNoQuote octets
    → HasLexemes (34 ∷ (octets ++ octet ∷ line)) (scan (octet ∷ line) (InQuote octets))
in-quote octet line w octets h =
    elim (cases_Bool (octet == 34)) [
      | inl e ↦ rw e ([], 34 ∷ (octets ++ 34 ∷ []), line, ap (λ z. 34 ∷ z) (ap (λ z. octets ++ z ∷ line) (eqb-true octet 34 e) ∙ sym (append_assoc octets (34 ∷ []) line)), refl, (refl, h), w.between)
      | inr e ↦ rw e (subst (λ z. HasLexemes (34 ∷ z) (scan line (InQuote (octets ++ octet ∷ [])))) (append_assoc octets (octet ∷ []) line) (w.in_quote (octets ++ octet ∷ []) (all-push is_quoted_octet octets octet h (not_from_false (octet == 34) e))))
    ]

walks : (line : List ℕ) → Walks line
walks [] = record {
  between = ([], [], refl, refl, tt);
  in_word = λ word h. ([], word, [], refl, refl, (refl, h, tt), ([], [], refl, refl, tt));
  in_quote = λ octets h. ([], 34 ∷ octets, [], refl, refl, (octets, refl, h, refl), ([], [], refl, refl, tt));
}
walks (octet ∷ line) =
    let w = walks line in
    record { between = at-first octet line w; in_word = in-word octet line w; in_quote = in-quote octet line w }

-- a line has the lexemes of the walk
pub has-lexemes : (line : List ℕ) → HasLexemes line (lexemes_of line)
has-lexemes line = (walks line).between
