-- How long a gap, a word and a quoted text are, and what the walk over a line gives after them.
use Rattle.std.proofs.Common.{◌≡◌, ◌<◌, ◌==◌, ℕ, Bool, true, false, not, List, [], ◌∷◌, ◌++◌, length, refl, ap, ◌∙◌, sym, append-nil, take, drop, cond, zero, suc, subst, ltb, unwrap_or, Some, None, Option, ◌≤◌, arith}
use Rattle.std.specs.List.{list_all, prefix_len, position}
use Rattle.std.proofs.lemmas.List.Sums.{prefix_len-le-length}
use Rattle.std.proofs.lemmas.Bool.{not-false, and_from, both_ways, ltb-false, eqb-true}
use Rattle.std.proofs.lemmas.List.{take-append-drop}
use Rattle.feed_conf.specs.Lexemes.{Word, Quoted, Unclosed, is_blank, is_word_octet, is_quoted_octet, EndsWord}
use Rattle.feed_conf.specs.Scan.{InQuote, scan, StopsAt, BeginsWord, lexemes_of}
use Rattle.feed_conf.specs.LexemeLaws.{scan-gap, scan-word, scan-in_quote, scan-unclosed}

-- the longest prefix of octets that pass a test, and the rest after it
pub record IsPrefix (test : ℕ → Bool) (octets : List ℕ) (n : ℕ) : Type 0 where
  pub passes : list_all test (take n octets) ≡ true
  pub stops : StopsAt test (drop n octets)

prefix-step : (test : ℕ → Bool) (octet : ℕ) (octets : List ℕ) (b : Bool) → test octet ≡ b → IsPrefix test octets (prefix_len test octets) → IsPrefix test (octet ∷ octets) (prefix_len test (octet ∷ octets))
prefix-step test octet octets true e h =
    let n = prefix_len test octets in
    let next : prefix_len test (octet ∷ octets) ≡ suc n = rw e (omega arith) in
    subst (IsPrefix test (octet ∷ octets)) (sym next) (record { passes = and_from (test octet) (list_all test (take n octets)) e h.passes; stops = h.stops })
prefix-step test octet octets false e h =
    let next : prefix_len test (octet ∷ octets) ≡ 0 = rw e refl in
    subst (IsPrefix test (octet ∷ octets)) (sym next) (record { passes = refl; stops = e })

pub prefix : (test : ℕ → Bool) (octets : List ℕ) → IsPrefix test octets (prefix_len test octets)
prefix test [] = record { passes = refl; stops = tt }
prefix test (octet ∷ octets) = prefix-step test octet octets (test octet) refl (prefix test octets)

-- the index of the first octet that fails, or the length if there is none
twice-step : (test : ℕ → Bool) (octet : ℕ) (octets : List ℕ) (b : Bool) → test octet ≡ b → prefix_len (λ x. not (not (test x))) octets ≡ prefix_len test octets → prefix_len (λ x. not (not (test x))) (octet ∷ octets) ≡ prefix_len test (octet ∷ octets)
twice-step test octet octets true e h = rw (e, h) refl
twice-step test octet octets false e h = rw e refl

twice : (test : ℕ → Bool) (octets : List ℕ) → prefix_len (λ x. not (not (test x))) octets ≡ prefix_len test octets
twice test [] = refl
twice test (octet ∷ octets) = twice-step test octet octets (test octet) refl (twice test octets)

stop-step : (n m : ℕ) (b : Bool) → ltb n m ≡ b → n ≤ m → unwrap_or (cond b (Some n) None) m ≡ n
stop-step n m true e h = refl
stop-step n m false e h = omega (arith, ltb-false n m e)

pub stop : (test : ℕ → Bool) (octets : List ℕ) → unwrap_or (position (λ x. not (test x)) octets) (length octets) ≡ prefix_len test octets
stop test octets =
    let n = prefix_len (λ x. not (not (test x))) octets in
    stop-step n (length octets) (ltb n (length octets)) refl (prefix_len-le-length (λ x. not (not (test x))) octets) ∙ twice test octets

-- a line has the lexemes of its rest from the first octet that is not blank
pub after-blanks : (line : List ℕ) (n : ℕ) → IsPrefix is_blank line n → lexemes_of line ≡ lexemes_of (drop n line)
after-blanks line n f = sym (ap lexemes_of (take-append-drop n line)) ∙ scan-gap (take n line) (drop n line) f.passes

word-stops : (rest : List ℕ) → StopsAt is_word_octet rest → EndsWord rest
word-stops [] h = tt
word-stops (octet ∷ rest) h = h

pub word-some : (line : List ℕ) (n : ℕ) → BeginsWord line → IsPrefix is_word_octet line n → 0 < length (take n line)
word-some [] n begins f = absurd begins
word-some (octet ∷ line) zero begins f = absurd (both_ways (is_word_octet octet) f.stops begins)
word-some (octet ∷ line) (suc n) begins f = omega arith

-- a line that begins with a word
pub after-word : (line : List ℕ) (n : ℕ) → BeginsWord line → IsPrefix is_word_octet line n → lexemes_of line ≡ Word (take n line) ∷ lexemes_of (drop n line)
after-word line n begins f =
    sym (ap lexemes_of (take-append-drop n line)) ∙ scan-word (take n line) (drop n line) (word-some line n begins f) f.passes (word-stops (drop n line) f.stops)

-- a line after a quote, if another quote follows
pub after-quote : (line : List ℕ) (n : ℕ) (octet : ℕ) (rest : List ℕ) → IsPrefix is_quoted_octet line n → drop n line ≡ octet ∷ rest → lexemes_of (34 ∷ line) ≡ Quoted (take n line) ∷ lexemes_of rest
after-quote line n octet rest f e =
    let stops : is_quoted_octet octet ≡ false = subst (StopsAt is_quoted_octet) e f.stops in
    let is : octet ≡ 34 = eqb-true octet 34 (not-false (octet == 34) stops) in
    let whole : line ≡ take n line ++ 34 ∷ rest = sym (take-append-drop n line) ∙ ap (λ z. take n line ++ z) (e ∙ ap (λ o. o ∷ rest) is) in
    ap (λ z. scan z (InQuote [])) whole ∙ scan-in_quote (take n line) rest [] f.passes

-- a line after a quote, if none follows
pub after-open_quote : (line : List ℕ) (n : ℕ) → IsPrefix is_quoted_octet line n → drop n line ≡ [] → lexemes_of (34 ∷ line) ≡ Unclosed ∷ []
after-open_quote line n f e =
    let whole : line ≡ take n line = sym (take-append-drop n line) ∙ ap (λ z. take n line ++ z) e ∙ append-nil (take n line) in
    ap (λ z. scan z (InQuote [])) whole ∙ scan-unclosed (take n line) [] f.passes

pub prefix-found : (test : ℕ → Bool) (octets : List ℕ) (found : Option ℕ) (n : ℕ) → found ≡ position (λ x. not (test x)) octets → n ≡ unwrap_or found (length octets) → IsPrefix test octets n
prefix-found test octets found n e f =
    let is : prefix_len test octets ≡ n = sym (f ∙ ap (λ o. unwrap_or o (length octets)) e ∙ stop test octets) in
    subst (IsPrefix test octets) is (prefix test octets)
