-- Laws of words: a text has one first word, and a line has one list of words.
use Rattle.std.specs.Prelude.{◌≡◌, ◌<◌, ◌≤◌, ◌+◌, ℕ, Bool, true, false, not, cond, List, [], ◌∷◌, ◌++◌, length, take}
use Rattle.std.specs.Prelude.{drop, refl}
use Rattle.std.specs.List.{list_all, prefix_len}
use Rattle.std.proofs.Common.{zero, suc, sym, inl, inr, ◌∙◌, ap, subst, arith, one-add, length-append, append-nil}
use Rattle.std.proofs.lemmas.Bool.{cases_lt, and_parts, and_from, not_from_true}
use Rattle.std.proofs.lemmas.List.{append_assoc, take-append-drop, take_at, drop_at, length-drop, drop_all, take_all}
use Rattle.funnel.specs.Words.{is_blank, IsGap, IsWord, EndsWord, IsFirstWord, HasWords}

-- neither space nor tab
abbrev pub is_solid : ℕ → Bool
is_solid octet = not (is_blank octet)

-- the first octet, if there is one, fails
abbrev pub Stops : (ℕ → Bool) → List ℕ → Type 0
Stops p [] = Unit {0}
Stops p (octet ∷ rest) = p octet ≡ false

-- the longest passing prefix of a list that goes on with something that stops it
blank_prefix_len : (p : ℕ → Bool) (xs ys : List ℕ) → list_all p xs ≡ true → Stops p ys → prefix_len p (xs ++ ys)
    ≡ length xs
blank_prefix_len p [] [] h s = refl
blank_prefix_len p [] (y ∷ ys) h s = rw s refl
blank_prefix_len p (x ∷ xs) ys h s =
    let both = and_parts (p x) (list_all p xs) h in
    rw (both.0, blank_prefix_len p xs ys both.1 s, one-add) refl

prefix_passes_step : (p : ℕ → Bool) (x : ℕ) (xs : List ℕ) (b : Bool) → p x ≡ b → list_all p (take (prefix_len p xs) xs) ≡ true
    → list_all p (take (cond b (1 + prefix_len p xs) 0) (x ∷ xs)) ≡ true
prefix_passes_step p x xs true e h = rw one-add (and_from (p x) (list_all p (take (prefix_len p xs) xs)) e h)
prefix_passes_step p x xs false e h = refl

pub prefix_passes : (p : ℕ → Bool) (xs : List ℕ) → list_all p (take (prefix_len p xs) xs) ≡ true
prefix_passes p [] = refl
prefix_passes p (x ∷ xs) = prefix_passes_step p x xs (p x) refl (prefix_passes p xs)

prefix_stops_step : (p : ℕ → Bool) (x : ℕ) (xs : List ℕ) (b : Bool) → p x ≡ b → Stops p (drop (prefix_len p xs) xs)
    → Stops p (drop (cond b (1 + prefix_len p xs) 0) (x ∷ xs))
prefix_stops_step p x xs true e h = rw one-add h
prefix_stops_step p x xs false e h = e

pub prefix_stops : (p : ℕ → Bool) (xs : List ℕ) → Stops p (drop (prefix_len p xs) xs)
prefix_stops p [] = tt
prefix_stops p (x ∷ xs) = prefix_stops_step p x xs (p x) refl (prefix_stops p xs)

-- what follows the blanks at the beginning
abbrev pub behind_gap : List ℕ → List ℕ
behind_gap text = drop (prefix_len is_blank text) text

pub solid_stops : (rest : List ℕ) → EndsWord rest → Stops is_solid rest
solid_stops [] e = tt
solid_stops (octet ∷ rest) e = not_from_true (is_blank octet) e

true_from_not : (b : Bool) → not b ≡ false → b ≡ true
true_from_not true e = refl
true_from_not false e = cc

false_from_not : (b : Bool) → not b ≡ true → b ≡ false
false_from_not true e = cc
false_from_not false e = refl

pub ends_word : (rest : List ℕ) → Stops is_solid rest → EndsWord rest
ends_word [] e = tt
ends_word (octet ∷ rest) e = true_from_not (is_blank octet) e

-- a word followed by anything starts with no blank
word_stops_gap : (word rest : List ℕ) → IsWord word → Stops is_blank (word ++ rest)
word_stops_gap [] rest w = absurd (omega (arith, w.some))
word_stops_gap (octet ∷ word) rest w = false_from_not (is_blank octet) (and_parts (not (is_blank octet)) (list_all is_solid word) w.solid).0

-- the gap, the word and the rest are found by their lengths
gap_is : (text word rest : List ℕ) (f : IsFirstWord text word rest) → behind_gap text ≡ word ++ rest
gap_is text word rest f =
    let whole : text ≡ f.gap ++ (word ++ rest) = f.parts ∙ append_assoc f.gap word rest in
    let len : prefix_len is_blank (f.gap ++ (word ++ rest)) ≡ length f.gap =
    blank_prefix_len is_blank f.gap (word ++ rest) f.blank (word_stops_gap word rest f.whole)
    in
    rw (whole, len) (drop_at f.gap (word ++ rest) (length f.gap) refl)

word_is : (text word rest : List ℕ) (f : IsFirstWord text word rest)
    → (take (prefix_len is_solid (behind_gap text)) (behind_gap text) ≡ word) × (drop (prefix_len is_solid (behind_gap text)) (behind_gap text) ≡ rest)
word_is text word rest f =
    let len : prefix_len is_solid (word ++ rest) ≡ length word =
    blank_prefix_len is_solid word rest f.whole.solid (solid_stops rest f.ends)
    in
    rw (gap_is text word rest f, len) (take_at word rest (length word) refl, drop_at word rest (length word) refl)

-- a text has one first word
pub first_word_once : (text word rest word' rest' : List ℕ) → IsFirstWord text word rest → IsFirstWord text word' rest'
    → (word ≡ word') × (rest ≡ rest')
first_word_once text word rest word' rest' f g =
    let a = word_is text word rest f in
    let b = word_is text word' rest' g in
    (sym a.0 ∙ b.0, sym a.1 ∙ b.1)

-- a text with nothing after its first blanks is a gap
pub gap_alone : (text : List ℕ) → length (behind_gap text) ≡ 0 → IsGap text
gap_alone text none =
    let n = prefix_len is_blank text in
    let short : length text ≤ prefix_len is_blank text = omega (arith, none, length-drop (prefix_len is_blank text) text) in
    subst (λ t. IsGap t) (take_all (prefix_len is_blank text) text short) (prefix_passes is_blank text)

some_solid : (text : List ℕ) → 0 < length text → Stops is_blank text → 0 < length (take (prefix_len is_solid text) text)
some_solid [] some stops = absurd (omega (arith, some))
some_solid (octet ∷ text) some stops = rw (stops, one-add) (omega arith)

-- a text with more than blanks has a first word
pub first_word_of : (text : List ℕ) → 0 < length (behind_gap text)
    → IsFirstWord text (take (prefix_len is_solid (behind_gap text)) (behind_gap text)) (drop (prefix_len is_solid (behind_gap text)) (behind_gap text))
first_word_of text some =
    let n : ℕ = prefix_len is_blank text in
    let m : ℕ = prefix_len is_solid (behind_gap text) in
    record {
      gap = take n text;
      parts = sym (append_assoc (take n text) (take m (behind_gap text)) (drop m (behind_gap text)) ∙ ap (λ t. take n text ++ t) (take-append-drop m (behind_gap text)) ∙ take-append-drop n text);
      blank = prefix_passes is_blank text;
      whole = record { some = some_solid (behind_gap text) some (prefix_stops is_blank text); solid = prefix_passes is_solid (behind_gap text) };
      ends = ends_word (drop m (behind_gap text)) (prefix_stops is_solid (behind_gap text));
    }

-- a text of blanks alone has no first word
pub gap_no_word : (text word rest : List ℕ) → IsGap text → IsFirstWord text word rest → ⊥
gap_no_word text word rest blank f =
    let passes : prefix_len is_blank (text ++ []) ≡ length text = blank_prefix_len is_blank text [] blank tt in
    let len : prefix_len is_blank text ≡ length text = subst (λ t. prefix_len is_blank t ≡ length text) (append-nil text) passes in
    let none : behind_gap text ≡ [] = drop_all (prefix_len is_blank text) text (omega (arith, len)) in
    let some : word ++ rest ≡ [] = sym (gap_is text word rest f) ∙ none in
    absurd (omega (arith, ap length some, length-append word rest, f.whole.some))

-- the words of a line: the first, then the others
pub words_from_first : (text word rest : List ℕ) (words : List (List ℕ)) → IsFirstWord text word rest → HasWords rest words → HasWords text (word ∷ words)
words_from_first text word rest words f h = (f.gap, rest, f.parts, f.blank, f.whole, f.ends, h)

first_from_words : (text word : List ℕ) (words : List (List ℕ)) → HasWords text (word ∷ words) → (rest : List ℕ) × IsFirstWord text word rest × HasWords rest words
first_from_words text word words (gap, rest, parts, blank, whole, ends, h) =
    (rest, record { gap = gap; parts = parts; blank = blank; whole = whole; ends = ends }, h)

-- a line has one list of words
pub words_once : (line : List ℕ) (words words' : List (List ℕ)) → HasWords line words → HasWords line words' → words ≡ words'
words_once line [] [] h k = refl
words_once line [] (word' ∷ words') h k = absurd (gap_no_word line word' _ h (first_from_words line word' words' k).1)
words_once line (word ∷ words) [] h k = absurd (gap_no_word line word _ k (first_from_words line word words h).1)
words_once line (word ∷ words) (word' ∷ words') h k =
    let a = first_from_words line word words h in
    let b = first_from_words line word' words' k in
    let same = first_word_once line word a.0 word' b.0 a.1 b.1 in
    let others : words ≡ words' = words_once b.0 words words' (subst (λ rest. HasWords rest words) same.1 a.2) b.2 in
    let first : word ≡ word' = same.0 in
    cc

-- what follows a word is shorter
pub rest_shorter : (text word rest : List ℕ) → IsFirstWord text word rest → length rest < length text
rest_shorter text word rest f =
    omega (arith, f.whole.some, ap length f.parts, length-append (f.gap ++ word) rest, length-append f.gap word)

has_words_below : (n : ℕ) (text : List ℕ) → length text < n → (words : List (List ℕ)) × HasWords text words
has_words_below zero text below = absurd (omega (arith, below))
has_words_below (suc n) text below =
    elim (cases_lt 0 (length (behind_gap text))) [
      | inl some ↦ (
          let first = first_word_of text some in
          let shorter = rest_shorter text _ _ first in
          let others = has_words_below n _ (omega (arith, shorter, below)) in
          (_ ∷ others.0, words_from_first text _ _ others.0 first others.1)
          )
      | inr none ↦ ([], gap_alone text (omega (arith, none)))
    ]

-- each line has a list of words
pub has_words : (line : List ℕ) → (words : List (List ℕ)) × HasWords line words
has_words line = has_words_below (suc (length line)) line (omega arith)
