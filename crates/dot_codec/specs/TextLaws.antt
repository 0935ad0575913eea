-- A text has one list of lines: octets are cut in only one way into the octets of a line and what ends them.
use Rattle.std.proofs.Common.{◌≡◌, ◌⊎◌, ℕ, ◌<◌, true, List, [], ◌∷◌, ◌++◌, length, refl, sym, ◌∙◌, ap, subst, inl}
use Rattle.std.proofs.Common.{inr, arith, length-append}
use Rattle.std.specs.List.{AllByRecursion, list_all}
use Rattle.std.proofs.lemmas.Bool.{and_parts, and_from, both_ways}
use Rattle.std.proofs.lemmas.List.{append-nil}
use Rattle.dot_codec.specs.Lines.{is_line_octet, IsLine, IsFirstLine, HasLines, text_of}
use Rattle.dot_codec.specs.Scan.{EndsRun}

-- no run ends before an octet that a line may have
line_goes_on : (octet : ℕ) (rest tail : List ℕ) → is_line_octet octet ≡ true → EndsRun tail → tail ≡ octet ∷ rest → ⊥
line_goes_on octet rest [] may ends is = cc
line_goes_on octet rest (x ∷ tail) may ends is =
    let same : x ≡ octet = cc in
    both_ways (is_line_octet octet) (ap is_line_octet (sym same) ∙ ends) may

pub cut_once : (a b p q : List ℕ) → IsLine a → IsLine b → EndsRun p → EndsRun q → a ++ p ≡ b ++ q → (a ≡ b) × (p ≡ q)
cut_once [] [] p q line_a line_b ends_p ends_q is = (refl, is)
cut_once [] (y ∷ b) p q line_a line_b ends_p ends_q is = absurd (line_goes_on y (b ++ q) p (and_parts _ _ line_b).0 ends_p is)
cut_once (x ∷ a) [] p q line_a line_b ends_p ends_q is = absurd (line_goes_on x (a ++ p) q (and_parts _ _ line_a).0 ends_q (sym is))
cut_once (x ∷ a) (y ∷ b) p q line_a line_b ends_p ends_q is =
    let head : x ≡ y = cc in
    let tails : a ++ p ≡ b ++ q = cc in
    let more : (a ≡ b) × (p ≡ q) = cut_once a b p q (and_parts (is_line_octet x) (list_all is_line_octet a) line_a).1 (and_parts (is_line_octet y) (list_all is_line_octet b) line_b).1 ends_p ends_q tails in
    (cc (head, more.0), more.1)

pub IsLine-cons : (octet : ℕ) (line : List ℕ) → is_line_octet octet ≡ true → IsLine line → IsLine (octet ∷ line)
IsLine-cons octet line may rest = and_from _ _ may rest

-- what follows a line: nothing, or its end and the rest
abbrev pub EndsLine : List ℕ → List ℕ → Type 0
EndsLine tail rest = ((tail ≡ []) × (rest ≡ [])) ⊎ ((tail ≡ 10 ∷ rest) ⊎ (tail ≡ 13 ∷ 10 ∷ rest))

pub EndsRun-from_line : (tail rest : List ℕ) → EndsLine tail rest → EndsRun tail
EndsRun-from_line tail rest ends = elim ends [
  | inl none ↦ subst EndsRun (sym none.0) tt
  | inr some ↦ elim some [ inl lf ↦ subst EndsRun (sym lf) refl | inr crlf ↦ subst EndsRun (sym crlf) refl ]
]

-- the tail after a first line
pub tail_of : (text line rest : List ℕ) → IsFirstLine text line rest
    → (tail : List ℕ) × (text ≡ line ++ tail) × EndsLine tail rest
tail_of text line rest (is_line, ends) = elim ends [
  | inl none ↦ ([], none.0 ∙ sym (append-nil line), inl (refl, none.1))
  | inr some ↦ elim some [ inl lf ↦ (10 ∷ rest, lf, inr (inl refl)) | inr crlf ↦ (13 ∷ 10 ∷ rest, crlf, inr (inr refl)) ]
]

rest_once : (tail p q : List ℕ) → EndsLine tail p → EndsLine tail q → p ≡ q
rest_once tail p q a b = elim a [
  | inl none ↦ elim b [ inl none' ↦ none.1 ∙ sym none'.1 | inr some' ↦ elim some' [ inl lf' ↦ cc none.0 | inr crlf' ↦ cc none.0 ] ]
  | inr some ↦ elim b [
    | inl none' ↦ elim some [ inl lf ↦ cc none'.0 | inr crlf ↦ cc none'.0 ]
    | inr some' ↦ elim some [
      | inl lf ↦ elim some' [ inl lf' ↦ cc | inr crlf' ↦ cc ]
      | inr crlf ↦ elim some' [ inl lf' ↦ cc | inr crlf' ↦ cc ]
    ]
  ]
]

-- a text has one first line
pub first_once : (text a b p q : List ℕ) → IsFirstLine text a p → IsFirstLine text b q → (a ≡ b) × (p ≡ q)
first_once text a b p q first_a first_b =
    let tail_a = tail_of text a p first_a in
    let tail_b = tail_of text b q first_b in
    let cut = cut_once a b tail_a.0 tail_b.0 first_a.0 first_b.0 (EndsRun-from_line tail_a.0 p tail_a.2) (EndsRun-from_line tail_b.0 q tail_b.2) (sym tail_a.1 ∙ tail_b.1) in
    (cut.0, rest_once tail_b.0 p q (subst (λ (t : List ℕ). EndsLine t p) cut.1 tail_a.2) tail_b.2)

-- a line takes at least one octet
pub rest_shorter : (text line rest : List ℕ) → IsFirstLine text line rest → length rest < length text
rest_shorter text line rest (is_line, ends) = elim ends [
  | inl none ↦ omega (arith, ap length none.0, ap length none.1)
  | inr some ↦ elim some [
    | inl lf ↦ omega (arith, ap length lf, length-append line (10 ∷ rest))
    | inr crlf ↦ omega (arith, ap length crlf, length-append line (13 ∷ 10 ∷ rest))
  ]
]

-- the empty text has no first line
pub first_some : (line rest : List ℕ) → IsFirstLine [] line rest → ⊥
first_some line rest first = absurd (omega (arith, rest_shorter [] line rest first))

pub none_of_nothing : (lines : List (List ℕ)) → HasLines [] lines → lines ≡ []
none_of_nothing [] has = refl
none_of_nothing (line ∷ lines) (rest, first, has) = absurd (first_some line rest first)

pub lines_once : (text : List ℕ) (a b : List (List ℕ)) → HasLines text a → HasLines text b → a ≡ b
lines_once text [] b has_a has_b = sym (none_of_nothing b (subst (λ (t : List ℕ). HasLines t b) has_a has_b))
lines_once text (line ∷ a) [] has_a has_b = none_of_nothing (line ∷ a) (subst (λ (t : List ℕ). HasLines t (line ∷ a)) has_b has_a)
lines_once text (line ∷ a) (other ∷ b) (p, first_a, has_a) (q, first_b, has_b) =
    let same = first_once text line other p q first_a first_b in
    let rests = lines_once q a b (subst (λ (t : List ℕ). HasLines t a) same.1 has_a) has_b in
    cc (same.0, rests)

-- the other lines follow a first line
pub lines_behind : (text line rest : List ℕ) (lines : List (List ℕ)) → IsFirstLine text line rest
    → HasLines text lines → (more : List (List ℕ)) × (lines ≡ line ∷ more) × HasLines rest more
lines_behind text line rest [] first has = absurd (first_some line rest (subst (λ (t : List ℕ). IsFirstLine t line rest) has first))
lines_behind text line rest (other ∷ more) first (q, first', has) =
    let same = first_once text line other rest q first first' in
    (more, cc (same.0), subst (λ (t : List ℕ). HasLines t more) (sym same.1) has)

pub lines_each : (text : List ℕ) (lines : List (List ℕ)) → HasLines text lines → AllByRecursion IsLine lines
lines_each text [] has = tt
lines_each text (line ∷ lines) (rest, first, has) = (first.0, lines_each rest lines has)

pub lines_of_text : (lines : List (List ℕ)) → AllByRecursion IsLine lines → HasLines (text_of lines) lines
lines_of_text [] all = refl
lines_of_text (line ∷ lines) (is_line, all) = (text_of lines, (is_line, inr (inl refl)), lines_of_text lines all)
