-- A text has lines exactly if each NUL or CR of it is a CR directly before an LF.
use Rattle.std.proofs.Common.{◌≡◌, ◌↔◌, ℕ, zero, suc, ◌+◌, ◌-◌, Bool, true, false, cond, List, [], ◌∷◌, ◌++◌, length, get_or, drop, refl, sym, ◌∙◌, ap, inl, inr, ⊎_elim, arith, ◌==◌, ◌||◌, ◌&&◌, IsTrue, add-one, drop-cons, lit<}
use Rattle.std.specs.List.{list_all}
use Rattle.std.proofs.lemmas.Bool.{both_ways, eqb-true, cases_Bool, cond-true, cond-false, and_parts, or_cases, or_left, or_right, or_parts, or_from, not_from_true, not_from_false, false_from_ne_true}
use Rattle.std.proofs.lemmas.List.{drop_all, append-nil}
use Rattle.memchr.specs.Find.{is_byte2, places, places_from}
use Rattle.dot_codec.specs.Lines.{is_line_octet, IsLine, HasLines}
use Rattle.dot_codec.specs.Scan.{begins_with_crlf}
use Rattle.dot_codec.specs.TextLaws.{IsLine-cons, lines_behind}

-- each NUL or CR is a CR directly before an LF
abbrev clean : List ℕ → Bool
clean [] = true
clean (octet ∷ rest) = cond (is_byte2 0 13 octet) (begins_with_crlf (octet ∷ rest) && clean rest) (clean rest)

clean_places : (text : List ℕ) (i n : ℕ) → i + n ≡ length text → list_all (λ at. begins_with_crlf (drop at text)) (places_from (is_byte2 0 13) text i n) ≡ clean (drop i text)
unfolding places_from
clean_places text i zero end = ap clean (sym (drop_all i text (omega arith)))
clean_places text i (suc n) end =
    let test = is_byte2 0 13 (get_or text i 0) in
    let good : ℕ → Bool = λ at. begins_with_crlf (drop at text) in
    let later = places_from (is_byte2 0 13) text (i + 1) n in
    let here : drop i text ≡ get_or text i 0 ∷ drop (suc i) text = drop-cons text i 0 (omega arith) in
    let rest : list_all good later ≡ clean (drop (suc i) text) = clean_places text (i + 1) n (omega arith) ∙ ap (λ k. clean (drop k text)) (add-one i) in
    let whole : clean (drop i text) ≡ cond test (begins_with_crlf (get_or text i 0 ∷ drop (suc i) text) && clean (drop (suc i) text)) (clean (drop (suc i) text)) = ap clean here in
    ⊎_elim
    (λ stop.
    let head : good i ≡ begins_with_crlf (get_or text i 0 ∷ drop (suc i) text) = ap begins_with_crlf here in
    ap (list_all good) (cond-true test (i ∷ later) later stop)
    ∙ (ap (λ b. b && list_all good later) head
    ∙ (ap (λ b. begins_with_crlf (get_or text i 0 ∷ drop (suc i) text) && b) rest
    ∙ sym (whole ∙ cond-true test (begins_with_crlf (get_or text i 0 ∷ drop (suc i) text) && clean (drop (suc i) text)) (clean (drop (suc i) text)) stop))))
    (λ plain.
    ap (list_all good) (cond-false test (i ∷ later) later plain)
    ∙ (rest ∙ sym (whole ∙ cond-false test (begins_with_crlf (get_or text i 0 ∷ drop (suc i) text) && clean (drop (suc i) text)) (clean (drop (suc i) text)) plain)))
    (cases_Bool test)

-- a text whose rest has lines has them, with one more octet in the first
line_longer : (octet : ℕ) (rest : List ℕ) → is_line_octet octet ≡ true → (lines : List (List ℕ)) → HasLines rest lines → (more : List (List ℕ)) × HasLines (octet ∷ rest) more
line_longer octet rest may [] has =
    ((octet ∷ []) ∷ [], ([], (IsLine-cons octet [] may refl, inl (ap (λ (l : List ℕ). octet ∷ l) has, refl, lit< tt)), refl))
line_longer octet rest may (line ∷ lines) (next, (is_line, ends), has) =
    let longer : IsLine (octet ∷ line) = IsLine-cons octet line may is_line in
    elim ends [
      | inl last ↦ ((octet ∷ line) ∷ lines, (next, (longer, inl (ap (λ (l : List ℕ). octet ∷ l) last.0, last.1, omega (arith, last.2))), has))
      | inr some ↦ elim some [
        | inl lf ↦ ((octet ∷ line) ∷ lines, (next, (longer, inr (inl (ap (λ (l : List ℕ). octet ∷ l) lf))), has))
        | inr crlf ↦ ((octet ∷ line) ∷ lines, (next, (longer, inr (inr (ap (λ (l : List ℕ). octet ∷ l) crlf))), has))
      ]
    ]

-- CR LF in place of LF ends the same line
line_with_cr : (octets rest : List ℕ) → begins_with_crlf octets ≡ true → octets ≡ 13 ∷ rest → (lines : List (List ℕ)) → HasLines rest lines → (more : List (List ℕ)) × HasLines octets more
line_with_cr [] rest crlf is lines has = cc
line_with_cr (octet ∷ []) rest crlf is lines has = cc
line_with_cr (octet ∷ other ∷ behind) rest crlf is lines has =
    let lf : other ≡ 10 = eqb-true other 10 (and_parts (octet == 13) (other == 10) crlf).1 in
    let from : rest ≡ 10 ∷ behind = cc in
    let left = lines_behind rest [] behind lines (refl, inr (inl from)) has in
    let whole : octet ∷ other ∷ behind ≡ 13 ∷ 10 ∷ behind = cc in
    ([] ∷ left.0, (behind, (refl, inr (inr whole)), left.2))

lines_from_clean : (text : List ℕ) → clean text ≡ true → (lines : List (List ℕ)) × HasLines text lines
lines_from_clean [] is = ([], refl)
lines_from_clean (octet ∷ rest) is = ⊎_elim
    (λ stop.
    let parts = and_parts (begins_with_crlf (octet ∷ rest)) (clean rest) (sym (cond-true (is_byte2 0 13 octet) (begins_with_crlf (octet ∷ rest) && clean rest) (clean rest) stop) ∙ is) in
    let left = lines_from_clean rest parts.1 in
    line_with_cr (octet ∷ rest) rest parts.0 (ap (λ o. o ∷ rest) (cr octet rest parts.0)) left.0 left.1)
    (λ plain.
    let left = lines_from_clean rest (sym (cond-false (is_byte2 0 13 octet) (begins_with_crlf (octet ∷ rest) && clean rest) (clean rest) plain) ∙ is) in
    let none = or_parts (octet == 0) (octet == 13) plain in
    ⊎_elim
    (λ lf. let whole : octet ∷ rest ≡ 10 ∷ rest = ap (λ o. o ∷ rest) (eqb-true octet 10 lf) in ([] ∷ left.0, (rest, (refl, inr (inl whole)), left.1)))
    (λ other. line_longer octet rest (not_from_false _ (or_from (octet == 0 || octet == 10) (octet == 13) (or_from (octet == 0) (octet == 10) none.0 other) none.1)) left.0 left.1)
    (cases_Bool (octet == 10)))
    (cases_Bool (is_byte2 0 13 octet))
  where
    cr : (octet : ℕ) (rest : List ℕ) → begins_with_crlf (octet ∷ rest) ≡ true → octet ≡ 13
    cr octet [] crlf = cc
    cr octet (other ∷ rest) crlf = eqb-true octet 13 (and_parts (octet == 13) (other == 10) crlf).0

clean-line : (line tail : List ℕ) → IsLine line → clean (line ++ tail) ≡ clean tail
clean-line [] tail is_line = refl
clean-line (octet ∷ line) tail is_line =
    let parts = and_parts (is_line_octet octet) (list_all is_line_octet line) is_line in
    cond-false (is_byte2 0 13 octet) (begins_with_crlf (octet ∷ (line ++ tail)) && clean (line ++ tail)) (clean (line ++ tail)) (plain octet parts.0) ∙ clean-line line tail parts.1
  where
    plain : (octet : ℕ) → is_line_octet octet ≡ true → is_byte2 0 13 octet ≡ false
    plain octet may = false_from_ne_true (is_byte2 0 13 octet) (λ stop. both_ways (is_line_octet octet) (not_from_true _ (⊎_elim
        (λ nul. or_left (octet == 0 || octet == 10) (octet == 13) (or_left (octet == 0) (octet == 10) nul))
        (λ cr. or_right (octet == 0 || octet == 10) (octet == 13) cr)
        (or_cases (octet == 0) (octet == 13) stop))) may)

clean_from_lines : (text : List ℕ) (lines : List (List ℕ)) → HasLines text lines → clean text ≡ true
clean_from_lines text [] has = ap clean has
clean_from_lines text (line ∷ lines) (next, (is_line, ends), has) =
    let rest : clean next ≡ true = clean_from_lines next lines has in
    elim ends [
      | inl last ↦ ap clean (last.0 ∙ sym (append-nil line)) ∙ clean-line line [] is_line
      | inr some ↦ elim some [
        | inl lf ↦ ap clean lf ∙ (clean-line line (10 ∷ next) is_line ∙ rest)
        | inr crlf ↦ ap clean crlf ∙ (clean-line line (13 ∷ 10 ∷ next) is_line ∙ rest)
      ]
    ]

pub lines_by_stops : (text : List ℕ) (answer : Bool) → answer ≡ list_all (λ at. begins_with_crlf (drop at text)) (places (is_byte2 0 13) text) → IsTrue answer ↔ ((lines : List (List ℕ)) × HasLines text lines)
lines_by_stops text answer is =
    let same : answer ≡ clean text = is ∙ clean_places text 0 (length text - 0) (omega arith) in
    (λ holds. lines_from_clean text (sym same ∙ holds), λ has. same ∙ clean_from_lines text has.0 has.1)
