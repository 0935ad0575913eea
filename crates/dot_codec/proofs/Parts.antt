-- The parts of octets that CR LF separates, and the text of an article that is stored as these octets.
use Rattle.std.proofs.Common.{◌≡◌, ℕ, zero, suc, ◌+◌, ◌-◌, ◌<◌, ◌≤◌, Bool, not, true, false, eqb, cond, List, [], ◌∷◌}
use Rattle.std.proofs.Common.{◌++◌, length, get_or, take, drop, take-append-drop, Option, Some, None, refl, sym, ◌∙◌}
use Rattle.std.proofs.Common.{ap, subst, inl, inr, ⊎_elim, arith, ◌==◌, ◌||◌, ◌&&◌, append_assoc, length-drop}
use Rattle.std.proofs.Common.{drop-cons}
use Rattle.std.specs.List.{list_all, AllByRecursion}
use Rattle.std.specs.Option.{IfNone, option_map}
use Rattle.std.proofs.lemmas.Bool.{and_parts, both_ways, cases_Bool, cond-true, cond-false, eqb-true}
use Rattle.std.proofs.lemmas.Bool.{false_from_ne_true, or_right}
use Rattle.std.proofs.lemmas.List.{get_or-drop, take_rest}
use Rattle.memchr.specs.Find.{FindsNeedle, OccursAt}
use Rattle.dot_codec.specs.Lines.{is_line_octet, IsLine, HasLines}
use Rattle.dot_codec.specs.Block.{stuffed, written, end_of_block}
use Rattle.dot_codec.specs.Scan.{begins_with_crlf}
use Rattle.dot_codec.specs.Stored.{one_octet_longer, parts_between_crlf, unstuffed, is_dot, text_at_end}
use Rattle.dot_codec.specs.Stored.{text_of_parts, stored_text, AreWholeLines}
use Rattle.dot_codec.specs.TextLaws.{IsLine-cons}

-- CR LF is found where the octets go on with it
module _ (octets : List ℕ) (k : ℕ) where
  two_from : (rest : List ℕ) → drop k octets ≡ rest → begins_with_crlf rest ≡ true → OccursAt octets (13 ∷ 10 ∷ []) k
  two_from [] is crlf = cc
  two_from (a ∷ []) is crlf = cc
  two_from (a ∷ b ∷ rest) is crlf = record {
    fits = omega (arith, ap length is, length-drop k octets);
    reads = λ j below. reads j below;
  }
    where
      first : a ≡ 13
      first = eqb-true a 13 (and_parts (a == 13) (b == 10) crlf).0

      second : b ≡ 10
      second = eqb-true b 10 (and_parts (a == 13) (b == 10) crlf).1

      here : (j : ℕ) → get_or (drop k octets) j 0 ≡ get_or octets (k + j) 0
      here j = get_or-drop k octets j 0

      reads : (j : ℕ) → j < 2 → get_or octets (k + j) 0 ≡ get_or (13 ∷ 10 ∷ []) j 0
      reads zero below = sym (here 0) ∙ (ap (λ (l : List ℕ). get_or l 0 0) is ∙ first)
      reads (suc zero) below = sym (here 1) ∙ (ap (λ (l : List ℕ). get_or l 1 0) is ∙ second)
      reads (suc (suc j)) below = absurd (omega arith)

  pub occurs_from : begins_with_crlf (drop k octets) ≡ true → OccursAt octets (13 ∷ 10 ∷ []) k
  occurs_from crlf = two_from (drop k octets) refl crlf

  pub occurs_so : OccursAt octets (13 ∷ 10 ∷ []) k → drop k octets ≡ 13 ∷ 10 ∷ drop (suc (suc k)) octets
  occurs_so occurs =
      let inside = occurs.fits in
      let zeroth : k ≡ k + 0 = omega arith in
      let next : suc k ≡ k + 1 = omega arith in
      let first : get_or octets k 0 ≡ 13 = ap (λ i. get_or octets i 0) zeroth ∙ occurs.reads 0 (omega arith) in
      let second : get_or octets (suc k) 0 ≡ 10 = ap (λ i. get_or octets i 0) next ∙ occurs.reads 1 (omega arith) in
      drop-cons octets k 0 (omega arith) ∙ cc (first, drop-cons octets (suc k) 0 (omega arith), second)

-- the first part ends at the first CR LF
part_at : (octets : List ℕ) (n : ℕ) → ((k : ℕ) → k < n → begins_with_crlf (drop k octets) ≡ true → ⊥) →
    drop n octets ≡ 13 ∷ 10 ∷ drop (suc (suc n)) octets →
    parts_between_crlf octets ≡ take n octets ∷ parts_between_crlf (drop (suc (suc n)) octets)
part_at [] zero none at = cc
part_at [] (suc n) none at = cc
part_at (x ∷ []) zero none at = cc
part_at (x ∷ []) (suc zero) none at = cc
part_at (x ∷ []) (suc (suc n)) none at = cc
part_at (x ∷ y ∷ rest) zero none at =
    let first : x ≡ 13 = cc in
    let second : y ≡ 10 = cc in
    let both : (x == 13 && y == 10) ≡ true = ap (λ o. o == 13 && y == 10) first
    ∙ ap (λ o. 13 == 13 && o == 10) second in
    cond-true (x == 13 && y == 10) ([] ∷ parts_between_crlf rest) (one_octet_longer x (parts_between_crlf (y ∷ rest)))
    both
part_at (x ∷ y ∷ rest) (suc n) none at =
    let other : (x == 13 && y == 10) ≡ false = false_from_ne_true (x == 13 && y == 10) (none 0 (omega arith)) in
    let later = part_at (y ∷ rest) n (λ k below. none (suc k) (omega arith)) at in
    cond-false (x == 13 && y == 10) ([] ∷ parts_between_crlf rest)
    (one_octet_longer x (parts_between_crlf (y ∷ rest))) other ∙ ap (one_octet_longer x) later

-- octets without CR LF are one part
part_last : (octets : List ℕ) → ((k : ℕ) → k < length octets → begins_with_crlf (drop k octets) ≡ true → ⊥) →
    parts_between_crlf octets ≡ octets ∷ []
part_last [] none = refl
part_last (x ∷ []) none = refl
part_last (x ∷ y ∷ rest) none =
    let other : (x == 13 && y == 10) ≡ false = false_from_ne_true (x == 13 && y == 10) (none 0 (omega arith)) in
    let later = part_last (y ∷ rest) (λ k below. none (suc k) (omega arith)) in
    cond-false (x == 13 && y == 10) ([] ∷ parts_between_crlf rest)
    (one_octet_longer x (parts_between_crlf (y ∷ rest))) other ∙ ap (one_octet_longer x) later

pub part_found : (octets : List ℕ) (n : ℕ) → FindsNeedle octets (13 ∷ 10 ∷ []) 0 (Some n) → (n + 2 ≤ length octets) ×
    (drop n octets ≡ 13 ∷ 10 ∷ drop (suc (suc n)) octets) ×
    (parts_between_crlf octets ≡ take n octets ∷ parts_between_crlf (drop (suc (suc n)) octets))
part_found octets n (before, at) =
    let is = occurs_so octets n at in
    let inside : n + 2 ≤ length octets = at.fits in
    (inside, is, part_at octets n (λ k below crlf. before.before k (omega arith) below (occurs_from octets k crlf)) is)

pub part_cut : (octets : List ℕ) (n : ℕ) → FindsNeedle octets (13 ∷ 10 ∷ []) 0 (Some n) →
    (parts_between_crlf octets ≡ take n octets ∷ parts_between_crlf
    (take (length octets - (n + 2)) (drop (n + 2) octets))) ×
    (octets ≡ take n octets ++ 13 ∷ 10 ∷ take (length octets - (n + 2)) (drop (n + 2) octets))
part_cut octets n found =
    let part = part_found octets n found in
    let two : suc (suc n) ≡ n + 2 = omega arith in
    let rest : drop (suc (suc n)) octets ≡ take (length octets - (n + 2)) (drop (n + 2) octets) =
    ap (λ k. drop k octets) two ∙ sym (take_rest octets (n + 2)) in (
      part.2 ∙ ap (λ r. take n octets ∷ parts_between_crlf r) rest,
      sym (take-append-drop n octets)
          ∙ ap (λ (l : List ℕ). take n octets ++ l) (part.1 ∙ ap (λ (r : List ℕ). 13 ∷ 10 ∷ r) rest),
    )

pub if_none : {X P : Type 0} (o : Option X) → P → IfNone o P
if_none None p = p
if_none (Some x) p = tt

pub none_found : (octets : List ℕ) → FindsNeedle octets (13 ∷ 10 ∷ []) 0 None → parts_between_crlf octets ≡ octets ∷ []
none_found octets none =
    part_last octets (λ k below crlf. none k (omega arith) (omega arith) (occurs_from octets k crlf))

-- there is at least one part
pub parts_some : (octets : List ℕ) → (part : List ℕ) × (parts : List (List ℕ)) ×
    (parts_between_crlf octets ≡ part ∷ parts)
parts_some [] = ([], [], refl)
parts_some (x ∷ []) = (x ∷ [], [], refl)
parts_some (x ∷ y ∷ rest) = either (x == 13 && y == 10) (parts_some (y ∷ rest))
  where
    either : (crlf : Bool) → (part : List ℕ) × (parts : List (List ℕ)) ×
        (parts_between_crlf (y ∷ rest) ≡ part ∷ parts) → (part : List ℕ) × (parts : List (List ℕ)) ×
        (cond crlf ([] ∷ parts_between_crlf rest)
        (one_octet_longer x (parts_between_crlf (y ∷ rest))) ≡ part ∷ parts)
    either true later = ([], parts_between_crlf rest, refl)
    either false later = (x ∷ later.0, later.1, ap (one_octet_longer x) later.2)

-- something follows the end
text_at_end-some : (octets : List ℕ) → 0 < length octets → text_at_end (parts_between_crlf octets) ≡ None
text_at_end-some [] some = absurd (omega arith)
text_at_end-some (x ∷ []) some = refl
text_at_end-some (x ∷ y ∷ rest) some = either (x == 13 && y == 10)
  where
    either : (crlf : Bool) →
        text_at_end (cond crlf ([] ∷ parts_between_crlf rest)
        (one_octet_longer x (parts_between_crlf (y ∷ rest)))) ≡ None
    either true = let more = parts_some rest in ap (λ ps. text_at_end ([] ∷ ps)) more.2
    either false = let more = parts_some (y ∷ rest) in ap (λ ps. text_at_end (one_octet_longer x ps)) more.2

-- the lines before the rest of the octets are in the text so far
abbrev pub IsSoFar : List ℕ → List ℕ → List ℕ → Type 0
IsSoFar octets rest text = stored_text octets ≡ option_map (λ more. text ++ more) (stored_text rest)

pub so_far_none : (octets : List ℕ) → IsSoFar octets octets []
so_far_none octets = same (stored_text octets)
  where
    same : (o : Option (List ℕ)) → o ≡ option_map (λ (more : List ℕ). more) o
    same None = refl
    same (Some text) = refl

module _ (octets rest line next text : List ℕ) (so_far : IsSoFar octets rest text)
    (cut : parts_between_crlf rest ≡ line ∷ parts_between_crlf next) where
  pub so_far_more : is_dot line ≡ false → (newer : List ℕ) → newer ≡ text ++ (unstuffed line ++ 13 ∷ 10 ∷ []) →
      IsSoFar octets next newer
  so_far_more other newer put =
      so_far
      ∙ (ap (λ ps. option_map (λ more. text ++ more) (text_of_parts ps)) cut
      ∙ (ap (option_map (λ more. text ++ more))
      (cond-false (is_dot line) (text_at_end (parts_between_crlf next))
      (option_map (λ t. unstuffed line ++ 13 ∷ 10 ∷ t) (stored_text next)) other)
      ∙ joined (stored_text next)))
    where
      joined : (o : Option (List ℕ)) →
          option_map (λ more. text ++ more)
          (option_map (λ t. unstuffed line ++ 13 ∷ 10 ∷ t) o) ≡ option_map (λ more. newer ++ more) o
      joined None = refl
      joined (Some t) = ap Some
          (sym (ap (λ (l : List ℕ). l ++ t) put
          ∙ (append_assoc text (unstuffed line ++ 13 ∷ 10 ∷ []) t
          ∙ ap (λ (l : List ℕ). text ++ l) (append_assoc (unstuffed line) (13 ∷ 10 ∷ []) t))))

  pub at_end : is_dot line ≡ true →
      stored_text octets ≡ option_map (λ more. text ++ more) (text_at_end (parts_between_crlf next))
  at_end dot =
      so_far
      ∙ (ap (λ ps. option_map (λ more. text ++ more) (text_of_parts ps)) cut
      ∙ ap (option_map (λ more. text ++ more))
      (cond-true (is_dot line) (text_at_end (parts_between_crlf next))
      (option_map (λ t. unstuffed line ++ 13 ∷ 10 ∷ t) (stored_text next)) dot))

pub at_end_some : (text rest : List ℕ) → eqb (length rest) 0 ≡ false →
    None ≡ option_map (λ end. text ++ end) (text_at_end (parts_between_crlf rest))
at_end_some text [] some = cc
at_end_some text (x ∷ rest) some =
    ap (option_map (λ end. text ++ end)) (sym (text_at_end-some (x ∷ rest) (omega arith)))

pub none_without_end : (octets rest text : List ℕ) → IsSoFar octets rest text → parts_between_crlf rest ≡ rest ∷ [] →
    None ≡ stored_text octets
none_without_end octets rest text so_far last =
    sym (so_far ∙ (ap (λ ps. option_map (λ more. text ++ more) (text_of_parts ps)) last
    ∙ ap (option_map (λ more. text ++ more)) (either (is_dot rest))))
  where
    either : (dot : Bool) → cond dot None (option_map (λ t. unstuffed rest ++ 13 ∷ 10 ∷ t) None) ≡ None
    either true = refl
    either false = refl

no_cr : (octet : ℕ) (more : Bool) → is_line_octet octet ≡ true → (octet == 13 && more) ≡ false
no_cr octet more is = false_from_ne_true (octet == 13 && more) (λ both.
    both_ways (is_line_octet octet) (not_line (octet == 0 || octet == 10) (and_parts (octet == 13) more both).0) is)
  where
    not_line : (before : Bool) → (octet == 13) ≡ true → not (before || octet == 13) ≡ false
    not_line before cr = ap not (or_right before (octet == 13) cr)

-- a line with its CR LF is one part
part_line : (line rest : List ℕ) → IsLine line →
    parts_between_crlf (line ++ 13 ∷ 10 ∷ rest) ≡ line ∷ parts_between_crlf rest
part_line [] rest is_line = refl
part_line (x ∷ []) rest is_line =
    cond-false (x == 13 && false) ([] ∷ parts_between_crlf (10 ∷ rest))
    (one_octet_longer x (parts_between_crlf (13 ∷ 10 ∷ rest)))
    (no_cr x false (and_parts (is_line_octet x) true is_line).0)
part_line (x ∷ y ∷ line) rest is_line =
    let parts = and_parts (is_line_octet x) (list_all is_line_octet (y ∷ line)) is_line in
    cond-false (x == 13 && y == 10) ([] ∷ parts_between_crlf (line ++ 13 ∷ 10 ∷ rest))
    (one_octet_longer x (parts_between_crlf (y ∷ (line ++ 13 ∷ 10 ∷ rest)))) (no_cr x (y == 10) parts.0)
    ∙ ap (one_octet_longer x) (part_line (y ∷ line) rest parts.1)

-- the parts with CR LF between them
abbrev joined : List (List ℕ) → List ℕ
joined [] = []
joined (part ∷ []) = part
joined (part ∷ next ∷ parts) = part ++ 13 ∷ 10 ∷ joined (next ∷ parts)

joined_parts : (octets : List ℕ) → joined (parts_between_crlf octets) ≡ octets
joined_parts [] = refl
joined_parts (x ∷ []) = refl
joined_parts (x ∷ y ∷ rest) = ⊎_elim
    (λ crlf.
    let both = and_parts (x == 13) (y == 10) crlf in
    let some = parts_some rest in
    let is : parts_between_crlf (x ∷ y ∷ rest) ≡ [] ∷ some.0 ∷ some.1 =
    cond-true (x == 13 && y == 10) ([] ∷ parts_between_crlf rest)
    (one_octet_longer x (parts_between_crlf (y ∷ rest))) crlf ∙ ap (λ ps. [] ∷ ps) some.2 in
    let behind : joined (some.0 ∷ some.1) ≡ rest = ap joined (sym some.2) ∙ joined_parts rest in
    ap joined is ∙ cc (eqb-true x 13 both.0, eqb-true y 10 both.1, behind))
    (λ other.
    let is : parts_between_crlf (x ∷ y ∷ rest) ≡ one_octet_longer x (parts_between_crlf (y ∷ rest)) =
    cond-false (x == 13 && y == 10) ([] ∷ parts_between_crlf rest)
    (one_octet_longer x (parts_between_crlf (y ∷ rest))) other in
    let some = parts_some (y ∷ rest) in
    ap joined is ∙ (ap (λ ps. joined (one_octet_longer x ps)) some.2
    ∙ (longer some.1 some.0 ∙ ap (λ (l : List ℕ). x ∷ l) (ap joined (sym some.2) ∙ joined_parts (y ∷ rest)))))
    (cases_Bool (x == 13 && y == 10))
  where
    longer : (parts : List (List ℕ)) (part : List ℕ) → joined ((x ∷ part) ∷ parts) ≡ x ∷ joined (part ∷ parts)
    longer [] part = refl
    longer (next ∷ parts) part = refl

only_some : {A B : Type 0} (f : A → B) (o : Option A) (b : B) → option_map f o ≡ Some b → (a : A) × (o ≡ Some a)
only_some f None b is = cc
only_some f (Some a) b is = (a, refl)

dot_alone : (line : List ℕ) → is_dot line ≡ true → line ≡ 46 ∷ []
dot_alone [] is = cc
dot_alone (x ∷ []) is = ap (λ o. o ∷ []) (eqb-true x 46 is)
dot_alone (x ∷ y ∷ rest) is = cc

nothing_after : (parts : List (List ℕ)) (text : List ℕ) → text_at_end parts ≡ Some text → parts ≡ [] ∷ []
nothing_after [] text is = cc
nothing_after ([] ∷ []) text is = refl
nothing_after ([] ∷ next ∷ parts) text is = cc
nothing_after ((x ∷ part) ∷ parts) text is = cc

whole_longer : (part body : List ℕ) → AreWholeLines body → AreWholeLines (part ++ 13 ∷ 10 ∷ body)
whole_longer part body lines = elim lines [
  | inl none ↦ inr (part, ap (λ (l : List ℕ). part ++ 13 ∷ 10 ∷ l) none)
  | inr some ↦ inr (
    part ++ 13 ∷ 10 ∷ some.0,
    ap (λ (l : List ℕ). part ++ 13 ∷ 10 ∷ l) some.1
        ∙ sym (append_assoc part (13 ∷ 10 ∷ some.0) (13 ∷ 10 ∷ [])),
  )
]

parts_end : (parts : List (List ℕ)) (text : List ℕ) → text_of_parts parts ≡ Some text → (body : List ℕ) ×
    (joined parts ≡ body ++ end_of_block) × AreWholeLines body
parts_end [] text is = cc
parts_end (part ∷ parts) text is = ⊎_elim
    (λ dot.
    let end : text_at_end parts ≡ Some text =
    sym (cond-true (is_dot part) (text_at_end parts)
    (option_map (λ t. unstuffed part ++ 13 ∷ 10 ∷ t) (text_of_parts parts)) dot) ∙ is in
    let whole : joined (part ∷ parts) ≡ end_of_block = ap (λ ps. joined (part ∷ ps)) (nothing_after parts text end)
    ∙ ap (λ (l : List ℕ). l ++ 13 ∷ 10 ∷ []) (dot_alone part dot) in
    ([], whole, inl refl))
    (λ other.
    let more = only_some (λ (t : List ℕ). unstuffed part ++ 13 ∷ 10 ∷ t) (text_of_parts parts) text
    (sym (cond-false (is_dot part) (text_at_end parts)
    (option_map (λ t. unstuffed part ++ 13 ∷ 10 ∷ t) (text_of_parts parts)) other) ∙ is) in
    let behind = parts_end parts more.0 more.1 in (
      part ++ 13 ∷ 10 ∷ behind.0,
      next parts more.0 more.1
          ∙ (ap (λ (l : List ℕ). part ++ 13 ∷ 10 ∷ l) behind.1
          ∙ sym (append_assoc part (13 ∷ 10 ∷ behind.0) end_of_block)),
      whole_longer part behind.0 behind.2,
    ))
    (cases_Bool (is_dot part))
  where
    next : (parts : List (List ℕ)) (text : List ℕ) → text_of_parts parts ≡ Some text →
        joined (part ∷ parts) ≡ part ++ 13 ∷ 10 ∷ joined parts
    next [] text is = cc
    next (first ∷ parts) text is = refl

pub stored_end : (octets text : List ℕ) → stored_text octets ≡ Some text → (body : List ℕ) ×
    (octets ≡ body ++ end_of_block) × AreWholeLines body
stored_end octets text is =
    let end = parts_end (parts_between_crlf octets) text is in
    (end.0, sym (joined_parts octets) ∙ end.1, end.2)

stuffed_line : (line : List ℕ) → IsLine line → IsLine (stuffed line) × (is_dot (stuffed line) ≡ false) ×
    (unstuffed (stuffed line) ≡ line)
stuffed_line [] is_line = (refl, refl, refl)
stuffed_line (x ∷ line) is_line = ⊎_elim
    (λ dot.
    let is : stuffed (x ∷ line) ≡ 46 ∷ x ∷ line = cond-true (x == 46) (46 ∷ x ∷ line) (x ∷ line) dot in
    subst (λ (l : List ℕ). IsLine l × (is_dot l ≡ false) × (unstuffed l ≡ x ∷ line)) (sym is)
    (IsLine-cons 46 (x ∷ line) refl is_line, refl, refl))
    (λ other.
    let is : stuffed (x ∷ line) ≡ x ∷ line = cond-false (x == 46) (46 ∷ x ∷ line) (x ∷ line) other in
    subst (λ (l : List ℕ). IsLine l × (is_dot l ≡ false) × (unstuffed l ≡ x ∷ line)) (sym is)
    (is_line, not_alone line other, cond-false (x == 46) line (x ∷ line) other))
    (cases_Bool (x == 46))
  where
    not_alone : (rest : List ℕ) → (x == 46) ≡ false → is_dot (x ∷ rest) ≡ false
    not_alone [] other = other
    not_alone (y ∷ rest) other = refl

pub stored_as_written : (lines : List (List ℕ)) → AllByRecursion IsLine lines → (text : List ℕ) ×
    (stored_text (written lines) ≡ Some text) × HasLines text lines
stored_as_written [] all = ([], refl, refl)
stored_as_written (line ∷ lines) (is_line, all) =
    let later = stored_as_written lines all in
    let as_stuffed = stuffed_line line is_line in
    let cut : parts_between_crlf (written (line ∷ lines)) ≡ stuffed line ∷ parts_between_crlf (written lines) =
    part_line (stuffed line) (written lines) as_stuffed.0 in
    let first : stored_text (written (line ∷ lines)) ≡ option_map (λ t. unstuffed (stuffed line) ++ 13 ∷ 10 ∷ t)
    (stored_text (written lines)) =
    ap text_of_parts cut ∙ cond-false (is_dot (stuffed line)) (text_at_end (parts_between_crlf (written lines)))
    (option_map (λ t. unstuffed (stuffed line) ++ 13 ∷ 10 ∷ t) (stored_text (written lines))) as_stuffed.1 in
    let whole : stored_text (written (line ∷ lines)) ≡ Some (line ++ 13 ∷ 10 ∷ later.0) =
    first ∙ (ap (option_map (λ t. unstuffed (stuffed line) ++ 13 ∷ 10 ∷ t)) later.1
    ∙ ap (λ (l : List ℕ). Some (l ++ 13 ∷ 10 ∷ later.0)) as_stuffed.2) in
    (line ++ 13 ∷ 10 ∷ later.0, whole, (later.0, (is_line, inr (inr refl)), later.2))
