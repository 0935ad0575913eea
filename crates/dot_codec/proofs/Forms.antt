-- Read forms: none is the beginning of another, and the written form is one.
use Rattle.std.proofs.Common.{◌≡◌, ℕ, false, List, [], ◌∷◌, ◌++◌, length, refl, sym, ◌∙◌, ap, subst, inl, inr, ⊎_elim, arith, append_assoc}
use Rattle.std.specs.List.{AllByRecursion}
use Rattle.std.proofs.lemmas.Bool.{both_ways, cases_Bool, cond-true, cond-false}
use Rattle.std.proofs.lemmas.List.{append_cancel_right, append_cancel_left}
use Rattle.dot_codec.specs.Lines.{IsLine, HasLines}
use Rattle.dot_codec.specs.Block.{begins_with_dot, stuffed, end_of_block, written, IsLineForm, HasForms, IsReadForm}
use Rattle.dot_codec.specs.Scan.{EndsRun}
use Rattle.dot_codec.specs.TextLaws.{cut_once, IsLine-cons, lines_each}

pub form_is_line : (line form : List ℕ) → IsLine line → IsLineForm line form → IsLine form
form_is_line line form is_line is_form = elim is_form [
  | inl plain ↦ subst IsLine (sym plain.0) is_line
  | inr dotted ↦ subst IsLine (sym dotted.0) (IsLine-cons 46 line refl is_line)
]

-- a line that is read as it is does not begin with a dot
no_dot : (line rest : List ℕ) → begins_with_dot line ≡ false → line ≡ 46 ∷ rest → ⊥
no_dot line rest plain is = both_ways (begins_with_dot line) plain (ap begins_with_dot is)

-- a form is that of one line
pub form_once : (a b form : List ℕ) → IsLineForm a form → IsLineForm b form → a ≡ b
form_once a b form form_a form_b = elim form_a [
  | inl plain ↦ elim form_b [ inl plain' ↦ sym plain.0 ∙ plain'.0 | inr dotted' ↦ absurd (no_dot a b plain.1 (sym plain.0 ∙ dotted'.0)) ]
  | inr dotted ↦ elim form_b [ inl plain' ↦ absurd (no_dot b a plain'.1 (sym plain'.0 ∙ dotted.0)) | inr dotted' ↦ cc (dotted.0, dotted'.0) ]
]

-- a dot alone is no form
pub dot_is_no_form : (line form : List ℕ) → IsLineForm line form → form ≡ 46 ∷ [] → ⊥
dot_is_no_form line form is_form dot = elim is_form [
  | inl plain ↦ no_dot line [] plain.1 (sym plain.0 ∙ dot)
  | inr dotted ↦ absurd (let none : line ≡ [] = cc (dotted.0, dot) in omega (arith, ap length none, dotted.1))
]

-- after the first run of these octets there is no form of a line
pub record IsFinal (octets : List ℕ) : Type 0 where
  pub body : List ℕ
  pub tail : List ℕ
  pub is : octets ≡ body ++ tail
  pub line : IsLine body
  pub ends : EndsRun tail
  pub last : (next : List ℕ) → tail ≡ 13 ∷ 10 ∷ next → body ≡ 46 ∷ []

pub end_is_final : (rest : List ℕ) → IsFinal (end_of_block ++ rest)
end_is_final rest = record { body = 46 ∷ []; tail = 13 ∷ 10 ∷ rest; is = refl; line = refl; ends = refl; last = λ next is. refl }

no_form_at_final : (line form next rest : List ℕ) → IsFinal rest → IsLine line → IsLineForm line form → rest ≡ form ++ 13 ∷ 10 ∷ next → ⊥
no_form_at_final line form next rest final is_line is_form is =
    let cut = cut_once final.body form final.tail (13 ∷ 10 ∷ next) final.line (form_is_line line form is_line is_form) final.ends refl (sym final.is ∙ is) in
    dot_is_no_form line form is_form (sym cut.0 ∙ final.last next cut.1)

-- octets have one prefix of forms
pub forms_once : (a b : List (List ℕ)) (octets p q : List ℕ) → HasForms a octets p → HasForms b octets q → IsFinal p → IsFinal q → (a ≡ b) × (p ≡ q)
forms_once [] [] octets p q has_a has_b final_p final_q = (refl, sym has_a ∙ has_b)
forms_once [] (line ∷ b) octets p q has_a (form, next, is, is_line, is_form, more) final_p final_q =
    absurd (no_form_at_final line form next p final_p is_line is_form (sym has_a ∙ is))
forms_once (line ∷ a) [] octets p q (form, next, is, is_line, is_form, more) has_b final_p final_q =
    absurd (no_form_at_final line form next q final_q is_line is_form (sym has_b ∙ is))
forms_once (line ∷ a) (line' ∷ b) octets p q (form, next, is, is_line, is_form, more) (form', next', is', is_line', is_form', more') final_p final_q =
    let cut = cut_once form form' (13 ∷ 10 ∷ next) (13 ∷ 10 ∷ next') (form_is_line line form is_line is_form) (form_is_line line' form' is_line' is_form') refl refl (sym is ∙ is') in
    let nexts : next ≡ next' = cc (cut.1) in
    let lines : line ≡ line' = form_once line line' form is_form (subst (λ (f : List ℕ). IsLineForm line' f) (sym cut.0) is_form') in
    let rests = forms_once a b next' p q (subst (λ (n : List ℕ). HasForms a n p) nexts more) more' final_p final_q in
    (cc (lines, rests.0), rests.1)

-- the other forms follow a form
pub forms_behind : (octets line next behind : List ℕ) (lines : List (List ℕ)) → (form : List ℕ) × (octets ≡ form ++ 13 ∷ 10 ∷ next) × IsLine line × IsLineForm line form → HasForms lines octets (end_of_block ++ behind) → (more : List (List ℕ)) × (lines ≡ line ∷ more) × HasForms more next (end_of_block ++ behind)
forms_behind octets line next behind [] (form, is, is_line, is_form) has =
    absurd (no_form_at_final line form next (end_of_block ++ behind) (end_is_final behind) is_line is_form (sym has ∙ is))
forms_behind octets line next behind (line' ∷ more) (form, is, is_line, is_form) (form', next', is', is_line', is_form', has) =
    let cut = cut_once form form' (13 ∷ 10 ∷ next) (13 ∷ 10 ∷ next') (form_is_line line form is_line is_form) (form_is_line line' form' is_line' is_form') refl refl (sym is ∙ is') in
    let nexts : next ≡ next' = cc (cut.1) in
    let lines : line ≡ line' = form_once line line' form is_form (subst (λ (f : List ℕ). IsLineForm line' f) (sym cut.0) is_form') in
    (more, cc (lines), subst (λ (n : List ℕ). HasForms more n (end_of_block ++ behind)) (sym nexts) has)

-- octets that are added at the end are added to the rest
pub forms_follow : (lines : List (List ℕ)) (octets rest more : List ℕ) → HasForms lines octets rest → HasForms lines (octets ++ more) (rest ++ more)
forms_follow [] octets rest more has = ap (λ (o : List ℕ). o ++ more) has
forms_follow (line ∷ lines) octets rest more (form, next, is, is_line, is_form, has) =
    (form, next ++ more, ap (λ (o : List ℕ). o ++ more) is ∙ append_assoc form (13 ∷ 10 ∷ next) more, is_line, is_form, forms_follow lines next rest more has)

-- one more form
pub forms_more : (lines : List (List ℕ)) (octets rest line form next : List ℕ) → HasForms lines octets rest → rest ≡ form ++ 13 ∷ 10 ∷ next → IsLine line → IsLineForm line form → HasForms (lines ++ line ∷ []) octets next
forms_more [] octets rest line form next has is is_line is_form = (form, next, has ∙ is, is_line, is_form, refl)
forms_more (first ∷ lines) octets rest line form next (form', next', is', is_line', is_form', has) is is_line is_form =
    (form', next', is', is_line', is_form', forms_more lines next' rest line form next has is is_line is_form)

-- up to the end of the block the octets are a read form
pub read_form_of : (lines : List (List ℕ)) (octets rest : List ℕ) → HasForms lines octets (end_of_block ++ rest) → (form : List ℕ) × IsReadForm lines form × (octets ≡ form ++ rest)
read_form_of [] octets rest has = (end_of_block, refl, has)
read_form_of (line ∷ lines) octets rest (form, next, is, is_line, is_form, has) =
    let more = read_form_of lines next rest has in (
      form ++ 13 ∷ 10 ∷ more.0,
      (form, more.0, refl, is_line, is_form, more.1),
      is ∙ (ap (λ (o : List ℕ). form ++ 13 ∷ 10 ∷ o) more.2 ∙ sym (append_assoc form (13 ∷ 10 ∷ more.0) rest)),
    )

pub forms_do_not_begin_another : (a b : List (List ℕ)) (x y p q : List ℕ) → IsReadForm a x → IsReadForm b y → x ++ p ≡ y ++ q → (a ≡ b) × (x ≡ y) × (p ≡ q)
forms_do_not_begin_another a b x y p q form_a form_b is =
    let has_a = forms_follow a x end_of_block p form_a in
    let has_b = subst (λ (o : List ℕ). HasForms b o (end_of_block ++ q)) (sym is) (forms_follow b y end_of_block q form_b) in
    let once = forms_once a b (x ++ p) (end_of_block ++ p) (end_of_block ++ q) has_a has_b (end_is_final p) (end_is_final q) in
    let rests : p ≡ q = append_cancel_left end_of_block p q once.1 in
    (once.0, append_cancel_right x y p (is ∙ ap (λ (r : List ℕ). y ++ r) (sym rests)), rests)

stuffed_is_form : (line : List ℕ) → IsLineForm line (stuffed line)
stuffed_is_form [] = inl (refl, refl)
stuffed_is_form (octet ∷ line) = ⊎_elim
    (λ dot. inr (cond-true (begins_with_dot (octet ∷ line)) _ _ dot, omega arith))
    (λ plain. inl (cond-false (begins_with_dot (octet ∷ line)) _ _ plain, plain))
    (cases_Bool (begins_with_dot (octet ∷ line)))

pub written_is_read : (lines : List (List ℕ)) → AllByRecursion IsLine lines → IsReadForm lines (written lines)
written_is_read [] all = refl
written_is_read (line ∷ lines) (is_line, all) = (stuffed line, written lines, refl, is_line, stuffed_is_form line, written_is_read lines all)

pub text_is_read : (text : List ℕ) (lines : List (List ℕ)) → HasLines text lines → IsReadForm lines (written lines)
text_is_read text lines has = written_is_read lines (lines_each text lines has)
