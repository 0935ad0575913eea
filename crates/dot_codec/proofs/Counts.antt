-- Loops over the forms of a block.
use Rattle.std.proofs.Common.{◌≡◌, ℕ, ◌+◌, ◌-◌, ◌<◌, ◌≤◌, List, [], ◌∷◌, ◌++◌, length, refl, sym, ◌∙◌, ap, subst, inl, inr, arith, append_assoc, length-append, take}
use Rattle.std.proofs.lemmas.List.{append-nil, take_at}
use Rattle.dot_codec.specs.Lines.{IsLine, text_of}
use Rattle.dot_codec.specs.Block.{end_of_block, IsLineForm, HasForms, IsReadForm}
use Rattle.dot_codec.proofs.Forms.{IsFinal, end_is_final, forms_once, forms_more, forms_behind, forms_follow, read_form_of}

text_of-push : (lines : List (List ℕ)) (line : List ℕ) → text_of (lines ++ line ∷ []) ≡ text_of lines ++ (line ++ 10 ∷ [])
text_of-push [] line = refl
text_of-push (first ∷ lines) line = ap (λ (l : List ℕ). first ++ 10 ∷ l) (text_of-push lines line) ∙ sym (append_assoc first (10 ∷ text_of lines) (line ++ 10 ∷ []))

-- the forms before the rest of the octets are counted
pub record Sized (octets rest : List ℕ) (text : ℕ) : Type 0 where
  pub lines : List (List ℕ)
  pub forms : HasForms lines octets rest
  pub size : text ≡ length (text_of lines)
  pub bound : text + length rest ≤ length octets

-- what next_line returns for a line
abbrev pub HasLineForm : List ℕ → List ℕ → List ℕ → Type 0
HasLineForm octets line next = (form : List ℕ) × (octets ≡ form ++ 13 ∷ 10 ∷ next) × IsLine line × IsLineForm line form

-- a form is no shorter than its line
line_in_form : (octets line next : List ℕ) → HasLineForm octets line next → length line + 2 + length next ≤ length octets
line_in_form octets line next (form, is, is_line, is_form) = elim is_form [
  | inl plain ↦ omega (arith, ap length is, length-append form (13 ∷ 10 ∷ next), ap length plain.0)
  | inr dotted ↦ omega (arith, ap length is, length-append form (13 ∷ 10 ∷ next), ap length dotted.0)
]

pub next_shorter : (octets line next : List ℕ) → HasLineForm octets line next → length next < length octets
next_shorter octets line next has = omega (arith, line_in_form octets line next has)

pub sized_none : (octets : List ℕ) → Sized octets octets 0
sized_none octets = record { lines = []; forms = refl; size = refl; bound = omega arith }

pub sized_more : (octets rest line next : List ℕ) (size : ℕ) → Sized octets rest size → HasLineForm rest line next → Sized octets next (size + (length line + 1))
sized_more octets rest line next size so_far has = record {
  lines = so_far.lines ++ line ∷ [];
  forms = forms_more so_far.lines octets rest line has.0 next so_far.forms has.1 has.2 has.3;
  size = omega (arith, so_far.size, ap length (text_of-push so_far.lines line), length-append (text_of so_far.lines) (line ++ 10 ∷ []), length-append line (10 ∷ []));
  bound = omega (arith, so_far.bound, line_in_form rest line next has);
}

-- at the end of the block they are a read form
pub sized_all : (octets rest : List ℕ) (text : ℕ) → Sized octets rest text → (behind : List ℕ) × (rest ≡ end_of_block ++ behind) → (lines : List (List ℕ)) × (form behind : List ℕ) × IsReadForm lines form × (octets ≡ form ++ behind) × (length octets - length rest + 3 ≡ length form) × (text ≡ length (text_of lines))
sized_all octets rest text so_far (behind, ends) =
    let read = read_form_of so_far.lines octets behind (subst (HasForms so_far.lines octets) ends so_far.forms) in
    let whole : octets ≡ read.0 ++ behind = read.2 in
    (so_far.lines, read.0, behind, read.1, whole, omega (arith, ap length whole, length-append read.0 behind, ap length ends), so_far.size)

-- the forms before the rest of the octets are read
abbrev pub Read : List ℕ → List ℕ → List ℕ → Type 0
Read octets rest text = (lines : List (List ℕ)) (behind : List ℕ) → HasForms lines octets (end_of_block ++ behind) → (more : List (List ℕ)) × HasForms more rest (end_of_block ++ behind) × (text ++ text_of more ≡ text_of lines)

pub read_none : (octets : List ℕ) → Read octets octets []
read_none octets lines behind has = (lines, has, refl)

pub read_more : (octets rest line next text newer : List ℕ) → Read octets rest text → HasLineForm rest line next → newer ≡ (text ++ line) ++ 10 ∷ [] → Read octets next newer
read_more octets rest line next text newer so_far form is lines behind has =
    let before = so_far lines behind has in
    let left = forms_behind rest line next behind before.0 form before.1 in
    let same : text ++ text_of before.0 ≡ text ++ (line ++ 10 ∷ text_of left.0) = ap (λ (l : List (List ℕ)). text ++ text_of l) left.1 in (
      left.0,
      left.2,
      ap (λ (l : List ℕ). l ++ text_of left.0) is
          ∙ (append_assoc (text ++ line) (10 ∷ []) (text_of left.0)
          ∙ (append_assoc text line (10 ∷ text_of left.0)
          ∙ (sym same ∙ before.2))),
    )

pub read_all : (octets rest text : List ℕ) → Read octets rest text → IsFinal rest → (lines : List (List ℕ)) (form behind : List ℕ) → IsReadForm lines form → octets ≡ form ++ behind → text ≡ text_of lines
read_all octets rest text so_far final lines form behind read is =
    let left = so_far lines behind (subst (λ (o : List ℕ). HasForms lines o (end_of_block ++ behind)) (sym is) (forms_follow lines form end_of_block behind read)) in
    let none : left.0 ≡ [] = (forms_once left.0 [] rest (end_of_block ++ behind) rest left.1 refl (end_is_final behind) final).0 in
    sym (append-nil text) ∙ (ap (λ (l : List (List ℕ)). text ++ text_of l) (sym none) ∙ left.2)

pub read_prefix : (octets text : List ℕ) (lines : List (List ℕ)) (form behind : List ℕ) (used : ℕ) → IsReadForm lines form → octets ≡ form ++ behind → used ≡ length form → text ≡ text_of lines → (used ≤ length octets) × ((lines : List (List ℕ)) × IsReadForm lines (take used octets) × (text ≡ text_of lines))
read_prefix octets text lines form behind used read is len text_is =
    let prefix : take used octets ≡ form = ap (take used) is ∙ take_at form behind used (sym len) in
    (omega (arith, ap length is, length-append form behind, len), (lines, subst (IsReadForm lines) (sym prefix) read, text_is))
