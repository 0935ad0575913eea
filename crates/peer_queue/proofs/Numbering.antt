-- Which of a front's notes owed a debt, as notes come and go.
use Rattle.std.proofs.Common.{◌≡◌, ◌==◌, ◌⊎◌, inl, inr, ℕ, zero, suc, ◌+◌, ◌-◌, ◌<◌, ◌^◌, Bool, true, false, cond}
use Rattle.std.proofs.Common.{List, [], ◌∷◌, ◌++◌, length, drop, get_or, Option, Some, None}
use Rattle.std.specs.Prelude.{Err, IfNone, IfOk, IfSome, Ok, Result}
use Rattle.std.proofs.Common.{refl, sym, ap, ◌∙◌, subst, arith}
use Rattle.std.specs.List.{All}
use Rattle.std.specs.Map.{keys_of}
use Rattle.std.proofs.lemmas.Bool.{cases_lt, eqb-true}
use Rattle.std.proofs.lemmas.List.{get_or-drop, get_or_append_left, get_or_push, length-append, length-drop}
use Rattle.std.proofs.lemmas.List.Elements.{All-cons, All-head, All-push, All-tail, All-weaker}
use Rattle.ledger_core.specs.PartLaws.{ordinals-all}
use Rattle.ledger_core.specs.Parts.{Parts, ordinal_at, ordinals_of, ordinals_step}
use Rattle.ledger_core.specs.Shape.{FitsShape, IsSized, Shape, shape_marks, shape_step}
use Rattle.ledger_core.specs.State.{IsNext, IsPast, Owing}
use Rattle.ledger_core.specs.StateLaws.{WithMarks, next-apart, past-closed, past-kept, past-more, past-new}
use Rattle.ledger_core.specs.declared.marks.Marks.{Marks}
use Rattle.ledger_core.specs.declared.note.Note.{Note}
use Rattle.ledger_core.specs.declared.note.Note.TheVariants.{Owe, Final, Drop, Seen, Closed}
use Rattle.peer_queue.specs.Numbers.{IsNumbered, OwesAt, OwesPast}
use Rattle.peer_queue.specs.Outbox.{IsTextIn, box_shape, notes_in, unsettled_in}
use Rattle.peer_queue.specs.declared.outbox.Outbox.{Outbox}
use Rattle.ledger_core.specs.Outline.{ordinals_in}

-- ---- what a note owes may be owed then, and later

owe-marks : (shape : Shape) (key : ℕ) (token id : List ℕ)
    → WithMarks (shape_marks shape) (shape_marks (shape_step shape (Owe key token id))) key
owe-marks shape key token id = record { mark = refl; closed = refl; import_mark = refl }

past-step : (shape : Shape) (note : Note) (key : ℕ) → shape.import_mark < 2 ^ 64 → FitsShape shape note
    → IsPast (shape_marks shape) key → IsPast (shape_marks (shape_step shape note)) key
past-step shape (Owe other token id) key small fits past =
    past-kept (shape_marks shape) (shape_marks (shape_step shape (Owe other token id))) other key fits.0
    (owe-marks shape other token id) past
past-step shape (Final other code) key small fits past = past
past-step shape (Drop other cause) key small fits past = past
past-step shape (Seen number) key small fits past =
    past-more (shape_marks shape) (shape_marks (shape_step shape (Seen number))) key past (omega (arith, fits.1))
    (omega arith)
past-step shape (Closed source) key small fits past =
    past-closed (shape_marks shape) (shape_marks (shape_step shape (Closed source))) key past refl fits.0 small

-- the note that owes a debt
past-own : (shape : Shape) (note : Note) → FitsShape shape note → OwesPast (shape_marks (shape_step shape note)) note
past-own shape (Owe other token id) fits = λ key t i is.
    let same : other ≡ key = cc in
    subst (IsPast (shape_marks (shape_step shape (Owe other token id)))) same
    (past-new (shape_marks shape) (shape_marks (shape_step shape (Owe other token id))) other fits.0
    (owe-marks shape other token id))
past-own shape (Final other code) fits = λ key t i is. absurd (cc)
past-own shape (Drop other cause) fits = λ key t i is. absurd (cc)
past-own shape (Seen number) fits = λ key t i is. absurd (cc)
past-own shape (Closed source) fits = λ key t i is. absurd (cc)

pub past_more : (shape : Shape) (notes : List Note) (note : Note) → shape.import_mark < 2 ^ 64 → FitsShape shape note
    → All (OwesPast (shape_marks shape)) notes → All (OwesPast (shape_marks (shape_step shape note)))
    (notes ++ note ∷ [])
past_more shape notes note small fits all =
    All-push (OwesPast (shape_marks (shape_step shape note))) notes note
    (All-weaker (OwesPast (shape_marks shape)) (OwesPast (shape_marks (shape_step shape note)))
    (λ x past key token id is. past-step shape note key small fits (past key token id is)) notes all)
    (past-own shape note fits)

-- ---- one more note

-- a note at a place among these and one more
push_cases : (notes : List Note) (note : Note) (index key : ℕ) → OwesAt (notes ++ note ∷ []) index key
    → OwesAt notes index key ⊎ ((index ≡ length notes) × (token : List ℕ) × (id : List ℕ) × (note ≡ Owe key token id))
push_cases notes note index key at = elim (cases_lt index (length notes)) [
  | inl before ↦
      inl (at.0, at.1, before, sym (get_or_append_left notes (note ∷ []) (Owe key at.0 at.1) index before) ∙ at.3)
  | inr behind ↦
      let last : index ≡ length notes = omega (arith, behind, at.2, length-append notes (note ∷ [])) in
      inr (
        last,
        at.0,
        at.1,
        sym (get_or_push notes note (Owe key at.0 at.1) (length notes) refl)
            ∙ (ap (λ (k : ℕ). get_or (notes ++ note ∷ []) k (Owe key at.0 at.1)) (sym last) ∙ at.3),
      )
]

both : {X : Type 0} (P Q : X → Type 0) (xs : List X) → All P xs → All Q xs → All (λ x. P x × Q x) xs
both P Q xs p q = λ k d within. (p k d within, q k d within)

-- the keys of ordinals
pub all_ordinals : (P : ℕ → Type 0) (parts : Parts) → All P (keys_of parts)
    → All (λ (entry : ℕ × ℕ). P entry.0) (ordinals_of parts)
all_ordinals P [] all = λ k d within. absurd (omega arith)
all_ordinals P (part ∷ parts) all =
    All-cons (λ (entry : ℕ × ℕ). P entry.0) (part.0, part.1.0) (ordinals_of parts) (All-head P part.0
    (keys_of parts) all)
    (all_ordinals P parts (All-tail P part.0 (keys_of parts) all))

-- a debt that was owed is not owed by the note that comes
kept_numbered : (before : ℕ) (notes : List Note) (shape : Shape) (note : Note) (entry : ℕ × ℕ) → FitsShape shape note
    → IsNumbered before notes entry × IsPast (shape_marks shape) entry.0
    → IsNumbered before (notes ++ note ∷ []) entry
kept_numbered before notes shape note entry fits is = λ index at small. elim (push_cases notes note index entry.0 at) [
  | inl there ↦ is.0 index there small
  | inr last ↦
      let next : IsNext (shape_marks shape) entry.0 = next_of note last.1 last.2 last.3 fits in
      absurd (next-apart (shape_marks shape) entry.0 (entry.0 ∷ []) next (one entry.0 is.1) 0 0 (omega arith) refl)
]
  where
    next_of : (other : Note) (token id : List ℕ) → other ≡ Owe entry.0 token id → FitsShape shape other
        → IsNext (shape_marks shape) entry.0
    next_of other token id same legal =
        let owe : FitsShape shape (Owe entry.0 token id) = subst (FitsShape shape) same legal in owe.0

    one : (key : ℕ) → IsPast (shape_marks shape) key → All (IsPast (shape_marks shape)) (key ∷ [])
    one key past = All-cons (IsPast (shape_marks shape)) key [] past (λ k d within. absurd (omega arith))

-- and the debt that it owes has its ordinal, since none of the other notes owes it
own_numbered : (before ordinal : ℕ) (notes : List Note) (shape : Shape) (key : ℕ) (token id : List ℕ)
    → FitsShape shape (Owe key token id) → All (OwesPast (shape_marks shape)) notes
    → (before + length notes + 1 < 2 ^ 64 → ordinal ≡ before + length notes + 1)
    → IsNumbered before (notes ++ Owe key token id ∷ []) (key, ordinal)
own_numbered before ordinal notes shape key token id fits past is = λ index at small.
    elim (push_cases notes (Owe key token id) index key at) [
      | inl there ↦
          let here : IsPast (shape_marks shape) key =
          past index (Owe key there.0 there.1) there.2 key there.0 there.1 there.3 in
          absurd (next-apart (shape_marks shape) key (key ∷ []) fits.0
          (All-cons (IsPast (shape_marks shape)) key [] here (λ k d within. absurd (omega arith)))
          0 0 (omega arith) refl)
      | inr last ↦ is (omega (arith, small, last.0)) ∙ omega (arith, last.0)
    ]

pub numbered_more : (before ordinal : ℕ) (notes : List Note) (shape : Shape) (parts : Parts) (note : Note)
    → FitsShape shape note → All (IsPast (shape_marks shape)) (keys_of parts) → All (OwesPast (shape_marks shape)) notes
    → (before + length notes + 1 < 2 ^ 64 → ordinal ≡ before + length notes + 1)
    → All (IsNumbered before notes) (ordinals_of parts)
    → All (IsNumbered before (notes ++ note ∷ [])) (ordinals_step (ordinals_of parts) note ordinal)
numbered_more before ordinal notes shape parts note fits owed past is all =
    ordinals-all (IsNumbered before (notes ++ note ∷ [])) (ordinals_of parts) note ordinal own
    (All-weaker (λ (entry : ℕ × ℕ). IsNumbered before notes entry × IsPast (shape_marks shape) entry.0)
    (IsNumbered before (notes ++ note ∷ [])) (λ entry here. kept_numbered before notes shape note entry fits here)
    (ordinals_of parts)
    (both (IsNumbered before notes) (λ (entry : ℕ × ℕ). IsPast (shape_marks shape) entry.0) (ordinals_of parts) all
    (all_ordinals (IsPast (shape_marks shape)) parts owed)))
  where
    own : (key : ℕ) (token id : List ℕ) → note ≡ Owe key token id → IsNumbered before (notes ++ note ∷ [])
        (key, ordinal)
    own key token id same =
        subst (λ (n : Note). IsNumbered before (notes ++ n ∷ []) (key, ordinal)) (sym same)
        (own_numbered before ordinal notes shape key token id (subst (FitsShape shape) same fits) past is)

-- ---- without the first of them

drop_at : (notes : List Note) (k index key : ℕ) → OwesAt (drop k notes) index key → OwesAt notes (k + index) key
drop_at notes k index key at = (
  at.0,
  at.1,
  omega (arith, at.2, length-drop k notes),
  sym (get_or-drop k notes index (Owe key at.0 at.1)) ∙ at.3,
)

pub numbered_less : (before before' k : ℕ) (notes : List Note) (ordinals : List (ℕ × ℕ)) → before' ≡ before + k
    → All (IsNumbered before notes) ordinals → All (IsNumbered before' (drop k notes)) ordinals
numbered_less before before' k notes ordinals more all =
    All-weaker (IsNumbered before notes) (IsNumbered before' (drop k notes))
    (λ entry is index at small.
    is (k + index) (drop_at notes k index entry.0 at) (omega (arith, small, more)) ∙ omega (arith, more)) ordinals all

-- ---- looked up

pub found_numbered : (P : ℕ × ℕ → Type 0) (ordinals : List (ℕ × ℕ)) (key ordinal : ℕ) → All P ordinals
    → ordinal_at ordinals key ≡ Some ordinal → P (key, ordinal)
found_numbered P [] key ordinal all is = absurd (cc)
found_numbered P (entry ∷ ordinals) key ordinal all is =
    on (entry.0 == key) refl is
    (λ there. found_numbered P ordinals key ordinal (All-tail P entry ordinals all) there)
  where
    on : (b : Bool) → (entry.0 == key) ≡ b → cond b (Some entry.1) (ordinal_at ordinals key) ≡ Some ordinal
        → (ordinal_at ordinals key ≡ Some ordinal → P (key, ordinal)) → P (key, ordinal)
    on true e here rest =
        let number : entry.0 ≡ key = eqb-true entry.0 key e in
        let same : entry.1 ≡ ordinal = cc in
        subst (λ (n : ℕ). P (key, n)) same (subst (λ (n : ℕ). P (n, entry.1)) number (All-head P entry ordinals all))
    on false e there rest = rest there

-- ---- none

pub none_numbered : (before : ℕ) (ordinals : List (ℕ × ℕ)) → All (IsNumbered before []) ordinals
none_numbered before ordinals = λ k d within index at small. absurd (omega (arith, at.2))

pub none_owed : (marks : Marks) → All (OwesPast marks) []
none_owed marks = λ k d within. absurd (omega arith)

-- ---- in an outbox

-- the note that owes a debt is at the index that its ordinal gives
pub stands_at : (outbox : Outbox) (key ordinal at : ℕ) → ordinal_at (ordinals_in outbox.outline) key ≡ Some ordinal
    → OwesAt (notes_in outbox) at key → outbox.settled + length (unsettled_in outbox) < 2 ^ 64
    → ordinal ≡ outbox.settled - outbox.lying + at + 1
stands_at outbox key ordinal at found owes fits =
    found_numbered (IsNumbered (outbox.settled - outbox.lying) (notes_in outbox))
    (ordinals_in outbox.outline) key ordinal
    outbox.numbered found at owes
    (omega (arith, fits, owes.2, outbox.counted, outbox.within, length-drop outbox.lying (notes_in outbox)))

-- at a place of a list its default does not matter
get_or_same : (notes : List Note) (i : ℕ) (d e : Note) → i < length notes → get_or notes i d ≡ get_or notes i e
get_or_same [] i d e inside = absurd (omega arith)
get_or_same (note ∷ notes) zero d e inside = refl
get_or_same (note ∷ notes) (suc i) d e inside = get_or_same notes i d e (omega (arith, inside))

-- the texts of a note, if it is at the index of the note that owes the debt
pub texts : {E : Type 0} (outbox : Outbox) (key index : ℕ) (note : Note) (result : Result (Option Owing) E)
    → IsSized (box_shape outbox) key
    → ((at : ℕ) → OwesAt (notes_in outbox) at key → outbox.settled + length (unsettled_in outbox) < 2 ^ 64 → at ≡ index)
    → index < length (notes_in outbox) → note ≡ get_or (notes_in outbox) index note
    → IfOk result (λ found. IfSome found (λ debt. (debt.0 ≡ key) × (note ≡ Owe key debt.1.0 debt.1.1)))
    → IfOk result (λ found. IfNone found ((token id : List ℕ) → note ≡ Owe key token id → ⊥))
    → IfOk result (IsTextIn outbox key)
texts outbox key index note (Err e) owed stands inside is some none = tt
texts outbox key index note (Ok None) owed stands inside is some none = record {
  some = tt;
  none = λ fits sized token id has.
      let here : has.0 ≡ index = stands has.0 (token, id, has.1, has.2) fits in
      none token id (is ∙ (get_or_same (notes_in outbox) index note (Owe key token id) inside
      ∙ (ap (λ (k : ℕ). get_or (notes_in outbox) k (Owe key token id)) (sym here) ∙ has.2)));
}
texts outbox key index note (Ok (Some debt)) owed stands inside is some none = record {
  some = (
    some.0,
    owed,
    (
      index,
      inside,
      get_or_same (notes_in outbox) index (Owe key debt.1.0 debt.1.1) note inside ∙ (sym is ∙ some.1),
    ),
  );
  none = tt;
}
