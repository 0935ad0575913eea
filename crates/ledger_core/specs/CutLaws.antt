-- Notes are cut into the longest batches in one way, and one by one, for this crate and those above.
use Rattle.std.proofs.Common.{◌≡◌, inl, inr, ◌+◌, ◌<◌, ◌≤◌, List, [], ◌∷◌, ◌++◌, length}
use Rattle.std.proofs.Common.{refl, sym, ap, ◌∙◌, subst, arith, length-append}
use Rattle.std.proofs.lemmas.Bool.{cases_lt}
use Rattle.std.proofs.lemmas.List.{append-nil, append_assoc}
use Rattle.std.specs.Int.{to_be_bytes, w32}
use Rattle.ledger_core.specs.declared.note.Note.{Note}
use Rattle.ledger_core.specs.Batch.{AreBatches, AreLongest, Cuts, IsBatch, IsFullBefore, IsFullFor, batch_spelling}
use Rattle.ledger_core.specs.Batch.{longest_batch, notes_of, together}
use Rattle.ledger_core.specs.BatchLaws.{AreBatches-append, AreBatches-back, AreBatches-prefix, notes_of-append}
use Rattle.ledger_core.specs.BatchLaws.{together-append}
use Rattle.ledger_core.specs.Note.{IsNote}
use Rattle.ledger_core.specs.SpellingLaws.{AreNotes-append}

-- ---- one cut

notes-apart : (a b x y : List Note) → length a ≡ length b → a ++ x ≡ b ++ y → (a ≡ b) × (x ≡ y)
notes-apart [] [] x y l e = (refl, e)
notes-apart [] (c ∷ b) x y l e = absurd (omega (arith, l))
notes-apart (c ∷ a) [] x y l e = absurd (omega (arith, l))
notes-apart (c ∷ a) (d ∷ b) x y l e =
    let first : c ≡ d = cc e in
    let rest : a ++ x ≡ b ++ y = cc e in
    let same = notes-apart a b x y (omega (arith, l)) rest in
    let same_a : a ≡ b = same.0 in
    (cc, same.1)

-- the shorter of two prefixes is a prefix of the longer, and the next note follows it
record Goes (a b : List Note) (note : Note) : Type 0 where
  more : List Note
  is : b ≡ (a ++ note ∷ []) ++ more

goes-on : (a b : List Note) (note : Note) (x y : List Note) → length a < length b → a ++ (note ∷ x) ≡ b ++ y
    → Goes a b note
goes-on [] [] note x y few e = absurd (omega (arith, few))
goes-on [] (c ∷ b) note x y few e =
    let first : note ≡ c = cc e in
    record { more = b; is = ap (λ (n : Note). n ∷ b) (sym first) }
goes-on (c ∷ a) [] note x y few e = absurd (omega (arith, few))
goes-on (c ∷ a) (d ∷ b) note x y few e =
    let first : c ≡ d = cc e in
    let rest : a ++ (note ∷ x) ≡ b ++ y = cc e in
    let inner = goes-on a b note x y (omega (arith, few)) rest in
    record {
      more = inner.more;
      is = ap (λ (n : Note). n ∷ b) (sym first) ∙ ap (λ (l : List Note). c ∷ l) inner.is;
    }

batch-length : (notes : List Note) → length (batch_spelling notes) ≡ 5 + length (together notes)
batch-length notes = omega (arith, length-append (to_be_bytes w32 (length notes)) (together notes))

-- no prefix of several notes is too long
prefix-short : (a b : List Note) (note : Note) → IsBatch b → Goes a b note → 0 < length a → IsFullFor a note → ⊥
prefix-short a [] note is goes some full = is
prefix-short a (c ∷ []) note is goes some full =
    omega (arith, some, ap length goes.is, length-append (a ++ note ∷ []) goes.more, length-append a (note ∷ []))
prefix-short a (c ∷ d ∷ b) note is goes some full =
    let whole : together (c ∷ d ∷ b) ≡ together (a ++ note ∷ []) ++ together goes.more =
    ap together goes.is ∙ together-append (a ++ note ∷ []) goes.more in
    omega (
      arith,
      full,
      is.fits,
      batch-length (a ++ note ∷ []),
      batch-length (c ∷ d ∷ b),
      ap length whole,
      length-append (together (a ++ note ∷ [])) (together goes.more),
    )

some-batch : (batch : List Note) → IsBatch batch → 0 < length batch
some-batch [] is = absurd is
some-batch (note ∷ []) is = omega arith
some-batch (note ∷ next ∷ notes) is = omega arith

-- a shorter first batch is followed by one whose first note is too long for it
shorter : (a b : List Note) (one other : List (List Note)) → IsBatch a → IsBatch b → AreBatches one
    → AreLongest (a ∷ one) → a ++ notes_of one ≡ b ++ notes_of other → length a < length b → ⊥
shorter a b [] other is is' are longest e few =
    omega (arith, few, ap length e, length-append a [], length-append b (notes_of other))
shorter a b ([] ∷ one) other is is' are longest e few = are.0
shorter a b ((note ∷ notes) ∷ one) other is is' are longest e few =
    prefix-short a b note is' (goes-on a b note (notes ++ notes_of one) (notes_of other) few e) (some-batch a is)
    longest.0

longest-behind : (batch : List Note) (batches : List (List Note)) → AreLongest (batch ∷ batches) → AreLongest batches
longest-behind batch [] longest = tt
longest-behind batch (next ∷ batches) longest = longest.1

pub cut_once : (one other : List (List Note)) → AreBatches one → AreBatches other → AreLongest one → AreLongest other
    → notes_of one ≡ notes_of other → one ≡ other
cut_once [] [] a b l l' e = refl
cut_once [] (batch ∷ other) a b l l' e =
    absurd (omega (arith, some-batch batch b.0, ap length e, length-append batch (notes_of other)))
cut_once (batch ∷ one) [] a b l l' e =
    absurd (omega (arith, some-batch batch a.0, ap length e, length-append batch (notes_of one)))
cut_once (batch ∷ one) (second ∷ other) a b l l' e =
    elim (cases_lt (length batch) (length second)) [
      | inl few ↦ absurd (shorter batch second one other a.0 b.0 a.1 l e few)
      | inr many ↦ elim (cases_lt (length second) (length batch)) [
        | inl few ↦ absurd (shorter second batch other one b.0 a.0 b.1 l' (sym e) few)
        | inr same ↦
            let parts = notes-apart batch second (notes_of one) (notes_of other) (omega (arith, many, same)) e in
            let first : batch ≡ second = parts.0 in
            let rest : one ≡ other = cut_once one other a.1 b.1 (longest-behind batch one l)
            (longest-behind second other l') parts.1 in
            cc
      ]
    ]

-- ---- one note more

longest-begins : (prefix : List (List Note)) (batch : List Note) (note : Note) → AreLongest (prefix ++ batch ∷ [])
    → IsFullFor batch note → AreLongest (prefix ++ batch ∷ (note ∷ []) ∷ [])
longest-begins [] batch note longest full = (full, tt)
longest-begins (first ∷ []) batch note longest full = (longest.0, (full, tt))
longest-begins (first ∷ next ∷ prefix) batch note longest full =
    (longest.0, longest-begins (next ∷ prefix) batch note longest.1 full)

full-joined : (first batch : List Note) (note : Note) → IsFullBefore first batch
    → IsFullBefore first (batch ++ note ∷ [])
full-joined first [] note full = absurd full
full-joined first (n ∷ batch) note full = full

longest-joins : (prefix : List (List Note)) (batch : List Note) (note : Note) → AreLongest (prefix ++ batch ∷ [])
    → AreLongest (prefix ++ (batch ++ note ∷ []) ∷ [])
longest-joins [] batch note longest = tt
longest-joins (first ∷ []) batch note longest = (full-joined first batch note longest.0, tt)
longest-joins (first ∷ next ∷ prefix) batch note longest =
    (longest.0, longest-joins (next ∷ prefix) batch note longest.1)

-- a batch and one note more are several
pub joined-several : (batch : List Note) (note : Note) → IsBatch batch → IsNote note
    → length (batch_spelling (batch ++ note ∷ [])) ≤ longest_batch → IsBatch (batch ++ note ∷ [])
joined-several [] note is is_note fits = absurd is
joined-several (n ∷ []) note is is_note fits =
    record { notes_are = (is, (is_note, tt)); several = omega arith; fits = fits }
joined-several (n ∷ next ∷ notes) note is is_note fits = record {
  notes_are = AreNotes-append (n ∷ next ∷ notes) (note ∷ []) is.notes_are (is_note, tt);
  several = omega arith;
  fits = fits;
}

-- it is the first
pub cut-first : (note : Note) → IsNote note → Cuts (note ∷ []) ((note ∷ []) ∷ [])
cut-first note is = record { are = (is, tt); longest = tt; whole = refl }

-- it begins a batch of its own
pub cut-begins : (notes : List Note) (prefix : List (List Note)) (batch : List Note) (note : Note)
    → Cuts notes (prefix ++ batch ∷ []) → IsNote note → IsFullFor batch note
    → Cuts (notes ++ note ∷ []) (prefix ++ batch ∷ (note ∷ []) ∷ [])
cut-begins notes prefix batch note cut is full =
    let whole : (prefix ++ batch ∷ []) ++ (note ∷ []) ∷ [] ≡ prefix ++ batch ∷ (note ∷ []) ∷ [] =
    append_assoc prefix (batch ∷ []) ((note ∷ []) ∷ []) in
    record {
      are = subst AreBatches whole (AreBatches-append (prefix ++ batch ∷ []) ((note ∷ []) ∷ []) cut.are (is, tt));
      longest = longest-begins prefix batch note cut.longest full;
      whole = ap notes_of (sym whole) ∙ (notes_of-append (prefix ++ batch ∷ []) ((note ∷ []) ∷ [])
          ∙ ap (λ (l : List Note). l ++ note ∷ []) cut.whole);
    }

-- it joins the last
pub cut-joins : (notes : List Note) (prefix : List (List Note)) (batch : List Note) (note : Note)
    → Cuts notes (prefix ++ batch ∷ []) → IsNote note → length (batch_spelling (batch ++ note ∷ [])) ≤ longest_batch
    → Cuts (notes ++ note ∷ []) (prefix ++ (batch ++ note ∷ []) ∷ [])
cut-joins notes prefix batch note cut is fits =
    let last = AreBatches-back prefix (batch ∷ []) cut.are in
    record {
      are = AreBatches-append prefix ((batch ++ note ∷ []) ∷ []) (AreBatches-prefix prefix (batch ∷ []) cut.are)
          (joined-several batch note last.0 is fits, tt);
      longest = longest-joins prefix batch note cut.longest;
      whole = notes_of-append prefix ((batch ++ note ∷ []) ∷ [])
          ∙ (ap (λ (l : List Note). notes_of prefix ++ l) (append-nil (batch ++ note ∷ []))
          ∙ (sym (append_assoc (notes_of prefix) batch (note ∷ []))
          ∙ ap (λ (l : List Note). l ++ note ∷ [])
          (ap (λ (l : List Note). notes_of prefix ++ l) (sym (append-nil batch))
          ∙ (sym (notes_of-append prefix (batch ∷ [])) ∙ cut.whole))));
    }
