-- Notes that a shape judges, and takes or refuses: each for one reason alone.
use Rattle.std.proofs.Common.{◌≡◌, ℕ, ◌<◌, ◌+◌, ◌^◌, List, Result, Ok, Err, length, refl, ap, ◌∙◌, arith}
use Rattle.std.specs.Prelude.{IsOk, OnErr}
use Rattle.std.specs.BTreeMap.{insert_entry}
use Rattle.std.specs.Ordering.{nat_cmp}
use Rattle.std.proofs.lemmas.List.{length-map}
use Rattle.ledger_core.specs.declared.ledger.LedgerFault.{LedgerFault}
use Rattle.ledger_core.specs.declared.ledger.LedgerFault.TheVariants.{OldNumber, NotOwed, CountFull, NoMemory}
use Rattle.ledger_core.specs.declared.marks.Marks.{Marks}
use Rattle.ledger_core.specs.declared.note.Cause.{Cause}
use Rattle.ledger_core.specs.declared.note.FinalCode.{FinalCode}
use Rattle.ledger_core.specs.declared.note.Note.{Note}
use Rattle.ledger_core.specs.declared.note.Note.TheVariants.{Owe, Final, Drop}
use Rattle.ledger_core.specs.Note.{IsOwe}
use Rattle.ledger_core.specs.Outline.{JudgesShape, StepsShape}
use Rattle.ledger_core.specs.Shape.{FitsShape, IsOldForShape, IsSized, OverflowsShape, Shape, ShapeLacksDebt, Size}
use Rattle.ledger_core.specs.Shape.{shape_marks, shape_step, without_key}
use Rattle.ledger_core.specs.ShapeLaws.{lacks-fits, lacks-overflows, old-fits, old-lacks, old-overflows, overflows-fits}
use Rattle.ledger_core.specs.State.{line_octets}
use Rattle.ledger_core.specs.StateLaws.{WithMarks}

no-err : (fault : LedgerFault) → ◌≡◌ {A = Result (Unit {0}) LedgerFault} (Ok tt) (Err fault) → ⊥
no-err fault e = cc

no-ok : (fault : LedgerFault) → IsOk {T = Unit {0}} (Err fault) → ⊥
no-ok fault e = cc

-- ---- judged

pub judged-fits : (shape : Shape) (note : Note) → FitsShape shape note → JudgesShape (Ok tt) shape note
judged-fits shape note fits = record {
  ok = (λ e. fits, λ e. refl);
  old_number = (λ e. absurd (no-err _ e), λ h. absurd (old-fits shape note h fits));
  not_owed = (λ e. absurd (no-err _ e), λ h. absurd (lacks-fits shape note h fits));
  count_full = (λ e. absurd (no-err _ e), λ h. absurd (overflows-fits shape note h fits));
  no_memory = λ e. no-err _ e;
}

pub judged-lacks : (shape : Shape) (note : Note) → ShapeLacksDebt shape note → JudgesShape (Err NotOwed) shape note
judged-lacks shape note lacks = record {
  ok = (λ e. absurd (no-ok NotOwed e), λ h. absurd (lacks-fits shape note lacks h));
  old_number = (λ e. cc, λ h. absurd (old-lacks shape note h lacks));
  not_owed = (λ e. lacks, λ h. refl);
  count_full = (λ e. cc, λ h. absurd (lacks-overflows shape note lacks h));
  no_memory = λ e. cc;
}

pub judged-old : (shape : Shape) (note : Note) → IsOldForShape shape note → JudgesShape (Err OldNumber) shape note
judged-old shape note old = record {
  ok = (λ e. absurd (no-ok OldNumber e), λ h. absurd (old-fits shape note old h));
  old_number = (λ e. old, λ h. refl);
  not_owed = (λ e. cc, λ h. absurd (old-lacks shape note old h));
  count_full = (λ e. cc, λ h. absurd (old-overflows shape note old h));
  no_memory = λ e. cc;
}

pub judged-full : (shape : Shape) (note : Note) → OverflowsShape shape note → JudgesShape (Err CountFull) shape note
judged-full shape note full = record {
  ok = (λ e. absurd (no-ok CountFull e), λ h. absurd (overflows-fits shape note full h));
  old_number = (λ e. cc, λ h. absurd (old-overflows shape note h full));
  not_owed = (λ e. cc, λ h. absurd (lacks-overflows shape note h full));
  count_full = (λ e. full, λ h. refl);
  no_memory = λ e. cc;
}

-- an end of a debt that is owed can be counted
pub sized-counts : (shape : Shape) (key : ℕ) → IsSized shape key
    → shape.taken ≡ shape.answered + shape.dropped + length shape.sizes → shape.taken < 2 ^ 64
    → (shape.answered + 1 < 2 ^ 64) × (shape.dropped + 1 < 2 ^ 64)
sized-counts shape key sized counted fits =
    let some : 0 < length shape.sizes = omega (arith, sized.1, length-map shape.sizes (λ (size : Size). size.0)) in
    (omega arith, omega arith)

-- ---- taken or refused

pub stepped : (old new : Shape) (note : Note) → FitsShape old note → new ≡ shape_step old note
    → StepsShape (Ok tt) old new note
stepped old new note fits is = record {
  ok = (fits, is);
  old_number = (λ e. absurd (no-err _ e), λ h. absurd (old-fits old note h fits));
  not_owed = (λ e. absurd (no-err _ e), λ h. absurd (lacks-fits old note h fits));
  count_full = (λ e. absurd (no-err _ e), λ h. absurd (overflows-fits old note h fits));
  no_memory = λ e. absurd (no-err _ e);
  unchanged = tt;
}

pub stayed : (fault : LedgerFault) (old new : Shape) (note : Note) → JudgesShape (Err fault) old note → new ≡ old
    → StepsShape (Err fault) old new note
stayed fault old new note judged same = record {
  ok = tt;
  old_number = judged.old_number;
  not_owed = judged.not_owed;
  count_full = judged.count_full;
  no_memory = λ e. absurd (judged.no_memory e);
  unchanged = same;
}

-- if memory is refused
pub refused : (old new : Shape) (note : Note) → IsOwe note → FitsShape old note → new ≡ old
    → StepsShape (Err NoMemory) old new note
refused old new note owe fits same = record {
  ok = tt;
  old_number = (λ e. cc, λ h. absurd (old-fits old note h fits));
  not_owed = (λ e. cc, λ h. absurd (lacks-fits old note h fits));
  count_full = (λ e. cc, λ h. absurd (overflows-fits old note h fits));
  no_memory = λ e. (owe, fits);
  unchanged = same;
}

-- An Owe that was taken.
pub owe-steps : (old : Shape) (marks : Marks) (key : ℕ) (token id : List ℕ) (taken : ℕ) (sizes : List Size)
    → FitsShape old (Owe key token id) → WithMarks (shape_marks old) marks key → taken ≡ old.taken + 1
    → sizes ≡ insert_entry nat_cmp old.sizes key (line_octets token id)
    → StepsShape (Ok tt) old (record old {
      mark = marks.mark;
      closed = marks.closed;
      import_mark = marks.import_mark;
      sizes = sizes;
      taken = taken;
    }) (Owe key token id)
owe-steps old marks key token id taken sizes fits with t s =
    stepped old (record old {
      mark = marks.mark;
      closed = marks.closed;
      import_mark = marks.import_mark;
      sizes = sizes;
      taken = taken;
    }) (Owe key token id) fits (
    let mark = with.mark in
    let closed = with.closed in
    let import_mark = with.import_mark in
    cc
    )

-- A Final that was taken.
pub final-steps : (old : Shape) (key answered : ℕ) (code : FinalCode) (sizes : List Size) → IsSized old key
    → old.answered + 1 < 2 ^ 64 → answered ≡ old.answered + 1 → sizes ≡ without_key key old.sizes
    → StepsShape (Ok tt) old (record old { sizes = sizes; answered = answered }) (Final key code)
final-steps old key answered code sizes owed fits a s =
    stepped old (record old { sizes = sizes; answered = answered }) (Final key code) (owed, fits)
    (ap (λ (l : List Size). record old { sizes = l; answered = answered }) s
    ∙ ap (λ (n : ℕ). record old { sizes = without_key key old.sizes; answered = n }) a)

-- A Drop that was taken.
pub drop-steps : (old : Shape) (key dropped : ℕ) (cause : Cause) (sizes : List Size) → IsSized old key
    → old.dropped + 1 < 2 ^ 64 → dropped ≡ old.dropped + 1 → sizes ≡ without_key key old.sizes
    → StepsShape (Ok tt) old (record old { sizes = sizes; dropped = dropped }) (Drop key cause)
drop-steps old key dropped cause sizes owed fits d s =
    stepped old (record old { sizes = sizes; dropped = dropped }) (Drop key cause) (owed, fits)
    (ap (λ (l : List Size). record old { sizes = l; dropped = dropped }) s
    ∙ ap (λ (n : ℕ). record old { sizes = without_key key old.sizes; dropped = n }) d)

-- a debt that is not owed can't end
pub final-stays : (old new : Shape) (key : ℕ) (code : FinalCode) → (IsSized old key → ⊥) → new ≡ old
    → StepsShape (Err NotOwed) old new (Final key code)
final-stays old new key code lacks same =
    stayed NotOwed old new (Final key code) (judged-lacks old (Final key code) lacks) same

pub drop-stays : (old new : Shape) (key : ℕ) (cause : Cause) → (IsSized old key → ⊥) → new ≡ old
    → StepsShape (Err NotOwed) old new (Drop key cause)
drop-stays old new key cause lacks same =
    stayed NotOwed old new (Drop key cause) (judged-lacks old (Drop key cause) lacks) same

-- two that stay
pub both-stay : (result : Result (Unit {0}) LedgerFault) (P Q : Type 0) → OnErr result P → OnErr result Q
    → OnErr result (P × Q)
both-stay (Ok done) P Q one other = tt
both-stay (Err fault) P Q one other = (one, other)
