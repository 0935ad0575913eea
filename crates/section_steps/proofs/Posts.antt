-- What is done at a station, in a post; and what stays true there meanwhile.
use Rattle.std.proofs.Common.{◌≡◌, ℕ, zero, suc, ◌≤◌, Bool, true, true≢false, Some, List}
use Rattle.std.proofs.Common.{[], ◌∷◌, ◌++◌, length, refl, sym, ap, ◌∙◌, subst, arith, append_assoc, append-nil}
use Rattle.std.proofs.Common.{length-append}
use Rattle.std.proofs.Math.ListN.{set}
use Rattle.std.specs.List.{slice_get}
use Rattle.sections.specs.Post.{PostPast, StationPast, with_station}
use Rattle.sections.specs.Sections.{Call, OfStation, OfTape, Runs, Section}
use Rattle.sections.specs.Sections.Does.{At_station}
use Rattle.sections.specs.Sections.OfStation.{Is_called, Is_cut_off, Is_learnt, Is_noted, Is_opened, Is_pulled, Is_sent}
use Rattle.sections.specs.Sections.OfTape.{Is_cut, Is_put, Is_read}
use Rattle.sections.specs.Sections.Runs.{Next}
use Rattle.sections.specs.Tapes.{TapePast}
use Rattle.section_steps.specs.Steps.{DoAll}

-- ---- an element of a list

module _ {A : Type 0} where
  pub set_same : (xs : List A) (k : ℕ) (x : A) → slice_get xs k ≡ Some x → set xs k x ≡ xs
  set_same [] k x here = refl
  set_same (y ∷ xs) zero x here = let is : x ≡ y = cc in ap (λ (z : A). z ∷ xs) is
  set_same (y ∷ xs) (suc k) x here = ap (λ (l : List A). y ∷ l) (set_same xs k x here)

  pub set_twice : (xs : List A) (k : ℕ) (x y : A) → set (set xs k x) k y ≡ set xs k y
  set_twice [] k x y = refl
  set_twice (z ∷ xs) zero x y = refl
  set_twice (z ∷ xs) (suc k) x y = ap (λ (l : List A). z ∷ l) (set_twice xs k x y)

  pub get_put : (xs : List A) (k : ℕ) (x y : A) → slice_get xs k ≡ Some x → slice_get (set xs k y) k ≡ Some y
  get_put [] k x y here = absurd cc
  get_put (z ∷ xs) zero x y here = refl
  get_put (z ∷ xs) (suc k) x y here = get_put xs k x y here

-- ---- sections at a station are sections of a run

-- the station is replaced twice
put_twice : (past : PostPast) (rank : ℕ) (next now : StationPast)
    → with_station (with_station past rank next) rank now ≡ with_station past rank now
put_twice past rank next now = ap (λ (l : List StationPast). record past { stations = l })
    (set_twice past.stations rank next now)

pub run_on : (begun past : PostPast) (done more : List Section) (rank : ℕ) (was now : StationPast)
    → Runs begun done past → slice_get past.stations rank ≡ Some was → DoAll past.last rank was more now
    → Runs begun (done ++ more) (with_station past rank now)
run_on begun past done [] rank was now runs here same =
    let stays : with_station past rank now ≡ past =
    ap (λ (l : List StationPast). record past { stations = l })
    (ap (set past.stations rank) same ∙ set_same past.stations rank was here) in
    subst (λ (p : PostPast). Runs begun (done ++ []) p) (sym stays)
    (subst (λ (l : List Section). Runs begun l past) (sym (append-nil done)) runs)
run_on begun past done (section ∷ more) rank was now runs here (next, does, rest) =
    let mid : PostPast = with_station past rank next in
    let one : Runs begun (done ++ section ∷ []) mid =
    Next done section past mid runs (At_station section rank was next here does) in
    let all = run_on begun mid (done ++ section ∷ []) more rank next now one (get_put past.stations rank was next here)
    rest in
    subst (λ (l : List Section). Runs begun l (with_station past rank now)) (append_assoc done (section ∷ []) more)
    (subst (Runs begun ((done ++ section ∷ []) ++ more)) (put_twice past rank next now) all)

-- ---- what stays true while a station runs

pub record StaysTrue (was now : StationPast) : Type 0 where
  pub runs : now.runs ≡ true
  pub opened : now.tape.history.opened ≡ was.tape.history.opened
  pub kept : was.tape.history.kept ≤ now.tape.history.kept
  pub settled : was.settled ≤ now.settled
  pub broken : was.tape.broken ≡ true → now.tape.broken ≡ true
  pub within : now.tape.history.kept ≤ length now.tape.history.notes

call_true : (was : StationPast) (now : TapePast) (call : Call) → OfTape was.tape true call now → was.runs ≡ true
    → was.tape.history.kept ≤ length was.tape.history.notes → StaysTrue was (record was { tape = now })
call_true was now call (Is_put tape put) runs within =
    let opened = ap (λ (t : TapePast). t.history.opened) put.all in
    let kept = ap (λ (t : TapePast). t.history.kept) put.all in
    let notes = ap (λ (t : TapePast). length t.history.notes) put.all in
    record {
      runs = runs;
      opened = opened;
      kept = omega (arith, kept, within);
      settled = omega arith;
      broken = λ broken. absurd (true≢false (sym broken ∙ put.worked));
      within = omega (arith, kept, notes);
    }
call_true was now call (Is_cut tape cut) runs within =
    let kept = ap (λ (t : TapePast). t.history.kept) cut.all in
    let notes = ap (λ (t : TapePast). length t.history.notes) cut.all in
    record {
      runs = runs;
      opened = ap (λ (t : TapePast). t.history.opened) cut.all;
      kept = omega (arith, kept);
      settled = omega arith;
      broken = λ broken. ap (λ (t : TapePast). t.broken) cut.all;
      within = omega (arith, kept, notes, within);
    }
call_true was now call (Is_read tape read) runs within =
    let kept = ap (λ (t : TapePast). t.history.kept) read.all in
    let notes = ap (λ (t : TapePast). length t.history.notes) read.all in
    record {
      runs = runs;
      opened = ap (λ (t : TapePast). t.history.opened) read.all;
      kept = omega (arith, kept);
      settled = omega arith;
      broken = λ broken. ap (λ (t : TapePast). t.broken) read.all ∙ broken;
      within = omega (arith, kept, notes, within);
    }

-- nothing but what a front keeps has changed, or notes were added to the tape
pub stays_by : (was now : StationPast) → now.runs ≡ true → now.tape.history.opened ≡ was.tape.history.opened
    → now.tape.history.kept ≡ was.tape.history.kept → was.settled ≤ now.settled → now.tape.broken ≡ was.tape.broken
    → length was.tape.history.notes ≤ length now.tape.history.notes
    → was.tape.history.kept ≤ length was.tape.history.notes → StaysTrue was now
stays_by was now runs opened kept settled broken more within = record {
  runs = runs;
  opened = opened;
  kept = omega (arith, kept);
  settled = settled;
  broken = λ is. broken ∙ is;
  within = omega (arith, kept, more, within);
}

one_true : (last rank : ℕ) (was now : StationPast) (section : Section) → OfStation last was section rank now
    → was.runs ≡ true → was.tape.history.kept ≤ length was.tape.history.notes → StaysTrue was now
one_true last rank was now section (Is_noted at note running works above) runs within =
    stays_by was now runs refl refl (omega arith) refl (omega arith) within
one_true last rank was now section (Is_sent at note rest first) runs within =
    stays_by was now runs refl refl (omega arith) refl (omega arith) within
one_true last rank was now section (Is_pulled at note rest works first) runs within =
    stays_by was now runs refl refl (omega arith) refl
    (omega (arith, length-append was.tape.history.notes (note ∷ []))) within
one_true last rank was now section (Is_called at call tape does) runs within =
    call_true was tape call (subst (λ (b : Bool). OfTape was.tape b call tape) runs does) runs within
one_true last rank was now section (Is_learnt at count running kept) runs within =
    stays_by was now runs refl refl (omega arith) refl (omega arith) within
one_true last rank was now section (Is_cut_off at broken) runs within =
    stays_by was now runs refl refl (omega arith) refl (omega arith) within
one_true last rank was now section (Is_opened at tape stopped opens) runs within =
    absurd (true≢false (sym runs ∙ stopped))

pub all_true : (last rank : ℕ) (was now : StationPast) (sections : List Section) → DoAll last rank was sections now
    → was.runs ≡ true → was.tape.history.kept ≤ length was.tape.history.notes → StaysTrue was now
all_true last rank was now [] same runs within =
    subst (StaysTrue was) (sym same)
    (stays_by was was runs refl refl (omega arith) refl (omega arith) within)
all_true last rank was now (section ∷ more) (next, does, rest) runs within =
    let one = one_true last rank was next section does runs within in
    let all = all_true last rank next now more rest one.runs one.within in
    record {
      runs = all.runs;
      opened = all.opened ∙ one.opened;
      kept = omega (arith, one.kept, all.kept);
      settled = omega (arith, one.settled, all.settled);
      broken = λ is. all.broken (one.broken is);
      within = all.within;
    }
