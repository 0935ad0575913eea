-- All notes of a ledger, read back.
use Rattle.std.proofs.Common.{◌≡◌, ◌+◌, ◌<◌, ◌++◌, ◌∷◌, [], ℕ, zero, suc, Err, List, length, get_or, take, Some, refl}
use Rattle.std.proofs.Common.{sym, ap, ◌∙◌, subst, arith}
use Rattle.std.proofs.lemmas.List.{get_or_default, map_push, take_more}
use Rattle.std.proofs.lemmas.Result.{err_from_is_err_and}
use Rattle.std.specs.Prelude.{Result}
use Rattle.std.specs.List.Sorted.{IsStrictlyIncreasing}
use Rattle.tape_journal.specs.Gathered.{Gathers}
use Rattle.tape_journal.specs.Segment.{IsShort}
use Rattle.tape_journal.specs.declared.gathered.Gathered.{Gathered}
use Rattle.tape_journal.specs.declared.fault.GatherFault.{GatherFault}
use Rattle.tape_journal.specs.declared.fault.GatherFault.TheVariants.{NoMemory, PayloadTooLong}
use Rattle.ledger_core.specs.declared.ledger.Ledger.{Ledger}
use Rattle.ledger_core.specs.declared.spot.Spot.{Spot}
use Rattle.ledger_core.specs.Base.{base_spelling, owe, owes}
use Rattle.ledger_core.specs.Index.{IsSpotOf, debt_at, spots_of}
use Rattle.ledger_core.specs.IndexLaws.{spots-at, spots-length}
use Rattle.ledger_core.specs.Ledger.{state_of}
use Rattle.ledger_core.specs.Note.{AreNotes, IsNote}
use Rattle.ledger_core.specs.Spelling.{spelling, spellings}
use Rattle.ledger_core.specs.SpellingLaws.{spellings-append}
use Rattle.ledger_core.specs.State.{Owing, keys}
use Rattle.ledger_core.specs.Written.{base_of}
use Rattle.recovery.specs.Words.{gather_fault, generation_of, ledger_of}
use Rattle.recovery.specs.declared.fault.TapeFault.{TapeFault}
use Rattle.recovery.specs.declared.fault.TapeFault.TheVariants.{Disk}
use Rattle.recovery.proofs.Readings.{read_none, read_then}
use Rattle.recovery.proofs.Rotates.{owes_notes}
use Rattle.recovery.proofs.Stands.{note_short}
use Rattle.recovery.proofs.tape.Tape.read_each.Goals as goal

-- the spot of the debt in its place
spot_here : (ledger : Ledger) (spots : List (ℕ × Spot)) (k : ℕ) (d : ℕ × Spot) (e : Owing) → spots ≡ spots_of ledger
    → IsStrictlyIncreasing (keys (state_of ledger)) → k < length spots
    → IsSpotOf ledger (get_or spots k d).0 (get_or spots k d).1
    × (debt_at (state_of ledger) (get_or spots k d).0 ≡ Some (get_or (state_of ledger).debts k e))
spot_here ledger spots k d e same rising within =
    subst (λ (l : List (ℕ × Spot)). IsSpotOf ledger (get_or l k d).0 (get_or l k d).1
    × (debt_at (state_of ledger) (get_or l k d).0 ≡ Some (get_or (state_of ledger).debts k e))) (sym same)
    (spots-at ledger k d e rising (subst (λ (l : List (ℕ × Spot)). k < length l) same within))

pub note_at-requires-clause-spot : goal.note_at-requires-clause-spot
note_at-requires-clause-spot g c =
    let spots = c.args.spots.now in
    let k = c.loop-index.index in
    let d : ℕ × Spot = c.index-spots-index.result in
    let e : ℕ × Spot = c.index-spots-index-in-loop-index.result in
    subst (λ (l : Ledger). IsSpotOf l (get_or spots k d).0 (get_or spots k e).1)
    (sym c.loop-index.invariant.reads.ledger)
    (subst (λ (s : ℕ × Spot). IsSpotOf c.args.self.now.ledger (get_or spots k d).0 s.1)
    (get_or_default spots k d e c.loop-index-test.true)
    (spot_here c.args.self.now.ledger spots k d (0, ([], [])) c.requires.spots c.requires.rising
    c.loop-index-test.true).0)

one_more : (base : List ℕ) (debts : List Owing) (k : ℕ) (e : Owing) → k < length debts
    → base ∷ spellings (owes (take (k + 1) debts)) ≡ (base ∷ spellings (owes (take k debts))) ++ spelling
    (owe (get_or debts k e)) ∷ []
one_more base debts k e within =
    ap (λ (l : List Owing). base ∷ spellings (owes l)) (take_more debts k e within)
    ∙ ap (λ l. base ∷ spellings l) (map_push owe (take k debts) (get_or debts k e))
    ∙ ap (λ (l : List (List ℕ)). base ∷ l) (spellings-append (owes (take k debts)) (owe (get_or debts k e) ∷ []))

pub loop-index-preserved : goal.loop-index-preserved
loop-index-preserved g c =
    let tape = c.args.self.now in
    let loop = c.loop-index in
    let was = loop.invariant in
    let d : ℕ × Spot = c.index-spots-index.result in
    let e : Owing = (0, ([], [])) in
    let base = base_spelling (base_of (generation_of tape + 1) (ledger_of tape)) in
    let debts = (ledger_of tape).debts in
    let here = spot_here tape.ledger c.args.spots.now loop.index d e c.requires.spots c.requires.rising
    c.loop-index-test.true in
    let within : loop.index < length debts =
    omega (arith, c.loop-index-test.true, ap length c.requires.spots, spots-length tape.ledger) in
    record {
      reads = read_then tape loop.self c.note_at.new.self was.reads c.note_at.ensures.reads;
      quiet = c.in-Ok.ensures.quiet ∙ was.quiet;
      some = omega (arith, was.some, c.in_ok-push-2.ensures.len);
      written = λ h stands.
          let found : debt_at (ledger_of loop.self) (get_or c.args.spots.now loop.index d).0 ≡ Some
          (get_or debts loop.index e) =
          subst (λ (l : Ledger). debt_at (state_of l) (get_or c.args.spots.now loop.index d).0 ≡ Some
          (get_or debts loop.index e)) (sym was.reads.ledger) here.1 in
          let read = c.in-Ok.ensures.note h (was.reads.stands h stands) (get_or debts loop.index e) found in
          let so_far = base ∷ spellings (owes (take loop.index debts)) in
          subst (Gathers c.push-in-loop-index.new.self)
          (ap (λ (p : List ℕ). so_far ++ p ∷ []) (c.deref-in-loop-index.ensures.value ∙ read)
          ∙ sym (one_more base debts loop.index e within))
          (c.in_ok-push-2.ensures.ok so_far (was.written h stands));
    }

pub loop-index-init : goal.loop-index-init
loop-index-init g c = record {
  reads = read_none c.args.self.now;
  quiet = refl;
  some = omega (arith, c.in_ok-push.ensures.len);
  written = λ h stands. subst (Gathers c.push.new.self)
      (ap (λ (p : List ℕ). p ∷ []) (c.deref.ensures.value
      ∙ (c.in_ok-encode_base.ensures.octets ∙ ap base_spelling c.base-base.ensures)))
      (c.in_ok-push.ensures.ok [] c.in_ok-gathered.ensures.ok);
}

notes_at : (debts : List Owing) (k : ℕ) (e : Owing) → AreNotes (owes debts) → k < length debts
    → IsNote (owe (get_or debts k e))
notes_at [] k e are within = absurd (omega arith)
notes_at (debt ∷ debts) zero e are within = are.0
notes_at (debt ∷ debts) (suc k) e are within = notes_at debts k e are.1 (omega arith)

-- if a fault of the disk is reported for a payload that was not gathered, it was too long
is_too_long : (fault : GatherFault) (e : TapeFault) (r : Result Gathered TapeFault) → r ≡ Err e → e ≡ gather_fault fault
    → r ≡ Err Disk → fault ≡ PayloadTooLong
is_too_long PayloadTooLong e r is from told = refl
is_too_long NoMemory e r is from told = absurd (cc (is, from, told))

-- no note is too long
pub returns-in_err-push-2-clause-cause : goal.returns-in_err-push-2-clause-cause
returns-in_err-push-2-clause-cause g c = λ h stands told.
    let tape = c.args.self.now in
    let loop = c.loop-index in
    let was = loop.invariant in
    let d : ℕ × Spot = c.index-spots-index.result in
    let e : Owing = (0, ([], [])) in
    let debts = (ledger_of tape).debts in
    let here = spot_here tape.ledger c.args.spots.now loop.index d e c.requires.spots c.requires.rising
    c.loop-index-test.true in
    let within : loop.index < length debts =
    omega (arith, c.loop-index-test.true, ap length c.requires.spots, spots-length tape.ledger) in
    let found : debt_at (ledger_of loop.self) (get_or c.args.spots.now loop.index d).0 ≡ Some
    (get_or debts loop.index e) =
    subst (λ (l : Ledger). debt_at (state_of l) (get_or c.args.spots.now loop.index d).0 ≡ Some
    (get_or debts loop.index e)) (sym was.reads.ledger) here.1 in
    let read = c.in-Ok.ensures.note h (was.reads.stands h stands) (get_or debts loop.index e) found in
    let short : IsShort c.deref-in-loop-index.result.now =
    subst IsShort (sym (c.deref-in-loop-index.ensures.value ∙ read))
    (note_short (owe (get_or debts loop.index e)) (notes_at debts loop.index e (owes_notes tape h stands) within)) in
    let from = err_from_is_err_and c.from_residual-in_err-push-2.result c.from_residual-in_err-push-2.ensures.1 in
    absurd (c.in_err-push-2.ensures.too_long.0 (ap Err
    (is_too_long c.in_err-push-2.field-0.0 from.0 c.from_residual-in_err-push-2.result from.1 from.2 told)) short)
