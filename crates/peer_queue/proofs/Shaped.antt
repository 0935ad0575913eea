-- A front's places and the shape of its ledger: which notes are legal, and why one is refused.
use Rattle.std.proofs.Common.{◌≡◌, ◌==◌, ℕ, zero, suc, ◌+◌, ◌<◌, ◌≤◌, ◌^◌, Bool, true, false, cond}
use Rattle.std.proofs.Common.{Option, Some, None, List, [], ◌∷◌, length, refl, sym, ap, subst, arith}
use Rattle.std.specs.Prelude.{option_map}
use Rattle.std.specs.List.{All, Contains}
use Rattle.std.proofs.lemmas.List.{length-map}
use Rattle.std.proofs.lemmas.Bool.{eqb-true}
use Rattle.ledger_core.specs.Outline.{shape_in}
use Rattle.ledger_core.specs.Shape.{FitsShape, IsOldForShape, IsSized, Shape, ShapeLacksDebt, Size}
use Rattle.ledger_core.specs.Shape.{keys_sized, shape_marks, shape_step, shape_totals}
use Rattle.ledger_core.specs.ShapeLaws.{lacks-fits, old-fits, overflows-fits, valued-keys}
use Rattle.ledger_core.specs.State.{IsPast}
use Rattle.ledger_core.specs.declared.ledger.LedgerFault.{LedgerFault}
use Rattle.ledger_core.specs.declared.ledger.LedgerFault.TheVariants.{OldNumber, NotOwed, CountFull}
use Rattle.ledger_core.specs.declared.ledger.LedgerFault.TheVariants.{NoMemory as NoLedgerMemory}
use Rattle.ledger_core.specs.declared.ledger.Totals.{Totals}
use Rattle.ledger_core.specs.declared.note.Cause.TheVariants.{Limit}
use Rattle.ledger_core.specs.declared.note.Note.{Note}
use Rattle.ledger_core.specs.declared.note.Note.TheVariants.{Owe, Final, Drop, Seen, Closed}
use Rattle.ledger_core.specs.declared.outline.Outline.{Outline}
use Rattle.recovery.specs.Words.{IsNoteFault}
use Rattle.recovery.specs.declared.fault.TapeFault.{TapeFault}
use Rattle.recovery.specs.declared.fault.TapeFault.TheVariants.{Damaged, Disk, Broken, TapeFull, GenerationFull}
use Rattle.recovery.specs.declared.fault.TapeFault.TheVariants.{PendingFull}
use Rattle.recovery.specs.declared.fault.TapeFault.TheVariants.{NoMemory as NoTapeMemory, Note as RefusedNote}
use Rattle.peer_queue.specs.Faults.{IsOweFault, station_fault}
use Rattle.peer_queue.specs.DebtPlace.{AreUnheld, DebtPlace, IsHeldBy, IsUnheld, Places, Ready, all_gone, gone}
use Rattle.peer_queue.specs.DebtPlace.{is_held}
use Rattle.peer_queue.specs.DebtPlace.{place_at, placed, with_place}
use Rattle.peer_queue.specs.Shapes.{AllFit, RefusesByShape, shape_after}
use Rattle.peer_queue.specs.Shed.{dropped}
use Rattle.peer_queue.specs.Words.{IsEnd}
use Rattle.peer_queue.proofs.EndFaults.{held_placed}
use Rattle.peer_queue.proofs.Ends.{placed_shape}
use Rattle.peer_queue.proofs.Inserted.{same_with}

-- the keys that an outline has may be owed
pub past_outline : (outline : Outline) → All (IsPast (shape_marks (shape_in outline))) (keys_sized
    (shape_in outline).sizes)
past_outline outline =
    subst (All (IsPast (shape_marks (shape_in outline))))
    (sym (valued-keys (λ (part : ℕ × ℕ). part.1) outline.debts.entries)) outline.past

-- ---- a debt that is newly owed

pub placed_noted : (p : Places) (shape : Shape) (n : ℕ) (token id : List ℕ) → placed p ≡ keys_sized shape.sizes
    → placed (with_place p n Ready) ≡ keys_sized (shape_step shape (Owe n token id)).sizes
placed_noted p shape n token id same = same_with p shape.sizes n Ready (length token + length id + 2) same

-- ---- a debt that ends

some_sized : (sizes : List Size) (n : ℕ) → Contains (keys_sized sizes) n → 0 < length sizes
some_sized sizes n has = omega (arith, has.1, length-map sizes (λ (size : Size). size.0))

-- if a debt is owed, less than all that was taken has ended
end_fits : (shape : Shape) (note : Note) (n : ℕ) → IsEnd note n → IsSized shape n
    → shape.taken ≡ length shape.sizes + shape.answered + shape.dropped → shape.taken < 2 ^ 64 → FitsShape shape note
end_fits shape (Owe other token id) n end owed sum fits = absurd end
end_fits shape (Final other code) n end owed sum fits =
    (subst (λ (m : ℕ). IsSized shape m) (sym end) owed, omega (arith, sum, fits, some_sized shape.sizes n owed))
end_fits shape (Drop other cause) n end owed sum fits =
    (subst (λ (m : ℕ). IsSized shape m) (sym end) owed, omega (arith, sum, fits, some_sized shape.sizes n owed))
end_fits shape (Seen other) n end owed sum fits = absurd end
end_fits shape (Closed source) n end owed sum fits = absurd end

-- by what is counted if a connection holds the debt
pub held_fits : (p : Places) (shape : Shape) (note : Note) (c n : ℕ) (totals : Totals) → IsEnd note n
    → placed p ≡ keys_sized shape.sizes → IsHeldBy p c n → totals ≡ shape_totals shape
    → totals.taken ≡ totals.owed + totals.answered + totals.dropped → totals.taken < 2 ^ 64 → FitsShape shape note
held_fits p shape note c n totals end same held counts sum fits =
    let both : (shape.taken ≡ length shape.sizes + shape.answered + shape.dropped) × (shape.taken < 2 ^ 64) =
    subst (λ (t : Totals). (t.taken ≡ t.owed + t.answered + t.dropped) × (t.taken < 2 ^ 64)) counts (sum, fits) in
    end_fits shape note n end (subst (λ (l : List ℕ). Contains l n) same (held_placed p c n held)) both.0 both.1

-- ---- why a note is refused

refused_shape : (shape : Shape) (note : Note) → (IsOldForShape shape note → ⊥) → (ShapeLacksDebt shape note → ⊥)
    → (fault : LedgerFault) → RefusesByShape shape note fault → fault ≡ CountFull
refused_shape shape note new owed OldNumber refused = absurd (new refused)
refused_shape shape note new owed NotOwed refused = absurd (owed refused)
refused_shape shape note new owed CountFull refused = refl
refused_shape shape note new owed NoLedgerMemory refused = absurd refused

-- one that is not old, and lacks no debt, is refused only for a count
pub shape_fault : (shape : Shape) (note : Note) → (IsOldForShape shape note → ⊥) → (ShapeLacksDebt shape note → ⊥)
    → (fault : TapeFault) → IsNoteFault fault
    → ((other : LedgerFault) → fault ≡ RefusedNote other → RefusesByShape shape note other)
    → IsOweFault (station_fault fault)
shape_fault shape note new owed (Damaged segment at) kind why = kind
shape_fault shape note new owed Disk kind why = kind
shape_fault shape note new owed Broken kind why = tt
shape_fault shape note new owed TapeFull kind why = kind
shape_fault shape note new owed GenerationFull kind why = kind
shape_fault shape note new owed PendingFull kind why = tt
shape_fault shape note new owed NoTapeMemory kind why = tt
shape_fault shape note new owed (RefusedNote other) kind why = refused_shape shape note new owed other (why other refl)

-- no legal note is refused by the ledger
none_refused : (shape : Shape) (note : Note) (fault : LedgerFault) → FitsShape shape note
    → RefusesByShape shape note fault → ⊥
none_refused shape note OldNumber fits refused = old-fits shape note refused fits
none_refused shape note NotOwed fits refused = lacks-fits shape note refused fits
none_refused shape note CountFull fits refused = overflows-fits shape note refused fits
none_refused shape note NoLedgerMemory fits refused = refused

-- ---- what is shed

-- if none of these is held, each has a place
unheld_at : (p : Places) (n : ℕ) → IsUnheld p n → (place : DebtPlace) × (place_at p n ≡ Some place)
unheld_at p n unheld = on (place_at p n) refl unheld
  where
    on : (o : Option DebtPlace) → place_at p n ≡ o → option_map is_held o ≡ Some false
        → (place : DebtPlace) × (place_at p n ≡ Some place)
    on None is none = absurd (cc)
    on (Some place) is some = (place, is)

contains_first : (n first : ℕ) (others : List ℕ) → first ≡ n → Contains (first ∷ others) n
contains_first n first others same = (zero, omega arith, same)

contains_later : (n first : ℕ) (others : List ℕ) → Contains others n → Contains (first ∷ others) n
contains_later n first others has = (suc has.0, omega (arith, has.1), has.2)

at_placed : (p : Places) (n : ℕ) (place : DebtPlace) → place_at p n ≡ Some place → Contains (placed p) n
at_placed [] n place is = absurd (cc)
at_placed (e ∷ p) n place is = on (e.0 == n) refl is (λ there. at_placed p n place there)
  where
    on : (b : Bool) → (e.0 == n) ≡ b → cond b (Some e.1) (place_at p n) ≡ Some place
        → (place_at p n ≡ Some place → Contains (placed p) n) → Contains (e.0 ∷ placed p) n
    on true same here rest = contains_first n e.0 (placed p) (eqb-true e.0 n same)
    on false same there rest = contains_later n e.0 (placed p) (rest there)

-- fewer have a place without one that has
gone_within : (p : Places) (n : ℕ) → length (gone p n) ≤ length p
gone_within [] n = omega arith
gone_within (e ∷ p) n = on (e.0 == n) (gone_within p n)
  where
    on : (b : Bool) → length (gone p n) ≤ length p
        → length (cond (cond b false true) (e ∷ gone p n) (gone p n)) ≤ length (e ∷ p)
    on true less = omega (arith, less)
    on false less = omega (arith, less)

gone_fewer : (p : Places) (n : ℕ) (place : DebtPlace) → place_at p n ≡ Some place → length (gone p n) < length p
gone_fewer [] n place is = absurd (cc)
gone_fewer (e ∷ p) n place is = on (e.0 == n) is (λ there. gone_fewer p n place there)
  where
    on : (b : Bool) → cond b (Some e.1) (place_at p n) ≡ Some place
        → (place_at p n ≡ Some place → length (gone p n) < length p)
        → length (cond (cond b false true) (e ∷ gone p n) (gone p n)) < length (e ∷ p)
    on true here rest = omega (arith, gone_within p n)
    on false there rest = omega (arith, rest there)

-- the drops of debts that none holds are legal, one after another
all_fit : (p : Places) (shape : Shape) (ns : List ℕ) → placed p ≡ keys_sized shape.sizes → AreUnheld p ns
    → shape.dropped + length p < 2 ^ 64 → AllFit shape (dropped ns)
all_fit p shape [] same unheld fits = tt
all_fit p shape (n ∷ ns) same unheld fits =
    let at = unheld_at p n unheld.0 in
    let fewer = gone_fewer p n at.0 at.1 in (
      (subst (λ (l : List ℕ). Contains l n) same (at_placed p n at.0 at.1), omega (arith, fits, fewer)),
      all_fit (gone p n) (shape_step shape (Drop n Limit)) ns (placed_shape p shape (Drop n Limit) n refl same) unheld.1
          (omega (arith, fits, fewer)),
    )

pub drops_fit : (p : Places) (shape : Shape) (ns : List ℕ) (totals : Totals) → placed p ≡ keys_sized shape.sizes
    → AreUnheld p ns → totals ≡ shape_totals shape → totals.taken ≡ totals.owed + totals.answered + totals.dropped
    → totals.taken < 2 ^ 64 → AllFit shape (dropped ns)
drops_fit p shape ns totals same unheld counts sum fits =
    let both : (shape.taken ≡ length shape.sizes + shape.answered + shape.dropped) × (shape.taken < 2 ^ 64) =
    subst (λ (t : Totals). (t.taken ≡ t.owed + t.answered + t.dropped) × (t.taken < 2 ^ 64)) counts (sum, fits) in
    all_fit p shape ns same unheld (omega (
      arith,
      both.0,
      both.1,
      length-map p (λ (entry : ℕ × DebtPlace). entry.0),
      length-map shape.sizes (λ (size : Size). size.0),
      ap (λ (l : List ℕ). length l) same,
    ))

-- and the others keep their places
pub placed_after : (p : Places) (shape : Shape) (ns : List ℕ) → placed p ≡ keys_sized shape.sizes
    → placed (all_gone p ns) ≡ keys_sized (shape_after shape (dropped ns)).sizes
placed_after p shape [] same = same
placed_after p shape (n ∷ ns) same =
    placed_after (gone p n) (shape_step shape (Drop n Limit)) ns (placed_shape p shape (Drop n Limit) n refl same)
