-- Marks that rise.
use Rattle.std.proofs.Common.{◌≡◌, ℕ, zero, suc, ◌+◌, ◌<◌, List, [], ◌∷◌, length, refl, ap, ◌∙◌, arith}
use Rattle.std.proofs.Common.{Bool, false}
use Rattle.std.specs.Prelude.{nat_lt, if◌then◌else◌, slice_set, slice_index}
use Rattle.std.proofs.lemmas.Bool.Decides.{nat_tests}
use Rattle.flusher.specs.Marks.{rises}

below_itself : (m : ℕ) → nat_lt m m ≡ false
below_itself m = grind (arith, nat_tests)

abbrev one_if : Bool → ℕ
one_if b = if b then 1 else 0

not_below : (m : ℕ) → one_if (nat_lt m m) ≡ 0
not_below m = ap one_if (below_itself m)

-- a mark that stays was not raised
pub rises_same : (ms : List ℕ) → rises ms ms ≡ 0
rises_same [] = refl
rises_same (m ∷ ms) = let e = rises_same ms in omega (arith, e, not_below m)

-- one mark more was raised, which had not been touched before
pub rises_set : (old new : List ℕ) (k x : ℕ) → length new ≡ length old → k < length old
    → slice_index new k ≡ slice_index old k
    → rises old (slice_set new k x) ≡ rises old new + (if nat_lt (slice_index old k) x then 1 else 0)
rises_set [] new k x len within same = absurd (omega arith)
rises_set (m ∷ ms) [] k x len within same = absurd (omega arith)
rises_set (m ∷ ms) (n ∷ ns) zero x len within same =
    let e : one_if (nat_lt m n) ≡ 0 = ap (λ j. one_if (nat_lt m j)) same ∙ not_below m in
    omega (arith, e)
rises_set (m ∷ ms) (n ∷ ns) (suc k) x len within same =
    let e = rises_set ms ns k x (omega arith) (omega arith) same in
    omega (arith, e)
