-- The debt of a number, and the numbers that have a place.
use Rattle.std.proofs.Common.{◌≡◌, ◌==◌, ℕ, zero, Bool, true, false, cond, Option, Some, None, List, [], ◌∷◌, get_or, refl, sym, ap, ◌∙◌, subst, inl, inr, arith}
use Rattle.std.specs.Prelude.{Err, Ok, OnErr, OnOk, Result, find, option_map}
use Rattle.std.specs.List.{Contains}
use Rattle.std.proofs.lemmas.Bool.{eqb-true, eqb-false}
use Rattle.std.proofs.lemmas.List.Elements.{Contains-append_right, Contains-append_cases}
use Rattle.ledger_core.specs.Index.{debt_at}
use Rattle.ledger_core.specs.State.{Owing, State, keys_in}
use Rattle.recovery.specs.Texts.{HasLengths, lengths_of}
use Rattle.peer_queue.specs.DebtPlace.{DebtPlace, Held, Places, is_candidate, least_candidate, moved, placed}
use Rattle.peer_queue.proofs.Ends.{placed-moved}

-- ---- in lists

pub Contains-head : {X : Type 0} (x : X) (xs : List X) → Contains (x ∷ xs) x
Contains-head x xs = (zero, omega arith, refl)

pub Contains-tail : {X : Type 0} (x : X) (xs : List X) (y : X) → Contains xs y → Contains (x ∷ xs) y
Contains-tail x xs y has = Contains-append_right (x ∷ []) xs y has

-- ---- the debt of a number

find_step : (n : ℕ) (debt d : Owing) (debts : List Owing) (b : Bool) → (debt.0 == n) ≡ b → (find (λ (owing : Owing). owing.0 == n) debts ≡ Some d → (d.0 ≡ n) × Contains debts d)
    → cond b (Some debt) (find (λ (owing : Owing). owing.0 == n) debts) ≡ Some d → (d.0 ≡ n) × Contains (debt ∷ debts) d
find_step n debt d debts true e rest is =
    let same : debt ≡ d = cc in
    (sym (ap (λ (owing : Owing). owing.0) same) ∙ eqb-true debt.0 n e, subst (λ (x : Owing). Contains (debt ∷ debts) x) same (Contains-head debt debts))
find_step n debt d debts false e rest is = let found = rest is in (found.0, Contains-tail debt debts d found.1)

-- the debt that is found has the number, and is owed
pub found_debt : (n : ℕ) (debts : List Owing) (d : Owing) → find (λ (owing : Owing). owing.0 == n) debts ≡ Some d → (d.0 ≡ n) × Contains debts d
found_debt n [] d is = absurd (cc)
found_debt n (debt ∷ debts) d is = find_step n debt d debts (debt.0 == n) refl (λ there. found_debt n debts d there) is

missing_step : (n : ℕ) (debt : Owing) (debts : List Owing) (b : Bool) → (debt.0 == n) ≡ b → (find (λ (owing : Owing). owing.0 == n) debts ≡ None → Contains (keys_in debts) n → ⊥)
    → cond b (Some debt) (find (λ (owing : Owing). owing.0 == n) debts) ≡ None → Contains (debt.0 ∷ keys_in debts) n → ⊥
missing_step n debt debts true e rest is has = cc
missing_step n debt debts false e rest is has = elim (Contains-append_cases (debt.0 ∷ []) (keys_in debts) n has) [
  | inl here ↦ eqb-false debt.0 n e (only debt.0 n here)
  | inr there ↦ rest is there
]
  where
    only : (x y : ℕ) → Contains (x ∷ []) y → x ≡ y
    only x y (k, inside, at) = let first : k ≡ 0 = omega (arith, inside) in subst (λ (j : ℕ). get_or (x ∷ []) j y ≡ y) first at

-- if none is found, the number is not owed
pub missing_debt : (n : ℕ) (debts : List Owing) → find (λ (owing : Owing). owing.0 == n) debts ≡ None → Contains (keys_in debts) n → ⊥
missing_debt n [] is (k, inside, at) = omega (arith, inside)
missing_debt n (debt ∷ debts) is has = missing_step n debt debts (debt.0 == n) refl (λ none there. missing_debt n debts none there) is has

lengths_number : (n : ℕ) (debts : List Owing) (d : Owing) (o : Option Owing) → find (λ (owing : Owing). owing.0 == n)
    debts ≡ o
    → option_map lengths_of (Some d) ≡ option_map lengths_of o → d.0 ≡ n
lengths_number n debts d None found same = cc same
lengths_number n debts d (Some debt) found same =
    let both : lengths_of d ≡ lengths_of debt = cc same in
    let number : d.0 ≡ debt.0 = ap (λ (x : ℕ × (ℕ × ℕ)). x.0) both in
    number ∙ (found_debt n debts debt found).0

-- what was read of a number has that number
pub read_number : (state : State) (n : ℕ) (d : Owing) → HasLengths state n (Some d) → d.0 ≡ n
read_number state n d same = lengths_number n state.debts d (debt_at state n) refl same

-- ---- the number that may be claimed

placed_step : (n : ℕ) (e : ℕ × DebtPlace) (p : Places) (found : Option (ℕ × DebtPlace)) (b : Bool) → (option_map (λ (entry : ℕ × DebtPlace). entry.0) found ≡ Some n → Contains (placed p) n)
    → option_map (λ (entry : ℕ × DebtPlace). entry.0) (cond b (Some e) found) ≡ Some n → Contains (e.0 ∷ placed p) n
placed_step n e p found true rest is =
    let same : e.0 ≡ n = cc in
    subst (λ (m : ℕ). Contains (e.0 ∷ placed p) m) same (Contains-head e.0 (placed p))
placed_step n e p found false rest is = Contains-tail e.0 (placed p) n (rest is)

-- it has a place
pub candidate_placed : (now n : ℕ) (p : Places) → least_candidate now p ≡ Some n → Contains (placed p) n
candidate_placed now n [] is = absurd (cc)
candidate_placed now n (e ∷ p) is = placed_step n e p (find (λ (entry : ℕ × DebtPlace). is_candidate now entry.1) p) (is_candidate now e.1) (λ there. candidate_placed now n p there) is

-- the same numbers have a place, whether a connection holds one of them from now on or memory was refused
pub placed_hold : {T E : Type 0} (result : Result T E) (old new : Places) (n c : ℕ) → OnOk result (new ≡ moved old n (Held c)) → OnErr result (new ≡ old) → placed new ≡ placed old
placed_hold (Ok t) old new n c ok err = ap placed ok ∙ placed-moved old n (Held c)
placed_hold (Err e) old new n c ok err = ap placed err
