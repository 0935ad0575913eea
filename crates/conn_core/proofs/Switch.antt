-- The check switch, computed from the last of the counted answers alone.
use Rattle.std.proofs.Common.{◌≡◌, ℕ, suc, zero, ◌<◌, ◌≤◌, Bool, true, false, List, [], ◌∷◌, ◌++◌, length, refl, sym, ap, ◌∙◌, arith, take, inl, inr}
use Rattle.std.specs.Prelude.{◌==◌, ◌&&◌, ◌||◌, not, ◌⊎◌, nat_le, if◌then◌else◌}
use Rattle.std.proofs.lemmas.Bool.{le-leb, cases_lt}
use Rattle.std.proofs.lemmas.List.{take-take, take_all, length-take-le}
use Rattle.conn_core.specs.Checks.{counts, is_high, is_low, are_off}
use Rattle.conn_core.specs.State.{State}
use Rattle.conn_core.specs.Machine.{are_off_with, counted_by}
use Rattle.conn_core.specs.declared.options.Options.{Options}

take-cons_take : (n : ℕ) (x : Bool) (xs : List Bool) → take n (x ∷ take n xs) ≡ take n (x ∷ xs)
take-cons_take zero x xs = refl
take-cons_take (suc n) x xs = ap (λ ys. x ∷ ys) (take-take n (suc n) xs (omega arith))

enough-step : (n : ℕ) (xs : List Bool) → (length xs < n) ⊎ (n ≤ length xs) → nat_le n (length (take n xs)) ≡ nat_le n (length xs)
enough-step n xs (inl few) = rw (take_all n xs (omega arith)) refl
enough-step n xs (inr many) = le-leb n (length (take n xs)) (omega (arith, length-take-le n xs many)) ∙ sym (le-leb n (length xs) many)

enough : (n : ℕ) (xs : List Bool) → nat_le n (length (take n xs)) ≡ nat_le n (length xs)
enough n xs = enough-step n xs (cases_lt (length xs) n)

high-last : (options : Options) (xs : List Bool) → is_high options (take options.check_filter xs) ≡ is_high options xs
high-last options xs = rw (take-take options.check_filter options.check_filter xs (omega arith)) refl

low-last : (options : Options) (xs : List Bool) → is_low options (take options.check_filter xs) ≡ is_low options xs
low-last options xs = rw (take-take options.check_filter options.check_filter xs (omega arith)) refl

-- the newest answers, as many as the share is taken over, decide
off-last : (options : Options) (xs : List Bool) (off : Bool) → are_off_with options off (take options.check_filter xs) ≡ are_off_with options off xs
off-last options xs off =
    let e = enough options.check_filter xs in
    let g = high-last options xs in
    let k = low-last options xs in
    let last : List Bool = take options.check_filter xs in
    ap (λ b. b && (is_high options last || (not (is_low options last) && off))) e
    ∙ ap (λ b. nat_le options.check_filter (length xs) && (b || (not (is_low options last) && off))) g
    ∙ ap (λ b. nat_le options.check_filter (length xs) && (is_high options xs || (not b && off))) k

-- an answer counts as one answer or none
pub counts_one : (code : ℕ) → (counts code ≡ []) ⊎ ((answer : Bool) × (counts code ≡ answer ∷ []))
counts_one code = by_tests (code == 239) (code == 438 || code == 439)
  where
    by_tests : (a b : Bool) → (let xs : List Bool = if a then true ∷ [] else if b then false ∷ [] else [] in (xs ≡ []) ⊎ ((answer : Bool) × (xs ≡ answer ∷ [])))
    by_tests true b = inr (true, refl)
    by_tests false true = inr (false, refl)
    by_tests false false = inl refl

-- nothing else is changed by it
pub counted_by-is : (s : State) (answers : List Bool) → counted_by s answers ≡ record s { recent = (counted_by s answers).recent; off = (counted_by s answers).off }
counted_by-is s [] = refl
counted_by-is s (answer ∷ answers) = refl

module _ (s : State) (options : Options) (older : List Bool) (same : s.options ≡ options) (last : s.recent ≡ take options.check_filter older) where
  recent-step : (answers : List Bool) → (answers ≡ []) ⊎ ((answer : Bool) × (answers ≡ answer ∷ [])) → (counted_by s answers).recent ≡ take options.check_filter (answers ++ older)
  recent-step answers (inl none) = rw none last
  recent-step answers (inr one) = rw (one.1, same, last) (take-cons_take options.check_filter one.0 older)

  pub recent-counted : (code : ℕ) → (counted_by s (counts code)).recent ≡ take options.check_filter (counts code ++ older)
  recent-counted code = recent-step (counts code) (counts_one code)

  off-step : s.off ≡ are_off options older → (answers : List Bool) → (answers ≡ []) ⊎ ((answer : Bool) × (answers ≡ answer ∷ []))
      → (counted_by s answers).off ≡ are_off options (answers ++ older)
  off-step before answers (inl none) = rw none before
  off-step before answers (inr one) = rw (one.1, same, last, before, take-cons_take options.check_filter one.0 older) (off-last options (one.0 ∷ older) (are_off options older))

  pub off-counted : s.off ≡ are_off options older → (code : ℕ) → (counted_by s (counts code)).off ≡ are_off options (counts code ++ older)
  off-counted before code = off-step before (counts code) (counts_one code)
