-- The running count of the check switch.
use Rattle.std.proofs.Common.{◌≡◌, ℕ, suc, zero, ◌+◌, ◌*◌, ◌≤◌, Bool, true, false, List, [], ◌∷◌, Option, length, take, refl, ap, arith}
use Rattle.std.specs.Prelude.{◌&&◌, ◌||◌, not, nat_le, nat_lt, slice_get, option_to_list}
use Rattle.std.proofs.lemmas.List.{take_all}
use Rattle.std.proofs.lemmas.Bool.Decides.{nat_tests}
use Rattle.conn_core.specs.Checks.{accepted_among}
use Rattle.conn_core.specs.Machine.{are_off_with}
use Rattle.conn_core.specs.declared.options.Options.{Options}

-- if there is one answer too many, the last goes
pub accepted_among-take : (n : ℕ) (xs : List Bool) → length xs ≤ n + 1 → accepted_among (take n xs) + accepted_among (option_to_list (slice_get xs n)) ≡ accepted_among xs
accepted_among-take zero [] h = refl
accepted_among-take (suc n) [] h = refl
accepted_among-take zero (x ∷ []) h = omega arith
accepted_among-take zero (x ∷ (y ∷ xs)) h = absurd (omega arith)
accepted_among-take (suc n) (x ∷ xs) h = let rest = accepted_among-take n xs (omega arith) in omega (arith, rest)

at-most-step : (x : Bool) (n m : ℕ) → n ≤ m → accepted_among (x ∷ []) + n ≤ m + 1
at-most-step true n m h = omega arith
at-most-step false n m h = omega arith

-- no more are accepted than there are answers
pub accepted_among-le : (xs : List Bool) → accepted_among xs ≤ length xs
accepted_among-le [] = omega arith
accepted_among-le (x ∷ xs) = let step = at-most-step x (accepted_among xs) (length xs) (accepted_among-le xs) in omega (arith, step)

not-lt : (m n : ℕ) → not (nat_lt m n) ≡ nat_le n m
not-lt m n = grind (arith, nat_tests)

-- the tests of the code are those of the switch
pub off-is : (options : Options) (off : Bool) (recent : List Bool) (answers accepted : ℕ) → answers ≡ length recent → length recent ≤ options.check_filter → accepted ≡ accepted_among recent
    → (nat_le options.check_filter answers
    && (nat_le (options.check_high * options.check_filter) (accepted * 10000) || (nat_le (options.check_low * options.check_filter) (accepted * 10000) && off)))
    ≡ are_off_with options off recent
off-is options off recent answers accepted len few count =
    rw (len, count, take_all options.check_filter recent few, not-lt (accepted_among recent * 10000) (options.check_low * options.check_filter)) refl

module _ (accepts : Bool) (answers : List Bool) (capacity accepted : ℕ) (gone : Option Bool) (is_gone : gone ≡ slice_get (accepts ∷ answers) capacity)
    (count : accepted ≡ accepted_among answers) (few : length answers ≤ capacity) where
  split-at : accepted_among (take capacity (accepts ∷ answers)) + accepted_among (option_to_list gone) ≡ accepted_among (accepts ∷ []) + accepted
  split-at =
      let whole = accepted_among-take capacity (accepts ∷ answers) (omega arith) in
      let same = ap (λ g. accepted_among (option_to_list g)) is_gone in
      omega (arith, whole, same, count)

  -- what goes had been counted
  pub gone-le : accepted_among (option_to_list gone) ≤ accepted_among (accepts ∷ []) + accepted
  gone-le = omega (arith, split-at)

  -- what is left is counted
  pub left-is : (left : ℕ) → left + accepted_among (option_to_list gone) ≡ accepted_among (accepts ∷ []) + accepted → left ≡ accepted_among (take capacity (accepts ∷ answers))
  left-is left e = omega (arith, split-at, e)
