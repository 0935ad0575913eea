-- What becomes of the first elements of a list if one of them is removed.
use Rattle.std.proofs.Common.{◌≡◌, ℕ, zero, suc, ◌<◌, ◌≤◌, List, [], ◌∷◌, ◌++◌, length, take, drop, refl, ap, arith}
use Rattle.std.specs.Prelude.{remove, slice_get, option_to_list}

-- the element at n is the first after n others
slice_get-first : (xs : List ℕ) (n : ℕ) → slice_get xs n ≡ slice_get (drop n xs) 0
slice_get-first [] zero = refl
slice_get-first [] (suc n) = refl
slice_get-first (x ∷ xs) zero = refl
slice_get-first (x ∷ xs) (suc n) = slice_get-first xs n

-- one more element is taken
take-more : (xs : List ℕ) (n : ℕ) → take (suc n) xs ≡ take n xs ++ option_to_list (slice_get (drop n xs) 0)
take-more [] zero = refl
take-more [] (suc n) = refl
take-more (x ∷ xs) zero = refl
take-more (x ∷ xs) (suc n) = ap (λ ys. x ∷ ys) (take-more xs n)

-- one more element is left out
drop-more : (xs : List ℕ) (n : ℕ) → drop (suc n) xs ≡ drop 1 (drop n xs)
drop-more [] zero = refl
drop-more [] (suc n) = refl
drop-more (x ∷ xs) zero = refl
drop-more (x ∷ xs) (suc n) = drop-more xs n

pub slice_get-remove : (xs : List ℕ) (i n : ℕ) → i ≤ n → i < length xs
    → slice_get (remove xs i) n ≡ slice_get (drop (suc n) xs) 0
slice_get-remove [] i n within inside = absurd (omega (arith, inside))
slice_get-remove (x ∷ xs) zero n within inside = slice_get-first xs n
slice_get-remove (x ∷ xs) (suc i) zero within inside = absurd (omega (arith, within))
slice_get-remove (x ∷ xs) (suc i) (suc n) within inside =
    slice_get-remove xs i n (omega (arith, within)) (omega (arith, inside))

pub take-remove : (xs : List ℕ) (i n : ℕ) → i ≤ n → i < length xs
    → take (suc n) (remove xs i) ≡ remove (take (suc n) xs) i ++ option_to_list (slice_get (drop (suc n) xs) 0)
take-remove [] i n within inside = absurd (omega (arith, inside))
take-remove (x ∷ xs) zero n within inside = take-more xs n
take-remove (x ∷ xs) (suc i) zero within inside = absurd (omega (arith, within))
take-remove (x ∷ xs) (suc i) (suc n) within inside =
    ap (λ ys. x ∷ ys) (take-remove xs i n (omega (arith, within)) (omega (arith, inside)))

pub drop-remove : (xs : List ℕ) (i n : ℕ) → i ≤ n → i < length xs
    → drop (suc n) (remove xs i) ≡ drop 1 (drop (suc n) xs)
drop-remove [] i n within inside = absurd (omega (arith, inside))
drop-remove (x ∷ xs) zero n within inside = drop-more xs n
drop-remove (x ∷ xs) (suc i) zero within inside = absurd (omega (arith, within))
drop-remove (x ∷ xs) (suc i) (suc n) within inside =
    drop-remove xs i n (omega (arith, within)) (omega (arith, inside))
