-- Octets that are digits of a radix, and the number that they write.
use Rattle.std.proofs.Common.{arith, ◌≡◌, ℕ, zero, suc, ◌+◌, ◌*◌, ◌^◌, ◌<◌, ◌≤◌, true, List, [], ◌∷◌, length}
use Rattle.std.proofs.Common.{get_or, take, ap}
use Rattle.std.specs.Char.{digit_value, is_digit}
use Rattle.std.specs.List.{list_all}
use Rattle.std.specs.Str.Parse.{AllDigits, digits_value}
use Rattle.std.proofs.lemmas.Bool.{and_parts, ltb-true}
use Rattle.std.proofs.lemmas.Int.Digits.{digits_value_more}
use Rattle.std.proofs.lemmas.Str.Parse.{digits_value-take-le}

-- each of the octets is a digit
pub digit_at : (radix : ℕ) (xs : List ℕ) (i : ℕ) → AllDigits radix xs → i < length xs
    → digit_value (get_or xs i 0) < radix
digit_at radix [] i h l = absurd (omega (arith, l))
digit_at radix (x ∷ xs) zero h l = h.0
digit_at radix (x ∷ xs) (suc i) h l = digit_at radix xs i h.1 (omega (arith, l))

-- if the first digits and one more write too large a number, all of them do
pub too_large : (radix : ℕ) (xs : List ℕ) (i number : ℕ) → 1 ≤ radix → i < length xs
    → number ≡ digits_value radix (take i xs)
    → 2 ^ 64 ≤ number * radix + digit_value (get_or xs i 0) → 2 ^ 64 ≤ digits_value radix xs
too_large radix xs i number low l e large =
    let more = digits_value_more radix xs i l in
    let prefix = digits_value-take-le radix xs (i + 1) low in
    let same : number * radix ≡ digits_value radix (take i xs) * radix = ap (λ n. n * radix) e in
    omega (arith, more, prefix, same, large)

-- one digit more
pub value_more : (radix : ℕ) (xs : List ℕ) (i number : ℕ) → i < length xs → number ≡ digits_value radix (take i xs)
    → number * radix + digit_value (get_or xs i 0) ≡ digits_value radix (take (i + 1) xs)
value_more radix xs i number l e =
    let more = digits_value_more radix xs i l in
    let same : number * radix ≡ digits_value radix (take i xs) * radix = ap (λ n. n * radix) e in
    omega (arith, more, same)

-- octets of which each is a digit
pub all_digits : (radix : ℕ) (xs : List ℕ) → list_all (λ octet. is_digit octet radix) xs ≡ true → AllDigits radix xs
all_digits radix [] h = tt
all_digits radix (x ∷ xs) h =
    let parts = and_parts (is_digit x radix) (list_all (λ octet. is_digit octet radix) xs) h in
    (ltb-true (digit_value x) radix parts.0, all_digits radix xs parts.1)
