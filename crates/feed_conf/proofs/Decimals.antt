-- Numbers in decimal digits, and whether they fit into 64 bits.
use Rattle.std.proofs.Common.{◌≡◌, ℕ, ◌+◌, ◌*◌, ◌-◌, ◌^◌, ◌<◌, ◌≤◌, List, [], ◌∷◌, length, get_or, drop, drop-cons}
use Rattle.std.proofs.Common.{ap, add-one, arith}
use Rattle.feed_conf.specs.Values.{decimal}

-- more digits never make a number less
pub decimal_grows : (number : ℕ) (digits : List ℕ) → number ≤ decimal number digits
decimal_grows number [] = omega arith
decimal_grows number (digit ∷ digits) = let more = decimal_grows (10 * number + (digit - 48)) digits in omega arith

-- the number with one more digit
pub next_digit : (digits : List ℕ) (i number : ℕ) → i < length digits →
    decimal number (drop i digits) ≡ decimal (10 * number + (get_or digits i 0 - 48)) (drop (i + 1) digits)
next_digit digits i number inside =
    let split : drop i digits ≡ get_or digits i 0 ∷ drop (i + 1) digits = rw add-one (drop-cons digits i 0 inside) in
    ap (decimal number) split

-- digits with a prefix that does not fit into 64 bits do not fit either
pub too_great : (digits : List ℕ) (i number : ℕ) → i < length digits →
    decimal number (drop i digits) ≡ decimal 0 digits → 2 ^ 64 ≤ 10 * number + (get_or digits i 0 - 48) →
    2 ^ 64 ≤ decimal 0 digits
too_great digits i number inside value great =
    let more = decimal_grows (10 * number + (get_or digits i 0 - 48)) (drop (i + 1) digits) in
    let next = next_digit digits i number inside in
    omega (arith, more, next, value)
