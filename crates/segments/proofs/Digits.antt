-- Octets that are decimal digits, and the number that they write.
use Rattle.std.proofs.Common.{rules, arith, ◌≡◌, ◌↔◌, ℕ, suc, ◌+◌, ◌-◌, ◌*◌, ◌/◌, ◌%◌, ◌^◌, ◌<◌, ◌≤◌, Bool, true}
use Rattle.std.proofs.Common.{List, [], ◌∷◌, length, take, drop, get_or, set, sym, ap, subst, ◌∙◌}
use Rattle.std.proofs.Math.Nat.{pow-suc, add-mul, mul_assoc, mul_comm}
use Rattle.std.specs.Char.{is_ascii_digit, digit_value}
use Rattle.std.specs.List.{list_all}
use Rattle.std.specs.Str.Parse.{AllDigits, digits_value, digits_value_after}
use Rattle.std.proofs.lemmas.Int.Digits.{digits_value_more}
use Rattle.std.proofs.lemmas.List.{drop-set}
use Rattle.std.proofs.lemmas.Str.Parse.{IsDigitsTest, IsNumeralModel, numerals_by_value, digit_at}
use Rattle.std.proofs.lemmas.Str.Parse.{digits_value-take-le}
use Rattle.std.proofs.lemmas.Str.{digit_value_digit}

tells : IsDigitsTest (λ ds. list_all is_ascii_digit ds ≡ true)
tells = search rules

own : IsNumeralModel (λ ds. list_all is_ascii_digit ds ≡ true) (digits_value 10)
own = numerals_by_value (λ ds. list_all is_ascii_digit ds ≡ true) tells

-- the test over all octets is the relation
pub all_digits : (xs : List ℕ) (r : Bool) → r ≡ list_all is_ascii_digit xs → (r ≡ true) ↔ AllDigits 10 xs
all_digits xs r e = (λ h. own.to xs (sym e ∙ h), λ h. e ∙ own.from xs h)

-- one digit more: what the octet adds
pub value_more : (xs : List ℕ) (i : ℕ) → AllDigits 10 xs → i < length xs
    → digits_value 10 (take (i + 1) xs) ≡ digits_value 10 (take i xs) * 10 + (get_or xs i 0 - 48)
value_more xs i h l =
    let range = digit_at xs i h l in
    let d = digit_value_digit (get_or xs i 0) range in
    let e = digits_value_more 10 xs i l in
    omega (arith, d, e)

-- the first digits never write more than all
pub value_prefix : (xs : List ℕ) (i : ℕ) → digits_value 10 (take i xs) ≤ digits_value 10 xs
value_prefix xs i = digits_value-take-le 10 xs i (omega arith)

-- a number before digits counts at least for its place
pub after_least : (n : ℕ) (xs : List ℕ) → n * 10 ^ length xs ≤ digits_value_after 10 n xs
after_least n [] = omega arith
after_least n (x ∷ xs) =
    let d = digit_value x in
    let p = 10 ^ length xs in
    let step : (n * 10 + d) * p ≤ digits_value_after 10 (n * 10 + d) xs = after_least (n * 10 + d) xs in
    let apart : (n * 10 + d) * p ≡ n * 10 * p + d * p = add-mul (n * 10) d p in
    let power : n * 10 ^ suc (length xs) ≡ n * 10 * p =
    ap (λ q. n * q) (pow-suc 10 (length xs) ∙ mul_comm p 10) ∙ sym (mul_assoc n 10 p) in
    let least : n * 10 * p ≤ digits_value_after 10 (n * 10 + d) xs = omega (arith, step, apart) in
    subst (λ m. m ≤ digits_value_after 10 (n * 10 + d) xs) (sym power) least

-- the octet of a digit
pub glyph : (d : ℕ) → d < 10 → digit_value (48 + d) ≡ d
glyph d h = let e = digit_value_digit (48 + d) (omega arith, omega arith) in omega (arith, e)

-- the last digit of a number goes before the digits that follow it
pub digits_before : (n : ℕ) (xs ys : List ℕ) → AllDigits 10 xs → ys ≡ (48 + n % 10) ∷ xs → AllDigits 10 ys
digits_before n xs ys h e =
    let g = glyph (n % 10) (omega arith) in
    subst (λ zs. AllDigits 10 zs) (sym e) (omega (arith, g), h)

pub value_before : (n : ℕ) (xs ys : List ℕ) → ys ≡ (48 + n % 10) ∷ xs
    → digits_value_after 10 (n / 10) ys ≡ digits_value_after 10 n xs
value_before n xs ys e =
    let g = glyph (n % 10) (omega arith) in
    let same : n / 10 * 10 + digit_value (48 + n % 10) ≡ n = omega (arith, g) in
    ap (λ zs. digits_value_after 10 (n / 10) zs) e ∙ ap (λ m. digits_value_after 10 m xs) same

-- what a write of one place leaves from there on
pub written : (xs : List ℕ) (place : ℕ) (y : ℕ) → 0 < place → place ≤ length xs
    → drop (place - 1) (set xs (place - 1) y) ≡ y ∷ drop place xs
written xs place y h l =
    let next : place - 1 + 1 ≡ place = omega arith in
    drop-set xs (place - 1) y (omega arith) ∙ ap (λ i. y ∷ drop i xs) next

-- a number below 2 ^ 64 before 20 digits that write no more is 0
pub none_left : (n : ℕ) (xs : List ℕ) (first : ℕ) → length xs ≡ 20 → first < 2 ^ 64
    → digits_value_after 10 n xs ≡ first → n ≡ 0
none_left n xs first l h e =
    let least : n * 10 ^ 20 ≤ digits_value_after 10 n xs =
    subst (λ k. n * 10 ^ k ≤ digits_value_after 10 n xs) l (after_least n xs) in
    omega (arith, least)
