-- A name has one number, a number one name, and the names of numbers that rise do so in the order of octets.
use Rattle.std.proofs.Common.{arith, ◌≡◌, ◌⊎◌, ℕ, suc, ◌+◌, ◌*◌, ◌<◌, ◌≤◌, List, [], ◌∷◌, length, take}
use Rattle.std.proofs.Common.{refl, sym, ap, inl, inr, ⊎_elim, ◌∙◌}
use Rattle.std.specs.Char.{digit_value}
use Rattle.std.specs.Str.Parse.{AllDigits, digits_value_after}
use Rattle.std.proofs.lemmas.Str.{digit_value_digit}
use Rattle.std.proofs.lemmas.Str.Parse.{digit_from_value}
use Rattle.segments.specs.Names.{ComesBefore, IsNameOf}

-- the octet of a digit
octet_is : (x : ℕ) → digit_value x < 10 → digit_value x + 48 ≡ x
octet_is x h = digit_value_digit x (digit_from_value x h)

-- if digits, equally many, write the same after two numbers, they are the same, and so are the numbers
same_after : (m n : ℕ) (xs ys : List ℕ) → length xs ≡ length ys → AllDigits 10 xs → AllDigits 10 ys
    → digits_value_after 10 m xs ≡ digits_value_after 10 n ys → (m ≡ n) × (xs ≡ ys)
same_after m n [] [] l a b e = (e, refl)
same_after m n [] (y ∷ ys) l a b e = absurd (omega (arith, l))
same_after m n (x ∷ xs) [] l a b e = absurd (omega (arith, l))
same_after m n (x ∷ xs) (y ∷ ys) l a b e =
    let even : length xs ≡ length ys = omega (arith, l) in
    let (value, rest) = same_after (m * 10 + digit_value x) (n * 10 + digit_value y) xs ys even a.1 b.1 e in
    let f = octet_is x a.0 in
    let g = octet_is y b.0 in
    let first : x ≡ y = omega (arith, value, f, g, a.0, b.0) in
    (omega (arith, value, a.0, b.0), ap (λ z. z ∷ xs) first ∙ ap (λ zs. y ∷ zs) rest)

on_side : (m n : ℕ) → (m < n) ⊎ (n ≤ m)
on_side m n = grind arith

-- a name has one number
pub one_number : (name : List ℕ) (m n : ℕ) → IsNameOf name m → IsNameOf name n → m ≡ n
one_number name m n is other = sym is.value ∙ other.value

-- a number has one name
pub one_name : (one other : List ℕ) (number : ℕ) → IsNameOf one number → IsNameOf other number → one ≡ other
one_name one other number is same =
    (same_after 0 0 one other (is.digits.twenty ∙ sym same.digits.twenty) is.digits.digits same.digits.digits
    (is.value ∙ sym same.value)).1

-- if digits, equally many, write less after one number than after another, that number is less, or they are equal and
-- its digits come first
first_after : (m n : ℕ) (xs ys : List ℕ) → length xs ≡ length ys → AllDigits 10 xs → AllDigits 10 ys
    → digits_value_after 10 m xs < digits_value_after 10 n ys → (m < n) ⊎ ((m ≡ n) × ComesBefore xs ys)
first_after m n [] [] l a b h = inl h
first_after m n [] (y ∷ ys) l a b h = absurd (omega (arith, l))
first_after m n (x ∷ xs) [] l a b h = absurd (omega (arith, l))
first_after m n (x ∷ xs) (y ∷ ys) l a b h =
    let f = octet_is x a.0 in
    let g = octet_is y b.0 in
    elim (first_after (m * 10 + digit_value x) (n * 10 + digit_value y) xs ys (omega (arith, l)) a.1 b.1 h) [
      | inl less ↦ elim (on_side m n) [
        | inl below ↦ inl below
        | inr above ↦ inr (omega (arith, less, a.0, b.0), (0, refl, omega (arith, less, a.0, b.0, f, g)))
      ]
      | inr (value, (at, prefix, less)) ↦
          let first : x ≡ y = omega (arith, value, f, g, a.0, b.0) in
          inr (
            omega (arith, value, a.0, b.0),
            (suc at, ap (λ z. z ∷ take at xs) first ∙ ap (λ zs. y ∷ zs) prefix, less),
          )
    ]

-- the names of numbers that rise do so in the order of octets
pub names_rise : (one other : List ℕ) (m n : ℕ) → IsNameOf one m → IsNameOf other n → m < n → ComesBefore one other
names_rise one other m n is is_other less =
    let same : length one ≡ length other = is.digits.twenty ∙ sym is_other.digits.twenty in
    let values : digits_value_after 10 0 one < digits_value_after 10 0 other =
    omega (arith, is.value, is_other.value) in
    ⊎_elim
    (λ none. absurd (omega (arith, none)))
    (λ before. before.1)
    (first_after 0 0 one other same is.digits.digits is_other.digits.digits values)
