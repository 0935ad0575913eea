-- Worked examples of the definitions.
use Rattle.std.proofs.Common.{arith, ◌≡◌, ℕ, ◌+◌, ◌<◌, ◌≤◌, true, false, List, [], ◌∷◌, length, codes, refl, sym}
use Rattle.std.proofs.Common.{lit<, lit≤}
use Rattle.std.specs.Prelude.{Contains}
use Rattle.std.specs.Char.{is_ascii_digit}
use Rattle.std.specs.List.{list_all}
use Rattle.std.proofs.lemmas.List.Elements.{All-cons, All-contains, All-nil}
use Rattle.segments.specs.Names.{HasFault, IsFirstOf, IsNameOf, IsNumber}
use Rattle.segments.specs.declared.name.NameFault.TheVariants.{Zero, TooLarge}
use Rattle.segments.specs.Firsts.{IsNext, IsPlaceOf}
use Rattle.segments.specs.Stops.{Write, Name, Sync, Acknowledge, Remove, IsAllowed, Runs, start}
use Rattle.segments.proofs.Digits.{all_digits}

digits : (name : List ℕ) → length name ≡ 20 → list_all is_ascii_digit name ≡ true → IsNumber name
digits name l d = record { twenty = l; digits = (all_digits name true (sym d)).0 refl }

first_name : IsFirstOf (codes "00000000000000000001") 1
first_name = record {
  spells = record { digits = digits (codes "00000000000000000001") refl refl; value = refl };
  from_one = lit≤ tt;
  within = lit< tt;
}

greatest_name : IsNameOf (codes "18446744073709551615") 18446744073709551615
greatest_name = record { digits = digits (codes "18446744073709551615") refl refl; value = refl }

zeros : HasFault (codes "00000000000000000000") Zero
zeros = record { digits = digits (codes "00000000000000000000") refl refl; value = refl }

too_large : HasFault (codes "18446744073709551616") TooLarge
too_large = (
  18446744073709551616,
  record { digits = digits (codes "18446744073709551616") refl refl; value = refl },
  lit≤ tt,
)

nineteen : IsNumber (codes "0000000000000000001") → ⊥
nineteen is = absurd (let same : 19 ≡ 20 = is.twenty in omega arith)

letter : IsNumber (codes "0000000000000000000a") → ⊥
letter is = absurd (let wrong : false ≡ true = (all_digits (codes "0000000000000000000a") false refl).1 is.digits in cc)

-- of the segments that begin with the lines 1, 6 and 9
all_three : (P : ℕ → Type 0) → P 1 → P 6 → P 9 → (x : ℕ) → Contains (1 ∷ 6 ∷ 9 ∷ []) x → P x
all_three P one six nine x is =
    All-contains P (1 ∷ 6 ∷ 9 ∷ []) x
    (All-cons P 1 (6 ∷ 9 ∷ []) one (All-cons P 6 (9 ∷ []) six (All-cons P 9 [] nine (All-nil P)))) is

-- line 6 is the first of its segment, and line 8 the third
at_its_begin : IsPlaceOf (1 ∷ 6 ∷ 9 ∷ []) 5 (record { first = 6; skipped = 0 })
at_its_begin = record {
  there = (1, lit< tt, refl);
  last = all_three (λ x. 6 < x → 5 + 1 < x) (λ h. omega arith) (λ h. omega arith) (λ h. omega arith);
  skipped = refl;
}

inside : IsPlaceOf (1 ∷ 6 ∷ 9 ∷ []) 7 (record { first = 6; skipped = 2 })
inside = record {
  there = (1, lit< tt, refl);
  last = all_three (λ x. 6 < x → 7 + 1 < x) (λ h. omega arith) (λ h. omega arith) (λ h. omega arith);
  skipped = refl;
}

next : IsNext (1 ∷ 6 ∷ 9 ∷ []) 1 6
next = record {
  there = (1, lit< tt, refl);
  above = lit< tt;
  least = all_three (λ x. 1 < x → 6 ≤ x) (λ h. omega arith) (λ h. omega arith) (λ h. omega arith);
}

-- a segment whose lines are acknowledged is removed once the next one is sure
removed : Runs start (Write ∷ Name ∷ Sync ∷ Acknowledge 1 ∷ Remove 1 ∷ [])
    (record { lines = 1; mark = 1; named = 1 ∷ 2 ∷ []; there = 2 ∷ []; sure = 2 ∷ [] })
removed = (
  tt,
  (
    tt,
    (
      tt,
      (
        (
          lit≤ tt,
          lit≤ tt,
          1,
          (0, lit< tt, refl),
          record { is_named = (0, lit< tt, refl); begins = lit≤ tt; last = λ other is more. more },
        ),
        ((2, (1, lit< tt, refl), lit< tt, lit≤ tt), refl),
      ),
    ),
  ),
)

-- and not before
not_yet : IsAllowed (record { lines = 1; mark = 1; named = 1 ∷ 2 ∷ []; there = 1 ∷ 2 ∷ []; sure = 1 ∷ [] }) (Remove 1)
    → ⊥
not_yet (later, is, less, by_mark) =
    let P : ℕ → Type 0 = λ x. x ≡ 1 in
    let same : later ≡ 1 = All-contains P (1 ∷ []) later (All-cons P 1 [] refl (All-nil P)) is in
    omega arith
