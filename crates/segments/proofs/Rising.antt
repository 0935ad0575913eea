-- Rising lists of numbers: how a number parts one, and one more number in its place.
use Rattle.std.proofs.Common.{arith, ◌≡◌, ◌⊎◌, ℕ, zero, suc, ◌+◌, ◌-◌, ◌<◌, ◌≤◌, ◌^◌, min}
use Rattle.std.proofs.Common.{None, Option, Ok, Err, Some, true}
use Rattle.std.proofs.Common.{eqb, false, leb, leb-true, leb-false, rules}
use Rattle.std.proofs.Common.{List, [], ◌∷◌, ◌++◌, length, get_or, refl, sym, ap, subst, ◌∙◌, inl, inr, ⊎_elim}
use Rattle.std.specs.Prelude.{◌↔◌, Bool, Contains, IfNone, IfSome, IsTrue, Result, All, filter, is_ok, not, slice_get}
use Rattle.std.specs.List.{insert}
use Rattle.std.specs.List.Sorted.{IsStrictlyIncreasing, IsNonDecreasingBy, IsPartitionPoint, IsBinarySearchResult}
use Rattle.std.specs.List.Sorted.{IsPermutation, IsSorted}
use Rattle.std.specs.List.{dedup}
use Rattle.std.proofs.lemmas.List.Kept.{Contains-dedup_nat, Contains-from_dedup}
use Rattle.std.proofs.lemmas.Map.Keys.{IsStrictlyIncreasing-dedup}
use Rattle.std.specs.Ordering.{nat_cmp}
use Rattle.std.proofs.lemmas.List.{get_or_default}
use Rattle.std.proofs.lemmas.List.Elements.{All-contains, All-contains_itself, All-cons, All-filter, All-get_or}
use Rattle.std.proofs.lemmas.List.Elements.{Contains-get_or}
use Rattle.std.proofs.lemmas.List.Elements.{filter_passes}
use Rattle.std.proofs.lemmas.List.Elements.{Contains-append_cases, Contains-append_left, Contains-append_right}
use Rattle.std.proofs.lemmas.List.Kept.{AllPairs-from_increasing, IsStrictlyIncreasing-filter}
use Rattle.std.proofs.lemmas.List.Sorted.{IsNonDecreasingBy-from_default, IsPermutation-filter_both}
use Rattle.std.proofs.lemmas.List.Sorted.{IsPermutation-insert}
use Rattle.std.proofs.lemmas.List.Sorted.{IsPermutation-sym}
use Rattle.std.proofs.lemmas.List.Sorted.{Contains-permutation, All-permutation, searched}
use Rattle.std.proofs.lemmas.List.Edits.{length-insert, get_or-insert_below, get_or-insert_at, get_or-insert_above}
use Rattle.std.proofs.lemmas.Option.{get_or_from_slice_get, slice_get_cases}
use Rattle.segments.specs.Firsts.{AreFirsts, AreLines, IsBefore, IsNext, IsPlaceOf, IsUnknown, JoinsOne}

-- of two places the later has the greater number
pub rises : (xs : List ℕ) → IsStrictlyIncreasing xs → (i j : ℕ) → i < j → j < length xs → get_or xs i 0 < get_or xs j 0
rises xs up i j h l = AllPairs-from_increasing xs up i j 0 h l

pub never_falls : (xs : List ℕ) → IsStrictlyIncreasing xs → IsNonDecreasingBy (λ x. x) xs
never_falls xs up = IsNonDecreasingBy-from_default (λ x. x) xs 0 (λ i j h l. ⊎_elim
    (λ e. let same : get_or xs i 0 ≡ get_or xs j 0 = ap (λ k. get_or xs k 0) e in omega arith)
    (λ k. let less = rises xs up i j k l in omega arith)
    (cases i j h))
  where
    cases : (i j : ℕ) → i ≤ j → (i ≡ j) ⊎ (i < j)
    cases i j h = grind arith

-- the place of a number that is there
pub at : (xs : List ℕ) (x : ℕ) → Contains xs x → (k : ℕ) × (k < length xs) × (get_or xs k 0 ≡ x)
at xs x h = (h.0, h.1, get_or_default xs h.0 0 x h.1 ∙ h.2)

-- what a number parts: so many are at or below it, and come first
pub record Parts (xs : List ℕ) (n count : ℕ) : Type 0 where
  pub within : count ≤ length xs
  pub up_to : (k : ℕ) → k < count → get_or xs k 0 ≤ n
  pub above : (k : ℕ) → count ≤ k → k < length xs → n < get_or xs k 0

pub parts_from : (xs ys zs : List ℕ) (n count : ℕ) → xs ≡ ys → ys ≡ zs → count ≤ length xs
    → IsPartitionPoint (λ y. leb y n ≡ true) (λ y. leb y n ≡ false) xs count → Parts zs n count
parts_from xs ys zs n count e f l point = subst (λ us. Parts us n count) (e ∙ f) (record {
  within = l;
  up_to = λ k h. leb-true _ _ (point.0 k 0 (omega arith) h);
  above = λ k h m. leb-false _ _ (point.1 k 0 h m);
})

on_side : (count k : ℕ) → (k < count) ⊎ (count ≤ k)
on_side count k = grind arith

-- what is above the last of the first part is above the number
pub above_last : (xs : List ℕ) (n count : ℕ) → IsStrictlyIncreasing xs → Parts xs n count → 0 < count
    → (other : ℕ) → Contains xs other → get_or xs (count - 1) 0 < other → n < other
above_last xs n count up parts some other is h =
    let (k, l, e) = at xs other is in
    elim (on_side count k) [
      | inl below ↦
          let le = never_falls xs up k (count - 1) 0 (omega arith) (omega (arith, parts.within)) in
          omega (arith, le)
      | inr from ↦ let more = parts.above k from l in omega (arith, more)
    ]

-- where none is in the first part, all are above the number
pub above_all : (xs : List ℕ) (n count : ℕ) → Parts xs n count → count ≡ 0 → (x : ℕ) → Contains xs x → n < x
above_all xs n count parts none x is =
    let (k, l, e) = at xs x is in
    let more = parts.above k (omega arith) l in
    omega (arith, more)

-- the first of the second part is the least above the number
pub is_next : (xs : List ℕ) (n count : ℕ) → IsStrictlyIncreasing xs → Parts xs n count → count < length xs
    → IsNext xs n (get_or xs count 0)
is_next xs n count up parts h = record {
  there = Contains-get_or xs count 0 h;
  above = parts.above count (omega arith) h;
  least = λ other is more.
      let (k, l, e) = at xs other is in
      elim (on_side count k) [
        | inl below ↦ let le = parts.up_to k below in absurd (omega (arith, le))
        | inr from ↦ let le = never_falls xs up count k 0 from l in omega (arith, le)
      ];
}

-- where the second part is empty, none is above the number
pub up_to_all : (xs : List ℕ) (n count : ℕ) → Parts xs n count → length xs ≤ count → (x : ℕ) → Contains xs x → x ≤ n
up_to_all xs n count parts none x is =
    let (k, l, e) = at xs x is in
    let le = parts.up_to k (omega arith) in
    omega (arith, le)

-- what a look at the second part's first gives
pub next_found : (xs : List ℕ) (n count : ℕ) (r : Option ℕ) → IsStrictlyIncreasing xs → Parts xs n count
    → r ≡ slice_get xs count → IfSome r (IsNext xs n)
next_found xs n count r up parts e =
    let P : Option ℕ → Type 0 = λ o. IfSome o (IsNext xs n) in
    elim ((slice_get_cases xs count).1) [
      | inl some ↦
          let next = is_next xs n count up parts some.1 in
          let same : get_or xs count 0 ≡ some.0 = get_or_from_slice_get xs count some.0 0 some.2 in
          subst P (sym (e ∙ some.2)) (subst (λ x. IsNext xs n x) same next)
      | inr none ↦ subst P (sym (e ∙ none.1)) tt
    ]

pub no_next : (xs : List ℕ) (n count : ℕ) (r : Option ℕ) → Parts xs n count → r ≡ slice_get xs count
    → IfNone r ((x : ℕ) → Contains xs x → x ≤ n)
no_next xs n count r parts e =
    let P : Option ℕ → Type 0 = λ o. IfNone o ((x : ℕ) → Contains xs x → x ≤ n) in
    elim ((slice_get_cases xs count).1) [
      | inl some ↦ subst P (sym (e ∙ some.2)) tt
      | inr none ↦ subst P (sym (e ∙ none.1)) (up_to_all xs n count parts none.0)
    ]

-- the last of those at or below the line after the mark
pub is_place : (xs : List ℕ) (mark n count first : ℕ) → AreFirsts xs → Parts xs n count
    → n ≡ min (mark + 1) (2 ^ 64 - 1) → 0 < count → first ≡ get_or xs (count - 1) 0
    → IsPlaceOf xs mark (record { first = first; skipped = mark - (first - 1) })
is_place xs mark n count first are parts top some e =
    let l : count - 1 < length xs = omega (arith, parts.within) in
    let there = Contains-get_or xs (count - 1) 0 l in
    let least = (All-get_or (λ x. (1 ≤ x) × (x < 2 ^ 64)) xs (count - 1) 0 l are.within).0 in
    let most = parts.up_to (count - 1) (omega arith) in
    record {
      there = subst (λ x. Contains xs x) (sym e) there;
      last = λ other is more.
          let above = above_last xs n count are.rising parts some other is (subst (λ x. x < other) e more) in
          let small = (All-contains (λ x. (1 ≤ x) × (x < 2 ^ 64)) xs other are.within is).1 in
          omega (arith, above, small);
      skipped = omega (arith, least, most);
    }

-- the place of one more number
pub record Slot (xs : List ℕ) (i x : ℕ) : Type 0 where
  pub within : i ≤ length xs
  pub below : (k : ℕ) → k < i → get_or xs k 0 < x
  pub above : (k : ℕ) → i ≤ k → k < length xs → x < get_or xs k 0

data Side (i k : ℕ) : Type 0 where
  before : k + 1 < i → Side i k
  last : k + 1 ≡ i → Side i k
  here : k ≡ i → Side i k
  behind : (j : ℕ) → k ≡ j + 1 → i ≤ j → Side i k

side : (i k : ℕ) → Side i k
side i k = elim (on_side i (k + 1)) [
  | inl h ↦ before h
  | inr h ↦ elim (on_side (k + 1) i) [
    | inl g ↦ elim (on_side k i) [
      | inl f ↦ behind (k - 1) (omega arith) (omega arith)
      | inr f ↦ here (omega arith)
    ]
    | inr g ↦ last (omega arith)
  ]
]

still_rises : (xs : List ℕ) (i x : ℕ) → IsStrictlyIncreasing xs → Slot xs i x → IsStrictlyIncreasing (insert xs i x)
still_rises xs i x up slot k h =
    let ys = insert xs i x in
    let w = slot.within in
    let n = length-insert xs i x w in
    elim (side i k) [
      | before b ↦
          let e = get_or-insert_below xs i x 0 k (omega arith) w in
          let f = get_or-insert_below xs i x 0 (k + 1) b w in
          omega (arith, e, f, up k (omega arith))
      | last q ↦
          let e = get_or-insert_below xs i x 0 k (omega arith) w in
          let f : get_or ys (k + 1) 0 ≡ x = ap (λ m. get_or ys m 0) q ∙ get_or-insert_at xs i x 0 w in
          omega (arith, e, f, slot.below k (omega arith))
      | here q ↦
          let e : get_or ys k 0 ≡ x = ap (λ m. get_or ys m 0) q ∙ get_or-insert_at xs i x 0 w in
          let f = get_or-insert_above xs i x 0 k (omega arith) w in
          omega (arith, e, f, slot.above k (omega arith) (omega (arith, n)))
      | behind j q l ↦
          let e : get_or ys k 0 ≡ get_or xs j 0 = ap (λ m. get_or ys m 0) q ∙ get_or-insert_above xs i x 0 j l w in
          let f = get_or-insert_above xs i x 0 k (omega arith) w in
          let g : get_or xs k 0 ≡ get_or xs (j + 1) 0 = ap (λ m. get_or xs m 0) q in
          omega (arith, e, f, g, up j (omega (arith, n)))
    ]

-- numbers of first lines, with one more
pub still_firsts : (xs : List ℕ) (i x : ℕ) → AreFirsts xs → Slot xs i x → 1 ≤ x → x < 2 ^ 64
    → AreFirsts (insert xs i x)
still_firsts xs i x are slot low high = record {
  rising = still_rises xs i x are.rising slot;
  within =
      let P : ℕ → Type 0 = λ y. (1 ≤ y) × (y < 2 ^ 64) in
      All-permutation P (x ∷ xs) (insert xs i x) (IsPermutation-insert xs i x) (All-cons P x xs (low, high) are.within);
}

-- one that is there already
pub joins_none : (xs : List ℕ) (x : ℕ) → Contains xs x → JoinsOne xs x xs
joins_none xs x is other = (λ h. inr h, λ h. ⊎_elim (λ e. subst (λ y. Contains xs y) (sym e) is) (λ old. old) h)

one_of : (x y : ℕ) → Contains (y ∷ []) x → x ≡ y
one_of x y h = one_at h.0 h.1 h.2
  where
    one_at : (k : ℕ) → k < 1 → get_or (y ∷ []) k x ≡ x → x ≡ y
    one_at zero l e = sym e
    one_at (suc k) l e = absurd (omega arith)

pub joins : (xs : List ℕ) (i x : ℕ) → JoinsOne xs x (insert xs i x)
joins xs i x other =
    let moved = IsPermutation-insert xs i x in (
      λ h. ⊎_elim (λ one. inl (one_of other x one)) (λ old. inr old)
          (Contains-append_cases (x ∷ []) xs other (Contains-permutation _ _ other (IsPermutation-sym _ _ moved) h)),
      λ h. Contains-permutation _ _ other moved (⊎_elim
          (λ e. subst (λ y. Contains (x ∷ xs) y) (sym e) (Contains-append_left (x ∷ []) xs x (0, omega arith, refl)))
          (λ old. Contains-append_right (x ∷ []) xs other old) h),
    )

not_in_slot : (xs : List ℕ) (i x : ℕ) → Slot xs i x → Contains xs x → ⊥
not_in_slot xs i x slot is =
    let (k, l, e) = at xs x is in
    elim (on_side i k) [
      | inl below ↦ let less = slot.below k below in omega (arith, less, e)
      | inr from ↦ let more = slot.above k from l in omega (arith, more, e)
    ]

-- what a search for a number answers
pub is_slot : (xs ys zs : List ℕ) (i x : ℕ) → IsStrictlyIncreasing ys → xs ≡ ys → ys ≡ zs
    → IsBinarySearchResult (λ y. nat_cmp y x) xs (Err i) → Slot zs i x
is_slot xs ys zs i x up e f found =
    let rising = subst (λ us. IsStrictlyIncreasing us) (sym e) up in
    let is = searched xs x (Err i) found (λ j k h l. never_falls xs rising j k 0 h l) in
    subst (λ us. Slot us i x) (e ∙ f) (record { within = is.0; below = is.1; above = is.2 })

pub is_there : (xs ys zs : List ℕ) (i x : ℕ) → IsStrictlyIncreasing ys → xs ≡ ys → ys ≡ zs
    → IsBinarySearchResult (λ y. nat_cmp y x) xs (Ok i) → Contains zs x
is_there xs ys zs i x up e f found =
    let rising = subst (λ us. IsStrictlyIncreasing us) (sym e) up in
    let is = searched xs x (Ok i) found (λ j k h l. never_falls xs rising j k 0 h l) in
    subst (λ us. Contains us x) (e ∙ f) (i, is.0, get_or_default xs i x 0 is.0 ∙ is.1)

-- ---- a search for a number

pub found_or_not : (xs ys zs : List ℕ) (r : Result ℕ ℕ) (x : ℕ) → IsStrictlyIncreasing ys → xs ≡ ys → ys ≡ zs
    → IsBinarySearchResult (λ y. nat_cmp y x) xs r → (b : Bool) → b ≡ is_ok r → IsTrue b ↔ Contains zs x
found_or_not xs ys zs (Ok i) x up e f found b is =
    (λ h. is_there xs ys zs i x up e f found, λ h. search rules)
found_or_not xs ys zs (Err i) x up e f found b is =
    let slot = is_slot xs ys zs i x up e f found in (
      λ h. absurd (search rules),
      λ there. absurd (not_in_slot zs i x slot there),
    )

-- ---- those from one on

-- each of a list, if all that it contains are so
pub All-from_contains : (P : ℕ → Type 0) (xs : List ℕ) → ((x : ℕ) → Contains xs x → P x) → All P xs
All-from_contains P xs each k d h = each (get_or xs k d) (Contains-get_or xs k d h)

pub from_filter : (first : ℕ) (xs : List ℕ) (x : ℕ) → Contains (filter (λ y. leb first y) xs) x
    → Contains xs x × (first ≤ x)
from_filter first xs x h =
    let p : ℕ → Bool = λ y. leb first y in
    let there = All-contains (Contains xs) (filter p xs) x (All-filter p (Contains xs) xs (All-contains_itself xs)) h in
    let passes = All-contains (λ y. p y ≡ true) (filter p xs) x (filter_passes p xs) h in
    (there, leb-true _ _ passes)

pub to_filter : (first : ℕ) (xs : List ℕ) (x : ℕ) → Contains xs x → first ≤ x
    → Contains (filter (λ y. leb first y) xs) x
to_filter first xs x h le =
    let p : ℕ → Bool = λ y. leb first y in
    let q : ℕ → Bool = λ y. not (leb first y) in
    let split = IsPermutation-filter_both p q (λ y. refl) xs in
    ⊎_elim
    (λ stays. stays)
    (λ gone. absurd (no_more first x le (All-contains (λ y. q y ≡ true) (filter q xs) x (filter_passes q xs) gone)))
    (Contains-append_cases (filter p xs) (filter q xs) x
    (Contains-permutation xs (filter p xs ++ filter q xs) x split h))
  where
    no_more : (m n : ℕ) → m ≤ n → not (leb m n) ≡ true → ⊥
    no_more m n h e = grind arith

pub filter_firsts : (first : ℕ) (xs : List ℕ) → AreFirsts xs → AreFirsts (filter (λ y. leb first y) xs)
filter_firsts first xs are = record {
  rising = IsStrictlyIncreasing-filter (λ y. leb first y) xs are.rising;
  within = All-filter (λ y. leb first y) (λ x. (1 ≤ x) × (x < 2 ^ 64)) xs are.within;
}

-- ---- numbers in any order, sorted, and each once

pub sorted_keeps : (xs ys zs : List ℕ) → IsPermutation xs ys → zs ≡ dedup eqb ys → (x : ℕ) → Contains xs x
    → Contains zs x
sorted_keeps xs ys zs moved e x is =
    subst (λ us. Contains us x) (sym e) (Contains-dedup_nat ys x (Contains-permutation xs ys x moved is))

pub sorted_adds_none : (xs ys zs : List ℕ) → IsPermutation xs ys → zs ≡ dedup eqb ys → (x : ℕ) → Contains zs x
    → Contains xs x
sorted_adds_none xs ys zs moved e x is =
    let kept = Contains-from_dedup eqb ys x (subst (λ us. Contains us x) e is) in
    Contains-permutation ys xs x (IsPermutation-sym xs ys moved) kept

pub sorted_firsts : (xs ys zs : List ℕ) → IsPermutation xs ys → zs ≡ dedup eqb ys → IsSorted nat_cmp ys
    → AreLines xs → AreFirsts zs
sorted_firsts xs ys zs moved e sorted are = record {
  rising = subst IsStrictlyIncreasing (sym e) (IsStrictlyIncreasing-dedup ys sorted);
  within = All-from_contains (λ x. (1 ≤ x) × (x < 2 ^ 64)) zs
      (λ x is. All-contains (λ x. (1 ≤ x) × (x < 2 ^ 64)) xs x are (sorted_adds_none xs ys zs moved e x is));
}

-- ---- the first that is not known

pub is_unknown : (firsts seen known lower : List ℕ) (above below : ℕ) (r : Option ℕ) → seen ≡ known
    → ((x : ℕ) → Contains lower x ↔ IsBefore firsts below x)
    → IfSome r (λ x. Contains lower x × (above < x) × (Contains seen x → ⊥))
    → IfSome r (IsUnknown firsts known above below)
is_unknown firsts seen known lower above below None e which is = tt
is_unknown firsts seen known lower above below (Some x) e which is =
    let there = (which x).0 is.0 in
    record {
      there = there.0;
      over = is.1;
      under = there.1;
      new = λ known_one. is.2 (subst (λ us. Contains us x) (sym e) known_one);
    }

pub none_unknown : (firsts seen known lower : List ℕ) (above below : ℕ) (r : Option ℕ) → seen ≡ known
    → ((x : ℕ) → Contains lower x ↔ IsBefore firsts below x)
    → IfNone r ((x : ℕ) → Contains lower x → above < x → Contains seen x)
    → IfNone r ((x : ℕ) → IsUnknown firsts known above below x → ⊥)
none_unknown firsts seen known lower above below None e which all = λ x is.
    is.new (subst (λ us. Contains us x) e (all x ((which x).1 (is.there, is.under)) is.over))
none_unknown firsts seen known lower above below (Some x) e which all = tt
