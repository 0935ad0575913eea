-- Laws of lists, for the laws of tapes and of sections.
use Rattle.std.proofs.Common.{◌≡◌, ℕ, zero, suc, ◌<◌, ◌≤◌, Some, List, [], ◌∷◌, ◌++◌, length}
use Rattle.std.proofs.Common.{take, drop, refl, sym, ap, ◌∙◌, subst, inl, inr, arith}
use Rattle.std.specs.Prelude.{◌⊎◌, Contains}
use Rattle.std.proofs.Math.ListN.{set}
use Rattle.std.proofs.Math.Seq.{drop-length}
use Rattle.std.specs.List.{AllByRecursion, AllZip, slice_get}

-- ---- an element at a place

module _ {A : Type 0} where
  pub get_left : (xs ys : List A) (k : ℕ) (x : A) → slice_get xs k ≡ Some x → slice_get (xs ++ ys) k ≡ Some x
  get_left [] ys k x here = absurd cc
  get_left (y ∷ xs) ys zero x here = here
  get_left (y ∷ xs) ys (suc k) x here = get_left xs ys k x here

  -- an element of the first of two lists
  pub get_first : (xs ys : List A) (k : ℕ) (x : A) → k < length xs → slice_get (xs ++ ys) k ≡ Some x
      → slice_get xs k ≡ Some x
  get_first [] ys k x below here = absurd (omega (arith, below))
  get_first (y ∷ xs) ys zero x below here = here
  get_first (y ∷ xs) ys (suc k) x below here = get_first xs ys k x (omega (arith, below)) here

  pub get_within : (xs : List A) (k : ℕ) (x : A) → slice_get xs k ≡ Some x → k < length xs
  get_within [] k x here = absurd cc
  get_within (y ∷ xs) zero x here = omega arith
  get_within (y ∷ xs) (suc k) x here = omega (arith, get_within xs k x here)

  -- an element of a prefix is one of the list, below the prefix's end, and the other way round
  pub get_taken : (k : ℕ) (xs : List A) (i : ℕ) (x : A) → slice_get (take k xs) i ≡ Some x
      → (i < k) × (slice_get xs i ≡ Some x)
  get_taken zero xs i x here = absurd cc
  get_taken (suc k) [] i x here = absurd cc
  get_taken (suc k) (y ∷ xs) zero x here = (omega arith, here)
  get_taken (suc k) (y ∷ xs) (suc i) x here =
      let is = get_taken k xs i x here in
      (omega (arith, is.0), is.1)

  pub get_below : (k : ℕ) (xs : List A) (i : ℕ) (x : A) → i < k → slice_get xs i ≡ Some x
      → slice_get (take k xs) i ≡ Some x
  get_below zero xs i x below here = absurd (omega (arith, below))
  get_below (suc k) [] i x below here = absurd cc
  get_below (suc k) (y ∷ xs) zero x below here = here
  get_below (suc k) (y ∷ xs) (suc i) x below here = get_below k xs i x (omega (arith, below)) here

  -- one place has one element
  pub get_once : (xs : List A) (k : ℕ) (x y : A) → slice_get xs k ≡ Some x → slice_get xs k ≡ Some y → y ≡ x
  get_once xs k x y one other = let same : Some y ≡ Some x = sym other ∙ one in cc

  -- an element, after one was replaced
  pub get_set : (xs : List A) (i k : ℕ) (y x : A) → slice_get (set xs i y) k ≡ Some x
      → ((k ≡ i) × (x ≡ y)) ⊎ (slice_get xs k ≡ Some x)
  get_set [] i k y x here = inr here
  get_set (a ∷ xs) zero zero y x here = inl (refl, cc)
  get_set (a ∷ xs) zero (suc k) y x here = inr here
  get_set (a ∷ xs) (suc i) zero y x here = inr here
  get_set (a ∷ xs) (suc i) (suc k) y x here = elim (get_set xs i k y x here) [
    | inl same ↦ inl (ap suc same.0, same.1)
    | inr other ↦ inr other
  ]

  -- ---- elements among others

  pub contains_first : (xs : List A) (x : A) → Contains (x ∷ xs) x
  contains_first xs x = (0, omega arith, refl)

  pub contains_more : (xs : List A) (x y : A) → Contains xs y → Contains (x ∷ xs) y
  contains_more xs x y has = (suc has.0, omega (arith, has.1), has.2)

  -- one more element among them
  pub contains_put : (xs ys : List A) (x y : A) → Contains (xs ++ ys) y → Contains (xs ++ x ∷ ys) y
  contains_put [] ys x y has = contains_more ys x y has
  contains_put (z ∷ xs) ys x y (zero, below, is) = (zero, omega arith, is)
  contains_put (z ∷ xs) ys x y (suc k, below, is) =
      contains_more (xs ++ x ∷ ys) z y (contains_put xs ys x y (k, omega (arith, below), is))

  pub contains_here : (xs ys : List A) (x : A) → Contains (xs ++ x ∷ ys) x
  contains_here [] ys x = contains_first ys x
  contains_here (y ∷ xs) ys x = contains_more (xs ++ x ∷ ys) y x (contains_here xs ys x)

  pub contains_taken : (k : ℕ) (xs : List A) (x : A) → Contains (take k xs) x → Contains xs x
  contains_taken zero xs x (i, below, is) = absurd (omega (arith, below))
  contains_taken (suc k) [] x has = has
  contains_taken (suc k) (y ∷ xs) x (zero, below, is) = (zero, omega arith, is)
  contains_taken (suc k) (y ∷ xs) x (suc i, below, is) =
      contains_more xs y x (contains_taken k xs x (i, omega (arith, below), is))

  -- ---- prefixes

  pub take_first : (count : ℕ) (xs ys : List A) → count ≤ length xs → take count (xs ++ ys) ≡ take count xs
  take_first zero xs ys le = refl
  take_first (suc count) [] ys le = absurd (omega (arith, le))
  take_first (suc count) (x ∷ xs) ys le = ap (λ l. x ∷ l) (take_first count xs ys (omega (arith, le)))

  pub length_more : (xs ys : List A) → length xs ≤ length (xs ++ ys)
  length_more [] ys = omega arith
  length_more (x ∷ xs) ys = omega (arith, length_more xs ys)

  pub length_taken : (n : ℕ) (xs : List A) → n ≤ length xs → length (take n xs) ≡ n
  length_taken zero xs le = refl
  length_taken (suc n) [] le = absurd (omega (arith, le))
  length_taken (suc n) (x ∷ xs) le = omega (arith, length_taken n xs (omega (arith, le)))

-- ---- all of a list

module _ {A : Type 0} (P : A → Type 0) where
  pub all_set : (xs : List A) (i : ℕ) (x : A) → AllByRecursion P xs → P x → AllByRecursion P (set xs i x)
  all_set [] i x all one = tt
  all_set (a ∷ xs) zero x all one = (one, all.1)
  all_set (a ∷ xs) (suc i) x all one = (all.0, all_set xs i x all.1 one)

  pub both_all : (xs ys : List A) → AllByRecursion P xs → AllByRecursion P ys → AllByRecursion P (xs ++ ys)
  both_all [] ys one other = other
  both_all (x ∷ xs) ys one other = (one.0, both_all xs ys one.1 other)

  pub all_push : (xs : List A) (x : A) → AllByRecursion P xs → P x → AllByRecursion P (xs ++ x ∷ [])
  all_push xs x all one = both_all xs (x ∷ []) all (one, tt)

  -- an element of a list, if P holds of all of them
  pub all_at : (xs : List A) (i : ℕ) (x : A) → AllByRecursion P xs → slice_get xs i ≡ Some x → P x
  all_at [] i x all here = absurd cc
  all_at (a ∷ xs) zero x all here = let same : a ≡ x = cc in subst P same all.0
  all_at (a ∷ xs) (suc i) x all here = all_at xs i x all.1 here

  -- what holds at each place holds of all
  pub at_all : (xs : List A) → ((i : ℕ) (x : A) → slice_get xs i ≡ Some x → P x) → AllByRecursion P xs
  at_all [] each = tt
  at_all (x ∷ xs) each = (each 0 x refl, at_all xs (λ i y here. each (suc i) y here))

  -- ---- all behind a place

  pub drop_all : (k : ℕ) (xs : List A) → AllByRecursion P xs → AllByRecursion P (drop k xs)
  drop_all zero xs all = all
  drop_all (suc k) [] all = tt
  drop_all (suc k) (x ∷ xs) all = drop_all k xs all.1

  -- if more is put behind
  pub drop_more : (k : ℕ) (xs ys : List A) → AllByRecursion P (drop k xs) → AllByRecursion P ys
      → AllByRecursion P (drop k (xs ++ ys))
  drop_more zero xs ys one other = both_all xs ys one other
  drop_more (suc k) [] ys one other = drop_all (suc k) ys other
  drop_more (suc k) (x ∷ xs) ys one other = drop_more k xs ys one other

  -- if the list is cut
  pub drop_less : (k : ℕ) (xs ys : List A) → AllByRecursion P (drop k (xs ++ ys)) → AllByRecursion P (drop k xs)
  drop_less k [] ys all = drop_all k [] tt
  drop_less zero (x ∷ xs) ys all = (all.0, drop_less zero xs ys all.1)
  drop_less (suc k) (x ∷ xs) ys all = drop_less k xs ys all

  -- behind a later place
  pub drop_later : (k n : ℕ) (xs : List A) → k ≤ n → AllByRecursion P (drop k xs) → AllByRecursion P (drop n xs)
  drop_later zero n xs le all = drop_all n xs all
  drop_later (suc k) zero xs le all = absurd (omega (arith, le))
  drop_later (suc k) (suc n) [] le all = tt
  drop_later (suc k) (suc n) (x ∷ xs) le all = drop_later k n xs (omega (arith, le)) all

  pub drop_at : (k i : ℕ) (xs : List A) (x : A) → AllByRecursion P (drop k xs) → k ≤ i → slice_get xs i ≡ Some x
      → P x
  drop_at zero i xs x all le here = all_at xs i x all here
  drop_at (suc k) i [] x all le here = absurd cc
  drop_at (suc k) zero (y ∷ xs) x all le here = absurd (omega (arith, le))
  drop_at (suc k) (suc i) (y ∷ xs) x all le here = drop_at k i xs x all (omega (arith, le)) here

  pub none_behind : (xs : List A) → AllByRecursion P (drop (length xs) xs)
  none_behind xs = subst (AllByRecursion P) (sym (drop-length xs)) tt

pub all_weaker : {A : Type 0} (P Q : A → Type 0) → ((x : A) → P x → Q x) → (xs : List A) → AllByRecursion P xs
    → AllByRecursion Q xs
all_weaker P Q weaker [] all = tt
all_weaker P Q weaker (x ∷ xs) all = (weaker x all.0, all_weaker P Q weaker xs all.1)

-- ---- lists related element by element

module _ {A B : Type 0} (R : A → B → Type 0) where
  -- a property of each first element, and a weaker relation
  pub zip_all : (P : A → Type 0) (Q : A → B → Type 0) → ((x : A) (y : B) → P x → R x y → Q x y)
      → (xs : List A) (ys : List B) → AllByRecursion P xs → AllZip R xs ys → AllZip Q xs ys
  zip_all P Q each [] [] has all = tt
  zip_all P Q each [] (y ∷ ys) has all = absurd all
  zip_all P Q each (x ∷ xs) [] has all = absurd all
  zip_all P Q each (x ∷ xs) (y ∷ ys) has all = (each x y has.0 all.0, zip_all P Q each xs ys has.1 all.1)

  -- a property of each first element gives one of each second
  pub zip_second : (P : A → Type 0) (Q : B → Type 0) → ((x : A) (y : B) → P x → R x y → Q y)
      → (xs : List A) (ys : List B) → AllByRecursion P xs → AllZip R xs ys → AllByRecursion Q ys
  zip_second P Q each [] [] has all = tt
  zip_second P Q each [] (y ∷ ys) has all = absurd all
  zip_second P Q each (x ∷ xs) [] has all = absurd all
  zip_second P Q each (x ∷ xs) (y ∷ ys) has all = (each x y has.0 all.0, zip_second P Q each xs ys has.1 all.1)

  -- the element of the other list at the same place
  pub zip_get : (xs : List A) (ys : List B) (k : ℕ) (y : B) → AllZip R xs ys → slice_get ys k ≡ Some y
      → (x : A) × (slice_get xs k ≡ Some x) × R x y
  zip_get [] [] k y all here = absurd cc
  zip_get [] (b ∷ ys) k y all here = absurd all
  zip_get (a ∷ xs) [] k y all here = absurd all
  zip_get (a ∷ xs) (b ∷ ys) zero y all here = let same : b ≡ y = cc in (a, refl, subst (R a) same all.0)
  zip_get (a ∷ xs) (b ∷ ys) (suc k) y all here = zip_get xs ys k y all.1 here

  -- two elements at the same place
  pub zip_at : (xs : List A) (ys : List B) (k : ℕ) (x : A) (y : B) → AllZip R xs ys → slice_get xs k ≡ Some x
      → slice_get ys k ≡ Some y → R x y
  zip_at xs ys k x y all here there =
      let one = zip_get xs ys k y all there in
      subst (λ a. R a y) (get_once xs k x one.0 here one.1) one.2

  -- an element is replaced, of the first list or of the second
  pub zip_set_first : (xs : List A) (ys : List B) (k : ℕ) (x : A) → AllZip R xs ys
      → ((y : B) → slice_get ys k ≡ Some y → R x y) → AllZip R (set xs k x) ys
  zip_set_first [] [] k x all each = tt
  zip_set_first [] (b ∷ ys) k x all each = absurd all
  zip_set_first (a ∷ xs) [] k x all each = absurd all
  zip_set_first (a ∷ xs) (b ∷ ys) zero x all each = (each b refl, all.1)
  zip_set_first (a ∷ xs) (b ∷ ys) (suc k) x all each = (all.0, zip_set_first xs ys k x all.1 each)

  pub zip_set_second : (xs : List A) (ys : List B) (k : ℕ) (y : B) → AllZip R xs ys
      → ((x : A) → slice_get xs k ≡ Some x → R x y) → AllZip R xs (set ys k y)
  zip_set_second [] [] k y all each = tt
  zip_set_second [] (b ∷ ys) k y all each = absurd all
  zip_set_second (a ∷ xs) [] k y all each = absurd all
  zip_set_second (a ∷ xs) (b ∷ ys) zero y all each = (each a refl, all.1)
  zip_set_second (a ∷ xs) (b ∷ ys) (suc k) y all each = (all.0, zip_set_second xs ys k y all.1 each)

  -- a weaker relation
  pub zip_weaker : (Q : A → B → Type 0) → ((x : A) (y : B) → R x y → Q x y)
      → (xs : List A) (ys : List B) → AllZip R xs ys → AllZip Q xs ys
  zip_weaker Q each [] [] all = tt
  zip_weaker Q each [] (y ∷ ys) all = absurd all
  zip_weaker Q each (x ∷ xs) [] all = absurd all
  zip_weaker Q each (x ∷ xs) (y ∷ ys) all = (each x y all.0, zip_weaker Q each xs ys all.1)

-- the relation composed of two
pub zip_then : {A B C : Type 0} (P : A → B → Type 0) (R : B → C → Type 0) (Q : A → C → Type 0)
    → ((x : A) (y : B) (z : C) → P x y → R y z → Q x z)
    → (xs : List A) (ys : List B) (zs : List C) → AllZip P xs ys → AllZip R ys zs → AllZip Q xs zs
zip_then P R Q each [] [] [] all more = tt
zip_then P R Q each [] [] (z ∷ zs) all more = more
zip_then P R Q each [] (y ∷ ys) zs all more = absurd all
zip_then P R Q each (x ∷ xs) [] zs all more = absurd all
zip_then P R Q each (x ∷ xs) (y ∷ ys) [] all more = absurd more
zip_then P R Q each (x ∷ xs) (y ∷ ys) (z ∷ zs) all more =
    (each x y z all.0 more.0, zip_then P R Q each xs ys zs all.1 more.1)

-- each element is related to itself, and one to another that is put in its place
module _ {A : Type 0} (R : A → A → Type 0) (same : (x : A) → R x x) where
  pub zip_same : (xs : List A) → AllZip R xs xs
  zip_same [] = tt
  zip_same (x ∷ xs) = (same x, zip_same xs)

  pub zip_put : (xs : List A) (i : ℕ) (was now : A) → slice_get xs i ≡ Some was → R was now
      → AllZip R xs (set xs i now)
  zip_put [] i was now here one = tt
  zip_put (x ∷ xs) zero was now here one =
      let is : x ≡ was = cc in
      (subst (λ (y : A). R y now) (sym is) one, zip_same xs)
  zip_put (x ∷ xs) (suc i) was now here one = (same x, zip_put xs i was now here one)
