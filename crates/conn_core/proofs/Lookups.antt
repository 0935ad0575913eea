-- The first element that passes, found by its index in a queue, looked at or removed.
use Rattle.std.proofs.Common.{◌≡◌, ℕ, suc, zero, ◌+◌, ◌<◌, Bool, true, false, List, [], ◌∷◌, length, get_or, refl, sym, ap, ◌∙◌, arith, find, Option, Some, None, cond, Bor}
use Rattle.std.specs.Prelude.{not, is_some, IsSome, IfSome, OnSome, nat_lt}
use Rattle.std.specs.List.{position, position_or_len, remove}
use Rattle.std.specs.Option.{option_copied}
use Rattle.std.specs.Set.{remove_key}
use Rattle.std.proofs.lemmas.List.Quantifiers.{position-Some}
use Rattle.std.proofs.lemmas.List.Sums.{prefix_len-le-length}
use Rattle.std.proofs.lemmas.Bool.{false≢true}
use Rattle.std.proofs.lemmas.Bool.Decides.{nat_tests}

lt-none : (b : Bool) (n : ℕ) → cond b (Some n) None ≡ None → b ≡ false
lt-none true n e = cc
lt-none false n e = refl

module _ {X : Type 0} where
  first-at : (p : X → Bool) (xs : List X) (i : ℕ) (d : X) → i < length xs → p (get_or xs i d) ≡ true → ((k : ℕ) → k < i → p (get_or xs k d) ≡ false)
      → (remove xs i ≡ remove_key p xs) × (find p xs ≡ Some (get_or xs i d))
  first-at p [] i d h here before = absurd (omega arith)
  first-at p (x ∷ xs) zero d h here before = (rw here refl, rw here refl)
  first-at p (x ∷ xs) (suc i) d h here before =
      let no : p x ≡ false = before 0 (omega arith) in
      let rest = first-at p xs i d (omega arith) here (λ k q. before (suc k) (omega arith)) in
      (rw no (ap (λ ys. x ∷ ys) rest.0), rw no rest.1)

  -- the element at the index that `position` returns
  position-found : (p : X → Bool) (xs : List X) (i : ℕ) (d : X) → position p xs ≡ Some i
      → (i < length xs) × (remove xs i ≡ remove_key p xs) × (find p xs ≡ Some (get_or xs i d))
  position-found p xs i d e =
      let at = position-Some p xs i d e in
      let first = first-at p xs i d at.0 at.1 at.2 in
      (at.0, first.0, first.1)

  none-step : (b : Bool) (p : X → Bool) (x : X) (xs : List X) (n : ℕ) → p x ≡ b → cond (not b) (1 + n) 0 ≡ suc (length xs)
      → (n ≡ length xs → (find p xs ≡ None) × (remove_key p xs ≡ xs))
      → (find p (x ∷ xs) ≡ None) × (remove_key p (x ∷ xs) ≡ x ∷ xs)
  none-step true p x xs n e h rest = absurd (omega arith)
  none-step false p x xs n e h rest = let r = rest (omega arith) in (rw e r.0, rw e (ap (λ ys. x ∷ ys) r.1))

  none-passes : (p : X → Bool) (xs : List X) → position_or_len p xs ≡ length xs → (find p xs ≡ None) × (remove_key p xs ≡ xs)
  none-passes p [] h = (refl, refl)
  none-passes p (x ∷ xs) h = none-step (p x) p x xs _ refl h (none-passes p xs)

  position-none : (p : X → Bool) (xs : List X) → position p xs ≡ None → (find p xs ≡ None) × (remove_key p xs ≡ xs)
  position-none p xs e =
      let no : nat_lt (position_or_len p xs) (length xs) ≡ false = lt-none _ _ e in
      none-passes p xs (grind (arith, nat_tests, prefix_len-le-length (λ x. not (p x)) xs))

  -- an index that `position` returns is within the list
  index-in : (p : X → Bool) (xs : List X) (i : ℕ) → Some i ≡ position p xs → i < length xs
  index-in p [] i e = cc
  index-in p (x ∷ xs) i e = (position-found p (x ∷ xs) i x (sym e)).0

  -- what is removed there
  pub taken-value : (p : X → Bool) (xs : List X) (i n : ℕ) (r : Option X) → Some i ≡ position p xs → n ≡ length xs → (i < n → IsSome r)
      → IfSome r (λ y. y ≡ get_or xs i y) → r ≡ find p xs
  taken-value p xs i n None e len some value = let h = index-in p xs i e in absurd (false≢true (some (omega arith)))
  taken-value p xs i n (Some y) e len some value = ap Some value ∙ sym (position-found p xs i y (sym e)).2

  pub taken-rest : (p : X → Bool) (xs zs : List X) (i n : ℕ) (r : Option X) → Some i ≡ position p xs → n ≡ length xs → (i < n → IsSome r)
      → IfSome r (λ y. y ≡ get_or xs i y) → OnSome r (zs ≡ remove xs i) → zs ≡ remove_key p xs
  taken-rest p xs zs i n None e len some value rest = let h = index-in p xs i e in absurd (false≢true (some (omega arith)))
  taken-rest p xs zs i n (Some y) e len some value rest = rest ∙ (position-found p xs i y (sym e)).1

  -- what is looked at there
  pub seen-value : (p : X → Bool) (xs : List X) (i n : ℕ) (r : Option (Bor X)) → Some i ≡ position p xs → n ≡ length xs → (i < n → IsSome r)
      → IfSome r (λ y. y.now ≡ get_or xs i y.now) → option_copied r ≡ find p xs
  seen-value p xs i n None e len some value = let h = index-in p xs i e in absurd (false≢true (some (omega arith)))
  seen-value p xs i n (Some y) e len some value = ap Some value ∙ sym (position-found p xs i y.now (sym e)).2

  -- `position` returns nothing
  pub taken-none : (p : X → Bool) (xs : List X) → None ≡ position p xs → (None ≡ find p xs) × (xs ≡ remove_key p xs)
  taken-none p xs e = let n = position-none p xs (sym e) in (sym n.0, sym n.1)

  -- whether one passes
  pub found_some : (p : X → Bool) (xs : List X) (i : ℕ) → Some i ≡ position p xs → true ≡ is_some (find p xs)
  found_some p [] i e = cc
  found_some p (x ∷ xs) i e = let f = position-found p (x ∷ xs) i x (sym e) in rw f.2 refl

  pub found_none : (p : X → Bool) (xs : List X) → None ≡ position p xs → false ≡ is_some (find p xs)
  found_none p xs e = let f = position-none p xs (sym e) in rw f.0 refl

  passes-step : (b : Bool) (p : X → Bool) (x y : X) (rest : Option X) → p y ≡ b → cond b (Some y) rest ≡ Some x → (rest ≡ Some x → p x ≡ true) → p x ≡ true
  passes-step true p x y rest e f later = let same : y ≡ x = cc in ap p (sym same) ∙ e
  passes-step false p x y rest e f later = later f

  -- what is found passes
  pub find-passes : (p : X → Bool) (xs : List X) (x : X) → find p xs ≡ Some x → p x ≡ true
  find-passes p [] x e = cc
  find-passes p (y ∷ xs) x e = passes-step (p y) p x y (find p xs) refl e (find-passes p xs x)
