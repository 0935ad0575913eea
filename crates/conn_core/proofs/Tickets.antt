-- Debts whose tickets rise: a binary search finds the first at a ticket.
use Rattle.std.proofs.Common.{◌≡◌, ℕ, suc, zero, ◌+◌, ◌<◌, ◌≤◌, Bool, true, false, List, [], ◌∷◌, ◌++◌, length, drop}
use Rattle.std.proofs.Common.{get_or, refl, sym, ap, arith}
use Rattle.std.proofs.Common.{Some, None, Result, Ok, Err, inl, inr}
use Rattle.std.specs.Prelude.{◌⊎◌, nat_lt}
use Rattle.std.specs.List.{All, AllPairs, position, position_or_len}
use Rattle.std.specs.List.Sorted.{IsSearchInRange, IsBinarySearchResult, IsNonDecreasingBy, IsPartitionPoint}
use Rattle.std.specs.declared.cmp.Ordering.TheVariants.{Less, Equal, Greater}
use Rattle.std.specs.Ordering.{nat_cmp, ordering_index}
use Rattle.std.specs.Result.{result_ok}
use Rattle.std.proofs.lemmas.Bool.{cases_lt, ne_eqb, eq-eqb}
use Rattle.std.proofs.lemmas.Bool.Decides.{nat_tests}
use Rattle.std.proofs.lemmas.Cmp.{ranked}
use Rattle.std.proofs.lemmas.List.Elements.{All-push}
use Rattle.std.proofs.lemmas.List.Quantifiers.{all_pairs_push}
use Rattle.conn_core.specs.Commands.{Held, is_at}

module _ {X : Type 0} (p : X → Bool) where
  first-index : (xs : List X) (i : ℕ) (d : X) → i < length xs → p (get_or xs i d) ≡ true
      → ((k : ℕ) → k < i → p (get_or xs k d) ≡ false)
      → position_or_len p xs ≡ i
  first-index [] i d within here before = absurd (omega arith)
  first-index (x ∷ xs) zero d within here before = rw here refl
  first-index (x ∷ xs) (suc i) d within here before =
      let no : p x ≡ false = before 0 (omega arith) in
      let rest = first-index xs i d (omega arith) here (λ k low. before (suc k) (omega arith)) in
      rw no (omega (arith, rest))

  no-index : (xs : List X) → ((k : ℕ) (d : X) → k < length xs → p (get_or xs k d) ≡ false)
      → position_or_len p xs ≡ length xs
  no-index [] none = refl
  no-index (x ∷ xs) none =
      let no : p x ≡ false = none 0 x (omega arith) in
      let rest = no-index xs (λ k d low. none (suc k) d (omega arith)) in
      rw no (omega (arith, rest))

  position-is : (xs : List X) (i : ℕ) → position_or_len p xs ≡ i → i < length xs → position p xs ≡ Some i
  position-is xs i e within = let low : nat_lt i (length xs) ≡ true = grind (arith, nat_tests) in rw (e, low) refl

  position-none : (xs : List X) → position_or_len p xs ≡ length xs → position p xs ≡ None
  position-none xs e = let no : nat_lt (length xs) (length xs) ≡ false = grind (arith, nat_tests) in rw (e, no) refl

module _ (held : List Held) (t : ℕ) (rising : AllPairs (λ (x y : Held). x.ticket < y.ticket) held) where
  comparisons-rise : IsNonDecreasingBy (λ (x : Held). ordering_index (nat_cmp x.ticket t)) held
  comparisons-rise i j d le within =
      let rise : (get_or held i d).ticket ≤ (get_or held j d).ticket =
      grind (arith, rising i j d, λ (same : i ≡ j). ap (λ (k : ℕ). (get_or held k d).ticket) same) in
      grind (arith, nat_tests)

  found-at : (i : ℕ) (d : Held) → i < length held → (get_or held i d).ticket ≡ t → position (is_at t) held ≡ Some i
  found-at i d within at =
      position-is (is_at t) held i
      (first-index (is_at t) held i d within (eq-eqb _ t at)
      (λ k low. ne_eqb (get_or held k d).ticket t (λ e. let below = rising k i d low within in omega arith)))
      within

  found-nowhere : ((k : ℕ) (d : Held) → k < length held → (get_or held k d).ticket ≡ t → ⊥)
      → None ≡ position (is_at t) held
  found-nowhere none =
      sym (position-none (is_at t) held
      (no-index (is_at t) held (λ k d within. ne_eqb (get_or held k d).ticket t (none k d within))))

  -- what a search by ticket returns
  pub searched : (r : Result ℕ ℕ) → IsSearchInRange r (length held)
      → IsBinarySearchResult (λ (x : Held). nat_cmp x.ticket t) held r
      → result_ok r ≡ position (is_at t) held
  searched (Ok i) within equal = sym (some-found held refl i within equal) where
    some-found : (xs : List Held) → xs ≡ held → (i : ℕ) → i < length held
        → ((d : Held) → nat_cmp (get_or held i d).ticket t ≡ Equal) → position (is_at t) held ≡ Some i
    some-found [] e i within equal = let none : length held ≡ 0 = ap length (sym e) in absurd (omega arith)
    some-found (x ∷ xs) e i within equal = found-at i x within (ranked _ t _ (sym (equal x)))
  searched (Err i) within parted =
      let parts = parted comparisons-rise in
      found-nowhere (λ k d low at. apart k d low at (cases_lt k i) parts)
    where
      apart : (k : ℕ) (d : Held) → k < length held → (get_or held k d).ticket ≡ t → (k < i) ⊎ (i ≤ k)
          → IsPartitionPoint (λ (x : Held). nat_cmp x.ticket t ≡ Less) (λ (x : Held). nat_cmp x.ticket t ≡ Greater)
          held i → ⊥
      apart k d low at (inl before) parts = let less : (get_or held k d).ticket < t =
          ranked _ t _ (sym (parts.0 k d (omega arith) before)) in omega arith
      apart k d low at (inr behind) parts = let more : t < (get_or held k d).ticket =
          ranked _ t _ (sym (parts.1 k d behind low)) in omega arith

abbrev AreRising : List Held → Type 0
AreRising held = AllPairs (λ (x y : Held). x.ticket < y.ticket) held

abbrev AreBelow : List Held → ℕ → Type 0
AreBelow held n = All (λ (x : Held). x.ticket < n) held

-- tickets still rise with one more, at the next ticket
pub rising-more : (held : List Held) (n : ℕ) (x : Held) → x.ticket ≡ n → AreRising held × AreBelow held n
    → AreRising (held ++ x ∷ []) × AreBelow (held ++ x ∷ []) (n + 1)
rising-more held n x e old = (
  all_pairs_push (λ (x y : Held). x.ticket < y.ticket) held x old.0 (λ k d within. let low = old.1 k d within in
      omega arith),
  All-push (λ (y : Held). y.ticket < n + 1) held x (λ k d within. let low = old.1 k d within in omega arith)
      (omega arith),
)

-- and without the first
pub rising-rest : (held : List Held) (n : ℕ) → AreRising held × AreBelow held n → AreRising (drop 1 held)
    × AreBelow (drop 1 held) n
rising-rest [] n old = old
rising-rest (x ∷ held) n old = (
  λ i j d low within. old.0 (suc i) (suc j) d (omega arith) (omega arith),
  λ k d within. old.1 (suc k) d (omega arith),
)
