-- A list whose items are used up one by one: what is left, what is left without one ticket, and how often a ticket is
-- there.
use Rattle.std.proofs.Common.{◌≡◌, ℕ, suc, zero, ◌+◌, ◌<◌, ◌≤◌, Bool, true, false, List, [], ◌∷◌, ◌++◌, length, refl}
use Rattle.std.proofs.Common.{sym, ap, ◌∙◌, arith, find, Option, Some, None}
use Rattle.std.specs.Prelude.{◌&&◌, not, option_map, slice_get, if◌then◌else◌}
use Rattle.std.specs.List.{AllByRecursion}
use Rattle.std.specs.Set.{remove_key}
use Rattle.std.proofs.lemmas.Bool.{ne_eqb, eq-eqb, false≢true}
use Rattle.conn_core.specs.Used.{has, first_left, left_from, times, with_ticket}

-- no ticket from n on is used
abbrev pub AllBelow : List ℕ → ℕ → Type 0
AllBelow used n = (k : ℕ) → n ≤ k → has used k ≡ false

pub has-cons_other : (i n : ℕ) (used : List ℕ) → (i ≡ n → ⊥) → has (i ∷ used) n ≡ has used n
has-cons_other i n used other = rw (ne_eqb i n other) refl

pub has-cons_same : (i n : ℕ) (used : List ℕ) → i ≡ n → has (i ∷ used) n ≡ true
has-cons_same i n used same = rw (eq-eqb i n same) refl

module _ {A : Type 0} where
  find-step : (b t : Bool) (test : A → Bool) (n : ℕ) (x : A) (left : List A) (first : Option (ℕ × A))
      → test x ≡ t → find test left ≡ option_map (λ y. y.1) first
      → find test (if b then left else x ∷ left) ≡ option_map (λ y. y.1) (if t && not b then Some (n, x) else first)
  find-step true true test n x left first e same = same
  find-step true false test n x left first e same = same
  find-step false true test n x left first e same = rw e refl
  find-step false false test n x left first e same = rw e same

  -- the first of what is left that passes
  pub find-left_from : (test : A → Bool) (used : List ℕ) (n : ℕ) (xs : List A)
      → find test (left_from n xs used) ≡ option_map (λ x. x.1) (first_left test used n xs)
  find-left_from test used n [] = refl
  find-left_from test used n (x ∷ xs) = find-step (has used n) (test x) test n x _ _ refl (find-left_from test used (n + 1) xs)

  append-step : (b : Bool) (y : A) (left more rest : List A) → more ≡ left ++ rest
      → (if b then more else y ∷ more) ≡ (if b then left else y ∷ left) ++ rest
  append-step true y left more rest e = e
  append-step false y left more rest e = ap (λ ys. y ∷ ys) e

  -- one more item is left, at the end
  pub left_from-append : (used : List ℕ) (n : ℕ) (xs : List A) (x : A) → AllBelow used (n + length xs)
      → left_from n (xs ++ x ∷ []) used ≡ left_from n xs used ++ x ∷ []
  left_from-append used n [] x below = rw (below n (omega arith)) refl
  left_from-append used n (y ∷ ys) x below =
      append-step (has used n) y _ _ (x ∷ []) (left_from-append used (n + 1) ys x (λ k h. below k (omega arith)))

  skip-step : (b c : Bool) (y : A) (left other : List A) → c ≡ b → other ≡ left
      → (if c then other else y ∷ other) ≡ (if b then left else y ∷ left)
  skip-step b c y left other e same = cc

  -- an earlier ticket changes nothing
  pub left_from-earlier : (i : ℕ) (used : List ℕ) (n : ℕ) (xs : List A) → i < n → left_from n xs (i ∷ used) ≡ left_from n xs used
  left_from-earlier i used n [] h = refl
  left_from-earlier i used n (x ∷ xs) h =
      skip-step (has used n) (has (i ∷ used) n) x _ _ (has-cons_other i n used (λ e. omega arith)) (left_from-earlier i used (n + 1) xs (omega arith))

  same_ticket : (n i : ℕ) (x a : A) → (let p : Option (ℕ × A) = Some (n, x) in let q : Option (ℕ × A) = Some (i, a) in p ≡ q) → n ≡ i
  same_ticket n i x a e =
      let p : ℕ × A = (n, x) in
      let q : ℕ × A = (i, a) in
      let f : p ≡ q = cc in
      ap (λ (z : ℕ × A). z.0) f

  ticket-step : (b t : Bool) (n i : ℕ) (x a : A) (first : Option (ℕ × A)) (m : ℕ)
      → (if t && not b then Some (n, x) else first) ≡ Some (i, a) → (first ≡ Some (i, a) → (n + 1 ≤ i) × (i < n + 1 + m)) → (n ≤ i) × (i < n + (m + 1))
  ticket-step true true n i x a first m e rest = let p = rest e in (omega arith, omega arith)
  ticket-step true false n i x a first m e rest = let p = rest e in (omega arith, omega arith)
  ticket-step false true n i x a first m e rest = let p : n ≡ i = same_ticket n i x a e in (omega arith, omega arith)
  ticket-step false false n i x a first m e rest = let p = rest e in (omega arith, omega arith)

  -- its ticket is a ticket of the list
  pub first_left-ticket : (test : A → Bool) (used : List ℕ) (n : ℕ) (xs : List A) (i : ℕ) (a : A)
      → first_left test used n xs ≡ Some (i, a) → (n ≤ i) × (i < n + length xs)
  first_left-ticket test used n [] i a e = cc
  first_left-ticket test used n (x ∷ xs) i a e =
      let p = ticket-step (has used n) (test x) n i x a _ (length xs) e (first_left-ticket test used (n + 1) xs i a) in (omega arith, omega arith)

  remove-step : (b t c : Bool) (test : A → Bool) (n i : ℕ) (x a : A) (first : Option (ℕ × A)) (left other : List A)
      → test x ≡ t
      → (if t && not b then Some (n, x) else first) ≡ Some (i, a)
      → (first ≡ Some (i, a) → (c ≡ b) × (other ≡ remove_key test left))
      → (i ≡ n → (c ≡ true) × (other ≡ left))
      → (if c then other else x ∷ other) ≡ remove_key test (if b then left else x ∷ left)
  remove-step true true c test n i x a first left other e which rest here = let p = rest which in rw p.0 p.1
  remove-step true false c test n i x a first left other e which rest here = let p = rest which in rw p.0 p.1
  remove-step false true c test n i x a first left other e which rest here =
      let q : i ≡ n = sym (same_ticket n i x a which) in let p = here q in rw (p.0, e) p.1
  remove-step false false c test n i x a first left other e which rest here =
      let p = rest which in rw (p.0, e) (ap (λ ys. x ∷ ys) p.1)

  -- once the first that passes is used up, what is left has lost the first that passes
  pub left_from-used : (test : A → Bool) (used : List ℕ) (n : ℕ) (xs : List A) (i : ℕ) (a : A)
      → first_left test used n xs ≡ Some (i, a) → left_from n xs (i ∷ used) ≡ remove_key test (left_from n xs used)
  left_from-used test used n [] i a e = refl
  left_from-used test used n (x ∷ xs) i a e =
      remove-step (has used n) (test x) (has (i ∷ used) n) test n i x a _ _ _ refl e
      (λ f. let p = first_left-ticket test used (n + 1) xs i a f in (has-cons_other i n used (λ s. omega arith), left_from-used test used (n + 1) xs i a f))
      (λ s. (has-cons_same i n used s, left_from-earlier i used (n + 1) xs (omega arith)))

  -- with the ticket of one more item of the list, all are still below the length
  pub AllBelow-with_ticket : (test : A → Bool) (used : List ℕ) (xs : List A) (found : Option (ℕ × A))
      → first_left test used 0 xs ≡ found → AllBelow used (length xs) → AllBelow (with_ticket found used) (length xs)
  AllBelow-with_ticket test used xs None e below k h = below k h
  AllBelow-with_ticket test used xs (Some found) e below k h =
      let p = first_left-ticket test used 0 xs found.0 found.1 e in
      has-cons_other found.0 k used (λ s. omega arith) ∙ below k h

-- the first item that passes and is not used up: no earlier one is both
pub record IsFirstLeft {A : Type 0} (test : A → Bool) (used : List ℕ) (n : ℕ) (xs : List A) (i : ℕ) (a : A) : Type 0 where
  pub index : ℕ
  pub ticket : i ≡ n + index
  pub item : slice_get xs index ≡ Some a
  pub passes : test a ≡ true
  pub unused : has used i ≡ false
  pub no_earlier : (k : ℕ) (y : A) → k < index → slice_get xs k ≡ Some y → test y ≡ true → has used (n + k) ≡ true

module _ {A : Type 0} where
  is_first-here : (test : A → Bool) (used : List ℕ) (n i : ℕ) (x a : A) (xs : List A) → has used n ≡ false → test x ≡ true
      → (let p : Option (ℕ × A) = Some (n, x) in let q : Option (ℕ × A) = Some (i, a) in p ≡ q) → IsFirstLeft test used n (x ∷ xs) i a
  is_first-here test used n i x a xs fresh good e =
      let p : ℕ × A = (n, x) in
      let q : ℕ × A = (i, a) in
      let f : p ≡ q = cc in
      let same : n ≡ i = ap (λ (z : ℕ × A). z.0) f in
      let item : x ≡ a = ap (λ (z : ℕ × A). z.1) f in
      record { index = 0; ticket = omega arith; item = ap Some item; passes = rw (← item) good; unused = rw (← same) fresh; no_earlier = λ k y h. absurd (omega arith) }

  is_first-later : (test : A → Bool) (used : List ℕ) (n i : ℕ) (x a : A) (xs : List A) → (test x ≡ true → has used n ≡ true)
      → IsFirstLeft test used (n + 1) xs i a → IsFirstLeft test used n (x ∷ xs) i a
  is_first-later test used n i x a xs gone f =
      let at : i ≡ n + 1 + f.index = f.ticket in
      record {
        index = suc f.index;
        ticket = omega arith;
        item = f.item;
        passes = f.passes;
        unused = f.unused;
        no_earlier = λ k. earlier k;
      }
    where
      earlier : (k : ℕ) (y : A) → k < suc f.index → slice_get (x ∷ xs) k ≡ Some y → test y ≡ true → has used (n + k) ≡ true
      earlier zero y h e good = let s : x ≡ y = cc in let z : n + 0 ≡ n = omega arith in rw z (gone (rw s good))
      earlier (suc k) y h e good = let z : n + 1 + k ≡ n + suc k = omega arith in rw z at (f.no_earlier k y (omega arith) e good)

  is_first-step : (b t : Bool) (test : A → Bool) (used : List ℕ) (n i : ℕ) (x a : A) (xs : List A) (first : Option (ℕ × A)) → has used n ≡ b → test x ≡ t
      → (if t && not b then Some (n, x) else first) ≡ Some (i, a) → (first ≡ Some (i, a) → IsFirstLeft test used (n + 1) xs i a) → IsFirstLeft test used n (x ∷ xs) i a
  is_first-step true true test used n i x a xs first eb et e rest = is_first-later test used n i x a xs (λ _. eb) (rest e)
  is_first-step true false test used n i x a xs first eb et e rest = is_first-later test used n i x a xs (λ _. eb) (rest e)
  is_first-step false true test used n i x a xs first eb et e rest = is_first-here test used n i x a xs eb et e
  is_first-step false false test used n i x a xs first eb et e rest =
      is_first-later test used n i x a xs (λ g. let f : false ≡ true = sym et ∙ g in absurd (false≢true f)) (rest e)

  pub first_left-is : (test : A → Bool) (used : List ℕ) (n : ℕ) (xs : List A) (i : ℕ) (a : A) → first_left test used n xs ≡ Some (i, a) → IsFirstLeft test used n xs i a
  first_left-is test used n [] i a e = cc
  first_left-is test used n (x ∷ xs) i a e = is_first-step (has used n) (test x) test used n i x a xs _ refl refl e (first_left-is test used (n + 1) xs i a)

-- what holds of each item of two lists holds of each item of both, one after the other
pub All-append : {X : Type 0} (P : X → Type 0) (xs ys : List X) → AllByRecursion P xs → AllByRecursion P ys
    → AllByRecursion P (xs ++ ys)
All-append P [] ys p q = q
All-append P (x ∷ xs) ys p q = (p.0, All-append P xs ys p.1 q)

pub All-map : {X : Type 0} (P Q : X → Type 0) → ((x : X) → P x → Q x) → (xs : List X) → AllByRecursion P xs
    → AllByRecursion Q xs
All-map P Q f [] p = tt
All-map P Q f (x ∷ xs) p = (f x p.0, All-map P Q f xs p.1)

-- how often a ticket is among both
pub times-append : (xs ys : List ℕ) (ticket : ℕ) → times (xs ++ ys) ticket ≡ times xs ticket + times ys ticket
times-append [] ys ticket = omega arith
times-append (x ∷ xs) ys ticket = omega (arith, times-append xs ys ticket)
