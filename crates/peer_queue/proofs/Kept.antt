-- What an index keeps when a number is held or given up.
use Rattle.std.proofs.Common.{◌≡◌, ◌==◌, ◌^◌, ℕ, zero, suc, ◌<◌, ◌≤◌, Bool, true, false, cond, Option, Some, None, [], ◌∷◌, refl, sym, ap, ◌∙◌, subst, arith}
use Rattle.std.specs.Prelude.{◌↔◌, IsSome, option_map, Result, Ok, Err, OnOk, OnErr}
use Rattle.std.specs.Ordering.{is_eq, is_gt, nat_cmp, ordering_then}
use Rattle.std.specs.declared.cmp.Ordering.{Ordering}
use Rattle.std.specs.declared.cmp.Ordering.TheVariants.{Less, Equal, Greater}
use Rattle.std.proofs.lemmas.Bool.{eqb-true, eqb-false, eq-eqb, ne_eqb}
use Rattle.std.proofs.lemmas.Bool.Decides.{nat_tests}
use Rattle.std.proofs.lemmas.Map.Keys.{le_from_not_gt}
use Rattle.std.specs.BTreeMap.Range.{IsInRange}
use Rattle.std.specs.declared.ops.Bound.TheVariants.{Included, Unbounded}
use Rattle.std.proofs.lemmas.Cmp.{nat_cmp_total, tied_itself}
use Rattle.deferral.specs.Due.{Waiting, IsRising, added, due_of}
use Rattle.peer_queue.specs.DebtPlace.{DebtPlace, Held, IsHeldBy, IsUnheld, place_at, is_held}
use Rattle.peer_queue.specs.Index.{Holders, IsKept, pair_cmp, place_by, place_for, places_by}
use Rattle.peer_queue.specs.declared.wait.Readiness.TheVariants.{Until}

-- ---- comparing numbers and pairs

eq_of : (p q : Bool) → is_eq (cond p Less (cond q Equal Greater)) ≡ true → q ≡ true
eq_of true q e = cc
eq_of false true e = refl
eq_of false false e = cc

pub nat_at : (n m : ℕ) → is_eq (nat_cmp n m) ≡ true → n ≡ m
nat_at n m e = eqb-true n m (eq_of _ (n == m) e)

both_eq : (o r : Ordering) → is_eq (ordering_then o r) ≡ true → (is_eq o ≡ true) × (is_eq r ≡ true)
both_eq Less r e = cc
both_eq Equal r e = (refl, e)
both_eq Greater r e = cc

pub pair_at : (c n d m : ℕ) → is_eq (pair_cmp (c, n) (d, m)) ≡ true → (c ≡ d) × (n ≡ m)
pair_at c n d m e = let h = both_eq (nat_cmp c d) (nat_cmp n m) e in (nat_at c d h.0, nat_at n m h.1)

pub pair_self : (c n : ℕ) → is_eq (pair_cmp (c, n) (c, n)) ≡ true
pair_self c n = ap (λ (o : Ordering). is_eq (ordering_then o (nat_cmp n n))) (tied_itself nat_cmp_total c) ∙ ap is_eq (tied_itself nat_cmp_total n)

pub pair_same : (c n b m : ℕ) → c ≡ b → n ≡ m → is_eq (pair_cmp (c, n) (b, m)) ≡ true
pair_same c n b m who same =
    subst (λ (x : ℕ). is_eq (pair_cmp (c, n) (x, m)) ≡ true) who
    (subst (λ (x : ℕ). is_eq (pair_cmp (c, n) (c, x)) ≡ true) same (pair_self c n))

pub not_true : (b : Bool) → (b ≡ true → ⊥) → b ≡ false
not_true true h = absurd (h refl)
not_true false h = refl

-- ---- the place of a number

at_step : (h : Holders) (n m : ℕ) (d : Option ℕ) (b : Bool) (o : Option (Option ℕ)) (p : Option DebtPlace) → (m == n) ≡ b → p ≡ option_map (place_by (h n)) o
    → cond b (Some (place_by (h m) d)) p ≡ option_map (place_by (h n)) (cond b (Some d) o)
at_step h n m d true o p e q = ap (λ (k : ℕ). Some (place_by (h k) d)) (eqb-true m n e)
at_step h n m d false o p e q = q

pub place_of : (h : Holders) (agenda : Waiting) (n : ℕ) → place_at (places_by h agenda) n ≡ option_map (place_by (h n)) (due_of agenda n)
place_of h [] n = refl
place_of h (x ∷ xs) n = at_step h n x.0 x.1 (x.0 == n) (due_of xs n) (place_at (places_by h xs) n) refl (place_of h xs n)

unheld_is : (q : Option ℕ) (o : Option (Option ℕ)) → option_map is_held (option_map (place_by q) o) ≡ Some false → (d : ℕ) × (o ≡ Some (Some d))
unheld_is q None e = cc
unheld_is q (Some None) e = cc
unheld_is q (Some (Some d)) e = (d, refl)

-- a number that none holds waits for a moment
pub unheld_due : (h : Holders) (agenda : Waiting) (n : ℕ) → IsUnheld (places_by h agenda) n → (d : ℕ) × (due_of agenda n ≡ Some (Some d))
unheld_due h agenda n unheld = unheld_is (h n) (due_of agenda n) (sym (ap (option_map is_held) (place_of h agenda n)) ∙ unheld)

until_held : (d c : ℕ) → place_for (Until d) ≡ Held c → ⊥
until_held zero c e = cc
until_held (suc d) c e = cc

held_is : (q : Option ℕ) (o : Option (Option ℕ)) (c : ℕ) → (o ≡ Some None → IsSome q) → option_map (place_by q) o ≡ Some (Held c) → (q ≡ Some c) × (o ≡ Some None)
held_is q None c f e = absurd (cc)
held_is None (Some None) c f e = let bad : false ≡ true = f refl in absurd (cc)
held_is (Some b) (Some None) c f e = let same : b ≡ c = cc in (ap Some same, refl)
held_is q (Some (Some d)) c f e = let same : place_for (Until d) ≡ Held c = cc in absurd (until_held d c same)

pub held_by : (h : Holders) (agenda : Waiting) (k : ℕ → ℕ → Bool) (n c : ℕ) → IsKept agenda h k → IsHeldBy (places_by h agenda) c n → (h n ≡ Some c) × (due_of agenda n ≡ Some None)
held_by h agenda k n c kept held =
    held_is (h n) (due_of agenda n) c (kept.held n).0 (sym (place_of h agenda n) ∙ held)

-- a number that a connection holds is due at no moment
pub held_due : (h : Holders) (agenda : Waiting) (k : ℕ → ℕ → Bool) (n c : ℕ) → IsKept agenda h k → h n ≡ Some c
    → due_of agenda n ≡ Some None
held_due h agenda k n c kept holder = (kept.held n).1 (subst IsSome (sym holder) refl)

pub is_held_by : (h : Holders) (agenda : Waiting) (k : ℕ → ℕ → Bool) (n c : ℕ) → IsKept agenda h k → h n ≡ Some c → IsHeldBy (places_by h agenda) c n
is_held_by h agenda k n c kept holder =
    place_of h agenda n ∙ (ap (option_map (place_by (h n))) (held_due h agenda k n c kept holder)
    ∙ ap (λ (q : Option ℕ). Some (place_by q None)) holder)

-- a number that waits for a moment is held by none
pub free : (h : Holders) (agenda : Waiting) (k : ℕ → ℕ → Bool) (n c d : ℕ) → IsKept agenda h k → due_of agenda n ≡ Some (Some d) → h n ≡ Some c → ⊥
free h agenda k n c d kept due holder = let none = held_due h agenda k n c kept holder in cc

-- ---- one number changes

by_number : {P : Type 0} (n m : ℕ) → (m ≡ n → P) → ((m ≡ n → ⊥) → P) → P
by_number {P = P} n m same apart = on (m == n) refl
  where
    on : (b : Bool) → (m == n) ≡ b → P
    on true e = same (eqb-true m n e)
    on false e = apart (eqb-false m n e)

cond_true : (b c : Bool) → c ≡ true → cond b true c ≡ true
cond_true true c e = refl
cond_true false c e = e

pub split_true : {P : Type 0} (b c : Bool) → (b ≡ true → P) → (c ≡ true → P) → cond b true c ≡ true → P
split_true true c f g e = f refl
split_true false c f g e = g e

pub split_false : {P : Type 0} (b c : Bool) → (b ≡ false → c ≡ true → P) → cond b false c ≡ true → P
split_false true c f e = cc
split_false false c f e = f refl e

-- if a number is due at no moment exactly if one holds it, that is so of each, if it was so of the others
held_all : (agenda agenda' : Waiting) (h h' : Holders) (k : ℕ → ℕ → Bool) (n : ℕ) → IsKept agenda h k
    → ((m : ℕ) → (m ≡ n → ⊥) → due_of agenda' m ≡ due_of agenda m) → ((m : ℕ) → (m ≡ n → ⊥) → h' m ≡ h m)
    → (due_of agenda' n ≡ Some None) ↔ IsSome (h' n)
    → (m : ℕ) → (due_of agenda' m ≡ Some None) ↔ IsSome (h' m)
held_all agenda agenda' h h' k n kept dues others here m = by_number n m
    (λ same. subst (λ (x : ℕ). (due_of agenda' x ≡ Some None) ↔ IsSome (h' x)) (sym same) here)
    (λ apart.
    subst (λ (d : Option (Option ℕ)). (d ≡ Some None) ↔ IsSome (h' m)) (sym (dues m apart))
    (subst (λ (o : Option ℕ). (due_of agenda m ≡ Some None) ↔ IsSome o) (sym (others m apart)) (kept.held m)))

no_holder : (o : Option ℕ) → ((b : ℕ) → o ≡ Some b → ⊥) → IsSome o → ⊥
no_holder None nobody has = cc
no_holder (Some b) nobody has = nobody b refl

module _ (agenda agenda' : Waiting) (h h' : Holders) (k k' : ℕ → ℕ → Bool) (c n : ℕ) (kept : IsKept agenda h k) (rising : IsRising agenda') (dues : (m : ℕ) → (m ≡ n → ⊥) → due_of agenda' m ≡ due_of agenda m) (others : (m : ℕ) → (m ≡ n → ⊥) → h' m ≡ h m) where
  -- this connection holds the number from now on
  pub kept_hold : (d : ℕ) → due_of agenda n ≡ Some (Some d) → due_of agenda' n ≡ Some None → h' n ≡ Some c → ((b m : ℕ) → k' b m ≡ cond (is_eq (pair_cmp (c, n) (b, m))) true (k b m)) → IsKept agenda' h' k'
  kept_hold d was due holder pairs = record {
    rising = rising;
    held = held_all agenda agenda' h h' k n kept dues others (λ e. subst IsSome (sym holder) refl, λ has. due);
    told = λ b m. (
      λ e. split_true (is_eq (pair_cmp (c, n) (b, m))) (k b m)
          (λ at. let both = pair_at c n b m at in ap h' (sym both.1) ∙ (holder ∙ ap Some both.0))
          (λ old. let was_held : h m ≡ Some b = (kept.told b m).0 old in
          others m (λ same. free h agenda k n b d kept was (sym (ap h same) ∙ was_held)) ∙ was_held)
          (sym (pairs b m) ∙ e),
      λ e. pairs b m ∙ by_number n m
          (λ same.
          let here : Some c ≡ Some b = sym holder ∙ (sym (ap h' same) ∙ e) in
          let who : c ≡ b = cc in
          let at = pair_same c n b m who (sym same) in
          ap (λ (x : Bool). cond x true (k b m)) at)
          (λ apart. cond_true (is_eq (pair_cmp (c, n) (b, m))) (k b m)
          ((kept.told b m).1 (sym (others m apart) ∙ e))),
    );
    moments = λ m t e. by_number n m
        (λ same.
        let here : Some None ≡ Some (Some t) = sym due ∙ subst (λ (x : ℕ). due_of agenda' x ≡ Some (Some t)) same e in
        cc)
        (λ apart. kept.moments m t (sym (dues m apart) ∙ e));
  }

  -- this connection held the number, and none does from now on
  pub kept_drop : h n ≡ Some c → (due_of agenda' n ≡ Some None → ⊥) → ((t : ℕ) → due_of agenda' n ≡ Some (Some t) → t < 2 ^ 64) → h' n ≡ None → ((b m : ℕ) → k' b m ≡ cond (is_eq (pair_cmp (c, n) (b, m))) false (k b m)) → IsKept agenda' h' k'
  kept_drop was due fits none pairs = record {
    rising = rising;
    held = held_all agenda agenda' h h' k n kept dues others (
      λ e. absurd (due e),
      λ has. absurd (no_holder (h' n) (λ b e. let here : None ≡ Some b = sym none ∙ e in cc) has),
    );
    told = λ b m. (
      λ e. split_false (is_eq (pair_cmp (c, n) (b, m))) (k b m)
          (λ off old.
          let was_held : h m ≡ Some b = (kept.told b m).0 old in
          others m (λ same.
          let here : Some c ≡ Some b = sym was ∙ (sym (ap h same) ∙ was_held) in
          let who : c ≡ b = cc in
          let at = pair_same c n b m who (sym same) in
          cc) ∙ was_held)
          (sym (pairs b m) ∙ e),
      λ e. by_number n m
          (λ same. let here : h' m ≡ None = ap h' same ∙ none in cc)
          (λ apart.
          let off = not_true (is_eq (pair_cmp (c, n) (b, m))) (λ at. apart (sym (pair_at c n b m at).1)) in
          pairs b m ∙ (ap (λ (x : Bool). cond x false (k b m)) off
          ∙ (kept.told b m).1 (sym (others m apart) ∙ e))),
    );
    moments = λ m t e. by_number n m
        (λ same. fits t (subst (λ (x : ℕ). due_of agenda' x ≡ Some (Some t)) same e))
        (λ apart. kept.moments m t (sym (dues m apart) ∙ e));
  }

-- no connection holds the number, before or after
pub kept_free : (agenda agenda' : Waiting) (h : Holders) (k : ℕ → ℕ → Bool) (n : ℕ) → IsKept agenda h k
    → IsRising agenda' → ((m : ℕ) → (m ≡ n → ⊥) → due_of agenda' m ≡ due_of agenda m) → ((b : ℕ) → h n ≡ Some b → ⊥)
    → (due_of agenda' n ≡ Some None → ⊥) → ((t : ℕ) → due_of agenda' n ≡ Some (Some t) → t < 2 ^ 64)
    → IsKept agenda' h k
kept_free agenda agenda' h k n kept rising dues nobody due fits = record {
  rising = rising;
  held = held_all agenda agenda' h h k n kept dues (λ m apart. refl)
      (λ e. absurd (due e), λ has. absurd (no_holder (h n) nobody has));
  told = kept.told;
  moments = λ m t e. by_number n m
      (λ same. fits t (subst (λ (x : ℕ). due_of agenda' x ≡ Some (Some t)) same e))
      (λ apart. kept.moments m t (sym (dues m apart) ∙ e));
}

-- ---- what a call says of the moments afterwards

pub other_due : {X : Type 0} (n m : ℕ) (x o : X) → (m ≡ n → ⊥) → cond (n == m) x o ≡ o
other_due n m x o apart = ap (λ (b : Bool). cond b x o) (ne_eqb n m (λ e. apart (sym e)))

pub own_due : {X : Type 0} (n : ℕ) (x o : X) → cond (n == n) x o ≡ x
own_due n x o = ap (λ (b : Bool). cond b x o) (eq-eqb n n refl)

pub some_apart : (o : Option (Option ℕ)) (d : ℕ) → o ≡ Some (Some d) → o ≡ Some None → ⊥
some_apart o d e f = let h : Some (Some d) ≡ Some None = sym e ∙ f in cc

pub none_apart : (o : Option (Option ℕ)) → o ≡ None → o ≡ Some None → ⊥
none_apart o e f = let h : None ≡ Some None = sym e ∙ f in cc

-- a moment of 64 bits
pub some_fits : (o : Option (Option ℕ)) (d t : ℕ) → o ≡ Some (Some d) → d < 2 ^ 64 → o ≡ Some (Some t) → t < 2 ^ 64
some_fits o d t e fits f = let same : d ≡ t = cc in subst (λ (x : ℕ). x < 2 ^ 64) same fits

pub none_fits : (o : Option (Option ℕ)) (t : ℕ) → o ≡ None → o ≡ Some (Some t) → t < 2 ^ 64
none_fits o t e f = let h : None ≡ Some (Some t) = sym e ∙ f in cc

-- a number that waits for nothing yet is held by none
pub nobody_yet : (h : Holders) (agenda : Waiting) (k : ℕ → ℕ → Bool) (n b : ℕ) → IsKept agenda h k → due_of agenda n ≡ None → h n ≡ Some b → ⊥
nobody_yet h agenda k n b kept none holder = none_apart (due_of agenda n) none (held_due h agenda k n b kept holder)

-- a number is put in, or memory is refused
pub kept_put : {T E : Type 0} (result : Result T E) (agenda agenda' : Waiting) (h : Holders) (k : ℕ → ℕ → Bool) (n : ℕ) → IsKept agenda h k → due_of agenda n ≡ None
    → OnOk result (agenda' ≡ added agenda n (Some 0)) → OnErr result (agenda' ≡ agenda)
    → ((m : ℕ) → due_of (added agenda n (Some 0)) m ≡ cond (n == m) (Some (Some 0)) (due_of agenda m)) → IsRising (added agenda n (Some 0)) → IsKept agenda' h k
kept_put (Ok t) agenda agenda' h k n kept none ok err moments rising =
    let own = moments n ∙ own_due n (Some (Some 0)) (due_of agenda n) in
    subst (λ (w : Waiting). IsKept w h k) (sym ok)
    (kept_free agenda (added agenda n (Some 0)) h k n kept rising
    (λ m apart. moments m ∙ other_due n m (Some (Some 0)) (due_of agenda m) apart)
    (λ b e. nobody_yet h agenda k n b kept none e)
    (some_apart (due_of (added agenda n (Some 0)) n) 0 own)
    (λ t. some_fits (due_of (added agenda n (Some 0)) n) 0 t own (omega arith)))
kept_put (Err e) agenda agenda' h k n kept none ok err moments rising = subst (λ (w : Waiting). IsKept w h k) (sym err) kept

-- ---- the first pair of a connection

pair_from : (c n : ℕ) → is_gt (pair_cmp (c, 0) (c, n)) ≡ false
pair_from c n = ap (λ (o : Ordering). is_gt (ordering_then o (nat_cmp 0 n))) (tied_itself nat_cmp_total c) ∙ zero_first n
  where
    zero_first : (m : ℕ) → is_gt (nat_cmp 0 m) ≡ false
    zero_first m = grind (arith, nat_tests)

pub from_first : (c n : ℕ) → IsInRange pair_cmp (Included (c, 0)) Unbounded (c, n)
from_first c n = (pair_from c n, tt)

then_gt : (o r : Ordering) → is_gt (ordering_then o r) ≡ false → is_gt o ≡ false
then_gt Less r e = refl
then_gt Equal r e = refl
then_gt Greater r e = cc

-- a pair between the first that a connection may have and one that it has is of that connection
pub between : (c n : ℕ) (p : ℕ × ℕ) → is_gt (pair_cmp (c, 0) p) ≡ false → is_gt (pair_cmp p (c, n)) ≡ false → p.0 ≡ c
between c n p low high =
    let a : c ≤ p.0 = le_from_not_gt c p.0 (then_gt (nat_cmp c p.0) (nat_cmp 0 p.1) low) in
    let b : p.0 ≤ c = le_from_not_gt p.0 c (then_gt (nat_cmp p.0 c) (nat_cmp p.1 n) high) in
    omega arith
