-- The numbers of an index that no connection holds.
use Rattle.std.proofs.Common.{◌≡◌, ℕ, zero, suc, ◌<◌, ◌≤◌, Bool, true, false, cond, Option, Some, None}
use Rattle.std.proofs.Common.{List, [], ◌∷◌, map, refl, sym, ap, ◌∙◌, subst, inl, inr, arith}
use Rattle.std.specs.Prelude.{IfNone, IfSome, IsSome, ◌&&◌, nat_le, filter, find}
use Rattle.std.proofs.lemmas.Bool.{and_right, cases_lt, eq-eqb, le-leb, lt-leb, ne_eqb}
use Rattle.deferral.specs.Due.{Waiting, IsDue, IsLeastDueFrom, IsRising, due_numbers, due_of, is_by}
use Rattle.peer_queue.specs.DebtPlace.{AreUnheld, Places, all_gone, gone, unheld}
use Rattle.peer_queue.specs.Index.{Holders, place_by, places_by}
use Rattle.peer_queue.proofs.Moves.{above_at, at_head, due_cases, in_tail}

-- ---- the first of them

-- a number is among them if it has a moment
with_head : Option ℕ → ℕ → List ℕ → List ℕ
with_head None n l = l
with_head (Some d) n l = n ∷ l

unheld_cons : (q d : Option ℕ) (n : ℕ) (p : Places) → unheld ((n, place_by q d) ∷ p) ≡ with_head d n (unheld p)
unfolding with_head
unheld_cons q None n p = refl
unheld_cons q (Some zero) n p = refl
unheld_cons q (Some (suc m)) n p = refl

take_head : (first n d : ℕ) (o : Option ℕ) (l : List ℕ) → o ≡ Some d → first ≤ n → find (λ m. nat_le first m) (with_head o n l) ≡ Some n
unfolding with_head
take_head first n d o l is h =
    ap (λ (q : Option ℕ). find (λ m. nat_le first m) (with_head q n l)) is
    ∙ ap (λ (b : Bool). cond b (Some n) (find (λ m. nat_le first m) l)) (le-leb first n h)

skip_head : (first n : ℕ) (o : Option ℕ) (l : List ℕ) → ((d : ℕ) → o ≡ Some d → first ≤ n → ⊥) → find (λ m. nat_le first m) (with_head o n l) ≡ find (λ m. nat_le first m) l
unfolding with_head
skip_head first n None l f = refl
skip_head first n (Some d) l f =
    elim (cases_lt n first) [
      | inl before ↦ ap (λ (b : Bool). cond b (Some n) (find (λ m. nat_le first m) l)) (lt-leb first n before)
      | inr behind ↦ absurd (f d refl behind)
    ]

due_tail : (n d : ℕ) (x : ℕ × Option ℕ) (xs : Waiting) → IsRising (x ∷ xs) → due_of xs n ≡ Some (Some d) → due_of (x ∷ xs) n ≡ Some (Some d)
due_tail n d x xs rising is =
    let above : x.0 < n = above_at x.0 n xs rising.0 (subst IsSome (sym is) refl) in
    ap (λ (b : Bool). cond b (Some x.1) (due_of xs n)) (ne_eqb x.0 n (omega arith)) ∙ is

due_head : (d : ℕ) (x : ℕ × Option ℕ) (xs : Waiting) → x.1 ≡ Some d → due_of (x ∷ xs) x.0 ≡ Some (Some d)
due_head d x xs is = ap (λ (b : Bool). cond b (Some x.1) (due_of xs x.0)) (eq-eqb x.0 x.0 refl) ∙ ap (λ (o : Option ℕ). Some o) is

pub unheld_none : (h : Holders) (agenda : Waiting) (first now : ℕ) → IsRising agenda → ((n d : ℕ) → due_of agenda n ≡ Some (Some d) → d ≤ now) → ((n : ℕ) → first ≤ n → IsDue agenda now n → ⊥)
    → find (λ m. nat_le first m) (unheld (places_by h agenda)) ≡ None
unheld_none h [] first now rising within none = refl
unheld_none h (x ∷ xs) first now rising within none =
    let tail : (n d : ℕ) → due_of xs n ≡ Some (Some d) → d ≤ now = λ n d e. within n d (due_tail n d x xs rising e) in
    ap (find (λ m. nat_le first m)) (unheld_cons (h x.0) x.1 x.0 (places_by h xs))
    ∙ (skip_head first x.0 x.1 (unheld (places_by h xs)) (λ d e from. none x.0 from (at_head now x xs d e (within x.0 d (due_head d x xs e))))
    ∙ unheld_none h xs first now rising.1 tail (λ n from due. none n from (in_tail now n x xs rising due)))

pub unheld_some : (h : Holders) (agenda : Waiting) (first now n : ℕ) → IsRising agenda → ((m d : ℕ) → due_of agenda m ≡ Some (Some d) → d ≤ now) → IsLeastDueFrom agenda first now n
    → find (λ m. nat_le first m) (unheld (places_by h agenda)) ≡ Some n
unheld_some h [] first now n rising within is = absurd (let e = is.due.1 in cc)
unheld_some h (x ∷ xs) first now n rising within is =
    let tail : (m d : ℕ) → due_of xs m ≡ Some (Some d) → d ≤ now = λ m d e. within m d (due_tail m d x xs rising e) in
    let cases = due_cases now n x xs is.due in
    ap (find (λ m. nat_le first m)) (unheld_cons (h x.0) x.1 x.0 (places_by h xs))
    ∙ elim cases [
      | inl here ↦ take_head first x.0 here.1.0 x.1 (unheld (places_by h xs)) here.1.1 (omega (arith, here.0, is.from_first)) ∙ ap (λ (m : ℕ). Some m) here.0
      | inr there ↦
          skip_head first x.0 x.1 (unheld (places_by h xs)) (λ d e from.
          let low : n ≤ x.0 = is.least x.0 from (at_head now x xs d e (within x.0 d (due_head d x xs e))) in
          let high : x.0 < n = above_at x.0 n xs rising.0 (subst IsSome (sym there.1) refl) in
          omega arith)
          ∙ unheld_some h xs first now n rising.1 tail (record { from_first = is.from_first; due = there; least = λ other from due. is.least other from (in_tail now other x xs rising due) })
    ]

pub unheld_is : (r : Option ℕ) (h : Holders) (agenda : Waiting) (first now : ℕ) → IsRising agenda → ((n d : ℕ) → due_of agenda n ≡ Some (Some d) → d ≤ now)
    → IfSome r (λ n. IsLeastDueFrom agenda first now n) → IfNone r ((n : ℕ) → first ≤ n → IsDue agenda now n → ⊥) → r ≡ find (λ m. nat_le first m) (unheld (places_by h agenda))
unheld_is None h agenda first now rising within some none = sym (unheld_none h agenda first now rising within none)
unheld_is (Some n) h agenda first now rising within some none = sym (unheld_some h agenda first now n rising within some)

-- ---- all of them from one on

kept_by : (b : Bool) (n : ℕ) (o : Option ℕ) (rest : Waiting) (l : List ℕ) → map (λ (entry : ℕ × Option ℕ). entry.0) rest ≡ l
    → map (λ (entry : ℕ × Option ℕ). entry.0) (cond b ((n, o) ∷ rest) rest) ≡ cond b (n ∷ l) l
kept_by true n o rest l is = ap (λ (k : List ℕ). n ∷ k) is
kept_by false n o rest l is = is

and_true : (b c : Bool) → c ≡ true → (b && c) ≡ b
and_true true c is = is
and_true false c is = refl

due_cons : (first now n : ℕ) (o : Option ℕ) (xs : Waiting) (l : List ℕ) → ((d : ℕ) → o ≡ Some d → d ≤ now)
    → due_numbers first now xs ≡ filter (λ m. nat_le first m) l
    → due_numbers first now ((n, o) ∷ xs) ≡ filter (λ m. nat_le first m) (with_head o n l)
unfolding with_head
due_cons first now n None xs l within rest =
    let F = filter (λ (entry : ℕ × Option ℕ). nat_le first entry.0 && is_by entry.1 now) xs in
    ap (λ (b : Bool). map (λ (entry : ℕ × Option ℕ). entry.0) (cond b ((n, None) ∷ F) F))
    (and_right (nat_le first n) false refl)
    ∙ rest
due_cons first now n (Some d) xs l within rest =
    let F = filter (λ (entry : ℕ × Option ℕ). nat_le first entry.0 && is_by entry.1 now) xs in
    ap (λ (b : Bool). map (λ (entry : ℕ × Option ℕ). entry.0) (cond b ((n, Some d) ∷ F) F))
    (and_true (nat_le first n) (nat_le d now) (le-leb d now (within d refl)))
    ∙ kept_by (nat_le first n) n (Some d) F (filter (λ m. nat_le first m) l) rest

-- they are due at a moment that no wait ends behind
pub unheld_due : (h : Holders) (agenda : Waiting) (first now : ℕ) → IsRising agenda
    → ((n d : ℕ) → due_of agenda n ≡ Some (Some d) → d ≤ now)
    → due_numbers first now agenda ≡ filter (λ m. nat_le first m) (unheld (places_by h agenda))
unheld_due h [] first now rising within = refl
unheld_due h (x ∷ xs) first now rising within =
    let tail : (n d : ℕ) → due_of xs n ≡ Some (Some d) → d ≤ now = λ n d e. within n d (due_tail n d x xs rising e) in
    due_cons first now x.0 x.1 xs (unheld (places_by h xs)) (λ d e. within x.0 d (due_head d x xs e))
    (unheld_due h xs first now rising.1 tail)
    ∙ sym (ap (filter (λ m. nat_le first m)) (unheld_cons (h x.0) x.1 x.0 (places_by h xs)))

-- ---- taken out one after another

-- what is left of the numbers to take out, and of the places
pub record IsLeft (places left : Places) (numbers : List ℕ) (rest : List ℕ) : Type 0 where
  pub unheld : AreUnheld left rest
  pub same : all_gone left rest ≡ all_gone places numbers

left_cons : (places left : Places) (numbers rest : List ℕ) (n : ℕ) → IsLeft places left numbers (n ∷ rest) → IsLeft places (gone left n) numbers rest
left_cons places left numbers rest n is = record { unheld = is.unheld.1; same = is.same }

pub left_one : (places left left' : Places) (numbers rest rest' : List ℕ) (n : ℕ) → IsLeft places left numbers rest → rest ≡ n ∷ rest' → left' ≡ gone left n → IsLeft places left' numbers rest'
left_one places left left' numbers rest rest' n is here new =
    subst (λ (p : Places). IsLeft places p numbers rest') (sym new) (left_cons places left numbers rest' n (subst (λ (l : List ℕ). IsLeft places left numbers l) here is))

pub left_unheld : (places left : Places) (numbers rest rest' : List ℕ) (n : ℕ) → IsLeft places left numbers rest → rest ≡ n ∷ rest' → AreUnheld left (n ∷ rest')
left_unheld places left numbers rest rest' n is here = subst (λ (l : List ℕ). AreUnheld left l) here is.unheld

pub left_none : (places left : Places) (numbers rest : List ℕ) → IsLeft places left numbers rest → rest ≡ [] → left ≡ all_gone places numbers
left_none places left numbers rest is none = sym (ap (all_gone left) none) ∙ is.same
