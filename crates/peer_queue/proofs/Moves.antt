-- The places of an index when its numbers change.
use Rattle.std.proofs.Common.{◌≡◌, ◌==◌, ◌⊎◌, inl, inr, ℕ, zero, suc, ◌<◌, ◌≤◌, Bool, true, false, cond, Option, Some, None, [], ◌∷◌, refl, sym, ap, ◌∙◌, subst, arith}
use Rattle.std.specs.Prelude.{IfNone, IfSome, IsSome, option_map, find, Result, Ok, Err, OnOk}
use Rattle.std.specs.Ordering.{match_ordering, nat_cmp}
use Rattle.std.specs.declared.cmp.Ordering.{Ordering}
use Rattle.std.specs.declared.cmp.Ordering.TheVariants.{Less, Equal, Greater}
use Rattle.std.proofs.lemmas.Bool.{eqb-true, eqb-false, eq-eqb, ne_eqb}
use Rattle.std.proofs.lemmas.Bool.Decides.{nat_tests}
use Rattle.deferral.specs.Due.{Waiting, AllNumbers, IsDue, IsLeastDue, IsRising, added, changed, due_of, removed}
use Rattle.peer_queue.specs.DebtPlace.{DebtPlace, Places, Ready, gone, is_candidate, least_candidate, moved, place_at}
use Rattle.peer_queue.specs.DebtPlace.{with_place}
use Rattle.peer_queue.specs.Index.{Holders, due_at, place_by, place_for, places_by}
use Rattle.peer_queue.specs.declared.wait.Readiness.{Readiness}
use Rattle.peer_queue.specs.declared.wait.Readiness.TheVariants.{Ready as ReadyNow, Until}

-- the moment at which a wait is due gives the place for it
due_place : (wait : Readiness) → place_for (Until (due_at wait)) ≡ place_for wait
due_place ReadyNow = refl
due_place (Until moment) = refl

-- ---- another moment, or none

moved_step : (k h : Holders) (n : ℕ) (x : ℕ × Option ℕ) (due o : Option ℕ) (b : Bool) → (x.0 == n) ≡ b → k n ≡ o → (b ≡ false → k x.0 ≡ h x.0)
    → ◌≡◌ {A = ℕ × DebtPlace} (x.0, place_by (k x.0) (cond b due x.1)) (cond b (n, place_by o due) (x.0, place_by (h x.0) x.1))
moved_step k h n x due o true e here same = ap (λ (m : ℕ). (m, place_by (k m) due)) (eqb-true x.0 n e) ∙ ap (λ (q : Option ℕ). (n, place_by q due)) here
moved_step k h n x due o false e here same = ap (λ (q : Option ℕ). (x.0, place_by q x.1)) (same refl)

pub moved_by : (k h : Holders) (agenda : Waiting) (n : ℕ) (due o : Option ℕ) → k n ≡ o → ((m : ℕ) → (m ≡ n → ⊥) → k m ≡ h m) → places_by k (changed agenda n due) ≡ moved (places_by h agenda) n (place_by o due)
moved_by k h [] n due o here same = refl
moved_by k h (x ∷ xs) n due o here same =
    ap (λ (e : ℕ × DebtPlace). e ∷ places_by k (changed xs n due)) (moved_step k h n x due o (x.0 == n) refl here (λ e. same x.0 (eqb-false x.0 n e)))
    ∙ ap (λ (l : Places). cond (x.0 == n) (n, place_by o due) (x.0, place_by (h x.0) x.1) ∷ l) (moved_by k h xs n due o here same)

-- a number that none holds any more, and its wait
pub moved_wait : (k h : Holders) (agenda : Waiting) (n d : ℕ) (wait : Readiness) → d ≡ due_at wait → k n ≡ None
    → ((m : ℕ) → (m ≡ n → ⊥) → k m ≡ h m)
    → places_by k (changed agenda n (Some d)) ≡ moved (places_by h agenda) n (place_for wait)
moved_wait k h agenda n d wait due none same =
    moved_by k h agenda n (Some d) None none same
    ∙ ap (moved (places_by h agenda) n) (ap (λ (m : ℕ). place_for (Until m)) due ∙ due_place wait)

-- ---- taken out

gone_step : (k h : Holders) (n : ℕ) (x : ℕ × Option ℕ) (b : Bool) (u v : Places) → b ≡ false → k x.0 ≡ h x.0 → u ≡ v
    → (x.0, place_by (k x.0) x.1) ∷ u ≡ cond (cond b false true) ((x.0, place_by (h x.0) x.1) ∷ v) v
gone_step k h n x true u v e same rest = cc
gone_step k h n x false u v e same rest = ap (λ (q : Option ℕ). (x.0, place_by q x.1) ∷ u) same ∙ ap (λ (l : Places). (x.0, place_by (h x.0) x.1) ∷ l) rest

gone_absent : (k h : Holders) (agenda : Waiting) (n : ℕ) → AllNumbers (λ m. n < m) agenda → ((m : ℕ) → (m ≡ n → ⊥) → k m ≡ h m) → places_by k agenda ≡ gone (places_by h agenda) n
gone_absent k h [] n above same = refl
gone_absent k h (x ∷ xs) n above same =
    let apart : x.0 ≡ n → ⊥ = λ e. omega (arith, above.0, e) in
    gone_step k h n x (x.0 == n) (places_by k xs) (gone (places_by h xs) n) (ne_eqb x.0 n apart) (same x.0 apart) (gone_absent k h xs n above.1 same)

gone_either : (k h : Holders) (x : ℕ × Option ℕ) (xs : Waiting) (n : ℕ) (b : Bool) → (x.0 == n) ≡ b → (b ≡ true → places_by k xs ≡ gone (places_by h xs) n) → (b ≡ false → k x.0 ≡ h x.0) → places_by k (removed xs n) ≡ gone (places_by h xs) n
    → places_by k (cond b xs (x ∷ removed xs n)) ≡ cond (cond b false true) ((x.0, place_by (h x.0) x.1) ∷ gone (places_by h xs) n) (gone (places_by h xs) n)
gone_either k h x xs n true e here same rest = here refl
gone_either k h x xs n false e here same rest = ap (λ (q : Option ℕ). (x.0, place_by q x.1) ∷ places_by k (removed xs n)) (same refl) ∙ ap (λ (l : Places). (x.0, place_by (h x.0) x.1) ∷ l) rest

pub gone_by : (k h : Holders) (agenda : Waiting) (n : ℕ) → IsRising agenda → ((m : ℕ) → (m ≡ n → ⊥) → k m ≡ h m) → places_by k (removed agenda n) ≡ gone (places_by h agenda) n
gone_by k h [] n rising same = refl
gone_by k h (x ∷ xs) n rising same =
    gone_either k h x xs n (x.0 == n) refl
    (λ e. gone_absent k h xs n (subst (λ (m : ℕ). AllNumbers (λ later. m < later) xs) (eqb-true x.0 n e) rising.0) same)
    (λ e. same x.0 (eqb-false x.0 n e))
    (gone_by k h xs n rising.1 same)

-- ---- put in

-- what has no place does not wait
pub absent_due : (h : Holders) (agenda : Waiting) (n : ℕ) → place_at (places_by h agenda) n ≡ None
    → due_of agenda n ≡ None
absent_due h [] n none = refl
absent_due h (x ∷ xs) n none = on (x.0 == n) none (absent_due h xs n)
  where
    on : (b : Bool) → cond b (Some (place_by (h x.0) x.1)) (place_at (places_by h xs) n) ≡ None
        → (place_at (places_by h xs) n ≡ None → due_of xs n ≡ None) → cond b (Some x.1) (due_of xs n) ≡ None
    on true is rest = cc
    on false is rest = rest is

added_step : (h : Holders) (n : ℕ) (x : ℕ × Option ℕ) (xs ys : Waiting) (p : Places) (order : Ordering)
    → places_by h ys ≡ p
    → places_by h (match_ordering order ((n, Some 0) ∷ x ∷ xs) ((x.0, Some 0) ∷ xs) (x ∷ ys))
    ≡ match_ordering order ((n, Ready) ∷ (x.0, place_by (h x.0) x.1) ∷ places_by h xs) ((x.0, Ready) ∷ places_by h xs)
    ((x.0, place_by (h x.0) x.1) ∷ p)
added_step h n x xs ys p Less rest = refl
added_step h n x xs ys p Equal rest = refl
added_step h n x xs ys p Greater rest = ap (λ (l : Places). (x.0, place_by (h x.0) x.1) ∷ l) rest

-- a number that is put in, due at once, is ready in its place
added_by : (h : Holders) (agenda : Waiting) (n : ℕ)
    → places_by h (added agenda n (Some 0)) ≡ with_place (places_by h agenda) n Ready
added_by h [] n = refl
added_by h (x ∷ xs) n =
    added_step h n x xs (added xs n (Some 0)) (with_place (places_by h xs) n Ready) (nat_cmp n x.0) (added_by h xs n)

-- ---- the least number that may be claimed

above_step : (a n m : ℕ) (d : Option ℕ) (b : Bool) (o : Option (Option ℕ)) → (m == n) ≡ b → a < m → (IsSome o → a < n) → IsSome (cond b (Some d) o) → a < n
above_step a n m d true o e h f has = omega (arith, h, eqb-true m n e)
above_step a n m d false o e h f has = f has

pub above_at : (a n : ℕ) (xs : Waiting) → AllNumbers (λ m. a < m) xs → IsSome (due_of xs n) → a < n
above_at a n [] above has = absurd (cc)
above_at a n (x ∷ xs) above has = above_step a n x.0 x.1 (x.0 == n) (due_of xs n) refl above.0 (λ s. above_at a n xs above.1 s) has

-- one that may be claimed waits for a moment that has come
candidate_due : (now : ℕ) (q d : Option ℕ) → is_candidate now (place_by q d) ≡ true → (due : ℕ) × (d ≡ Some due) × (due ≤ now)
candidate_due now q None e = cc
candidate_due now q (Some zero) e = (zero, refl, omega arith)
candidate_due now q (Some (suc m)) e = (suc m, refl, grind (arith, nat_tests))

due_candidate : (now due : ℕ) (q : Option ℕ) → due ≤ now → is_candidate now (place_by q (Some due)) ≡ true
due_candidate now zero q h = refl
due_candidate now (suc m) q h = grind (arith, nat_tests)

pub in_tail : (now n : ℕ) (x : ℕ × Option ℕ) (xs : Waiting) → IsRising (x ∷ xs) → IsDue xs now n → IsDue (x ∷ xs) now n
in_tail now n x xs rising due =
    let above : x.0 < n = above_at x.0 n xs rising.0 (subst IsSome (sym due.1) refl) in
    let apart : (x.0 == n) ≡ false = ne_eqb x.0 n (omega arith) in
    (due.0, ap (λ (b : Bool). cond b (Some x.1) (due_of xs n)) apart ∙ due.1, due.2)

pub at_head : (now : ℕ) (x : ℕ × Option ℕ) (xs : Waiting) (d : ℕ) → x.1 ≡ Some d → d ≤ now → IsDue (x ∷ xs) now x.0
at_head now x xs d is h = (d, ap (λ (b : Bool). cond b (Some x.1) (due_of xs x.0)) (eq-eqb x.0 x.0 refl) ∙ ap Some is, h)

-- due at the head or after it
pub due_cases : (now n : ℕ) (x : ℕ × Option ℕ) (xs : Waiting) → IsDue (x ∷ xs) now n → ((x.0 ≡ n) × ((d : ℕ) × (x.1 ≡ Some d) × (d ≤ now))) ⊎ IsDue xs now n
due_cases now n x xs due = on (x.0 == n) refl due.1
  where
    on : (b : Bool) → (x.0 == n) ≡ b → cond b (Some x.1) (due_of xs n) ≡ Some (Some due.0) → ((x.0 ≡ n) × ((d : ℕ) × (x.1 ≡ Some d) × (d ≤ now))) ⊎ IsDue xs now n
    on true e is = let same : x.1 ≡ Some due.0 = cc in inl (eqb-true x.0 n e, (due.0, same, due.2))
    on false e is = inr (due.0, is, due.2)

none_step : (b : Bool) (e : ℕ × DebtPlace) (o : Option (ℕ × DebtPlace)) → (b ≡ true → ⊥) → option_map (λ (entry : ℕ × DebtPlace). entry.0) o ≡ None → option_map (λ (entry : ℕ × DebtPlace). entry.0) (cond b (Some e) o) ≡ None
none_step true e o f rest = absurd (f refl)
none_step false e o f rest = rest

pub least_none : (h : Holders) (agenda : Waiting) (now : ℕ) → IsRising agenda → ((n : ℕ) → IsDue agenda now n → ⊥) → least_candidate now (places_by h agenda) ≡ None
least_none h [] now rising none = refl
least_none h (x ∷ xs) now rising none =
    none_step (is_candidate now (place_by (h x.0) x.1)) (x.0, place_by (h x.0) x.1) (find (λ (entry : ℕ × DebtPlace). is_candidate now entry.1) (places_by h xs))
    (λ e. let d = candidate_due now (h x.0) x.1 e in none x.0 (at_head now x xs d.0 d.1 d.2))
    (least_none h xs now rising.1 (λ n due. none n (in_tail now n x xs rising due)))

some_step : (b : Bool) (e : ℕ × DebtPlace) (o : Option (ℕ × DebtPlace)) (n : ℕ) → (b ≡ true → e.0 ≡ n) → (b ≡ false → option_map (λ (entry : ℕ × DebtPlace). entry.0) o ≡ Some n) → option_map (λ (entry : ℕ × DebtPlace). entry.0) (cond b (Some e) o) ≡ Some n
some_step true e o n f g = ap (λ (m : ℕ). Some m) (f refl)
some_step false e o n f g = g refl

pub least_some : (h : Holders) (agenda : Waiting) (now n : ℕ) → IsRising agenda → IsLeastDue agenda now n → least_candidate now (places_by h agenda) ≡ Some n
least_some h [] now n rising is = absurd (let e = is.due.1 in cc)
least_some h (x ∷ xs) now n rising is =
    let cases = due_cases now n x xs is.due in
    some_step (is_candidate now (place_by (h x.0) x.1)) (x.0, place_by (h x.0) x.1) (find (λ (entry : ℕ × DebtPlace). is_candidate now entry.1) (places_by h xs)) n
    (λ e. elim cases [
      | inl here ↦ here.0
      | inr there ↦
          let d = candidate_due now (h x.0) x.1 e in
          let low : n ≤ x.0 = is.least x.0 (at_head now x xs d.0 d.1 d.2) in
          let high : x.0 < n = above_at x.0 n xs rising.0 (subst IsSome (sym there.1) refl) in
          absurd (omega arith)
    ])
    (λ e. elim cases [
      | inl here ↦
          let may : is_candidate now (place_by (h x.0) x.1) ≡ true = ap (λ (q : Option ℕ). is_candidate now (place_by (h x.0) q)) here.1.1 ∙ due_candidate now here.1.0 (h x.0) here.1.2 in
          absurd (cc)
      | inr there ↦ least_some h xs now n rising.1 (record { due = there; least = λ other due. is.least other (in_tail now other x xs rising due) })
    ])

pub candidate_is : (r : Option ℕ) (h : Holders) (agenda : Waiting) (now : ℕ) → IsRising agenda → IfSome r (λ n. IsLeastDue agenda now n) → IfNone r ((n : ℕ) → IsDue agenda now n → ⊥) → r ≡ least_candidate now (places_by h agenda)
candidate_is None h agenda now rising some none = sym (least_none h agenda now rising none)
candidate_is (Some n) h agenda now rising some none = sym (least_some h agenda now n rising some)

-- a number that is ready is due at 0
pub ready_put : {T E : Type 0} (result : Result T E) (agenda agenda' : Waiting) (n d : ℕ) → d ≡ due_at ReadyNow
    → OnOk result (agenda' ≡ added agenda n (Some d)) → OnOk result (agenda' ≡ added agenda n (Some 0))
ready_put result agenda agenda' n d ready = subst (λ (m : ℕ). OnOk result (agenda' ≡ added agenda n (Some m))) ready

-- a number is put in, or memory is refused
pub places_put : {T E : Type 0} (result : Result T E) (agenda agenda' : Waiting) (h : Holders) (n : ℕ)
    → OnOk result (agenda' ≡ added agenda n (Some 0))
    → OnOk result (places_by h agenda' ≡ with_place (places_by h agenda) n Ready)
places_put (Ok t) agenda agenda' h n ok = ap (places_by h) ok ∙ added_by h agenda n
places_put (Err e) agenda agenda' h n ok = tt
