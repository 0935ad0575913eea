-- Whether each number waits for a moment.
use Rattle.std.proofs.Common.{◌≡◌, ◌==◌, ℕ, zero, suc, ◌<◌, ◌≤◌, Bool, true, false, cond, Option, Some, None, List, []}
use Rattle.std.proofs.Common.{◌∷◌, refl, sym, ap, ◌∙◌, subst, arith}
use Rattle.std.specs.Prelude.{◌↔◌, IfNone, IfSome, IsSome, IsTrue, is_some, length, not}
use Rattle.std.specs.BTreeSet.{BTreeSet, btree_set_len}
use Rattle.std.specs.List.{All}
use Rattle.std.proofs.lemmas.Bool.{eqb-true, eq-eqb, ne_eqb}
use Rattle.std.proofs.lemmas.List.Elements.{All-nil, All-cons, All-head, All-tail}
use Rattle.deferral.specs.Due.{Waiting, IsDue, IsRising, due_of}
use Rattle.peer_queue.specs.DebtPlace.{DebtPlace, IsLater, Places}
use Rattle.peer_queue.specs.Index.{Holders, due_at, holder_in, place_by, place_for, places_by}
use Rattle.peer_queue.specs.declared.wait.Readiness.TheVariants.{Ready, Until}
use Rattle.peer_queue.proofs.Moves.{above_at, at_head, in_tail}

-- each of them waits for a moment
abbrev pub AreLater : Places → Type 0
AreLater places = All (λ (entry : ℕ × DebtPlace). IsLater entry.1) places

later_place : (holder due : Option ℕ) → (due ≡ None → ⊥) → (due ≡ Some zero → ⊥) → IsLater (place_by holder due)
later_place holder None held ready = absurd (held refl)
later_place holder (Some zero) held ready = absurd (ready refl)
later_place holder (Some (suc moment)) held ready = tt

due_head : (x : ℕ × Option ℕ) (xs : Waiting) (d : Option ℕ) → x.1 ≡ d → due_of (x ∷ xs) x.0 ≡ Some d
due_head x xs d is = ap (λ (b : Bool). cond b (Some x.1) (due_of xs x.0)) (eq-eqb x.0 x.0 refl) ∙ ap Some is

due_tail : (x : ℕ × Option ℕ) (xs : Waiting) (n : ℕ) (d : Option ℕ) → IsRising (x ∷ xs) → due_of xs n ≡ Some d
    → due_of (x ∷ xs) n ≡ Some d
due_tail x xs n d rising is =
    let above : x.0 < n = above_at x.0 n xs rising.0 (subst IsSome (sym is) refl) in
    ap (λ (b : Bool). cond b (Some x.1) (due_of xs n)) (ne_eqb x.0 n (omega arith)) ∙ is

-- if none is held and none is due now, each waits
pub are_later : (h : Holders) (agenda : Waiting) (now : ℕ) → IsRising agenda
    → ((n : ℕ) → due_of agenda n ≡ Some None → ⊥) → ((n : ℕ) → IsDue agenda now n → ⊥)
    → AreLater (places_by h agenda)
are_later h [] now rising held ready = All-nil (λ (entry : ℕ × DebtPlace). IsLater entry.1)
are_later h (x ∷ xs) now rising held ready =
    All-cons (λ (entry : ℕ × DebtPlace). IsLater entry.1) (x.0, place_by (h x.0) x.1) (places_by h xs)
    (later_place (h x.0) x.1 (λ is. held x.0 (due_head x xs None is))
    (λ is. ready x.0 (at_head now x xs 0 is (omega arith))))
    (are_later h xs now rising.1 (λ n is. held n (due_tail x xs n None rising is))
    (λ n due. ready n (in_tail now n x xs rising due)))

-- if each waits, this one does
pub later_at : (h : Holders) (agenda : Waiting) (n : ℕ) (d : Option ℕ) → AreLater (places_by h agenda)
    → due_of agenda n ≡ Some d → IsLater (place_by (h n) d)
later_at h [] n d all is = cc
later_at h (x ∷ xs) n d all is =
    on (x.0 == n) refl is (λ there. later_at h xs n d
    (All-tail (λ (entry : ℕ × DebtPlace). IsLater entry.1) (x.0, place_by (h x.0) x.1) (places_by h xs) all) there)
  where
    on : (b : Bool) → (x.0 == n) ≡ b → cond b (Some x.1) (due_of xs n) ≡ Some d
        → (due_of xs n ≡ Some d → IsLater (place_by (h n) d)) → IsLater (place_by (h n) d)
    on true e here rest =
        let same : x.1 ≡ d = cc in
        let first = All-head (λ (entry : ℕ × DebtPlace). IsLater entry.1) (x.0, place_by (h x.0) x.1)
        (places_by h xs) all in
        subst (λ (due : Option ℕ). IsLater (place_by (h n) due)) same
        (subst (λ (m : ℕ). IsLater (place_by (h m) x.1)) (eqb-true x.0 n e) first)
    on false e there rest = rest there

-- so that none is held
pub none_held : (h : Holders) (agenda : Waiting) (n : ℕ) → AreLater (places_by h agenda) → due_of agenda n ≡ Some None
    → ⊥
none_held h agenda n all is = later_at h agenda n None all is

at_once : (due : ℕ) → due ≤ 0 → IsLater (place_for (Until due)) → ⊥
at_once zero low later = later
at_once (suc due) low later = omega (arith, low)

-- and none is due at 0, as what is ready is
pub none_due : (h : Holders) (agenda : Waiting) (now n : ℕ) → now ≡ due_at Ready → AreLater (places_by h agenda)
    → IsDue agenda now n → ⊥
none_due h agenda now n ready all due =
    at_once due.0 (subst (λ (m : ℕ). due.0 ≤ m) ready due.2) (later_at h agenda n (Some due.0) all due.1)

-- ---- what the two tests find

none_of : (pairs : List (ℕ × ℕ)) (n : ℕ) → (0 < length pairs → ⊥) → IsSome (holder_in pairs n) → ⊥
none_of [] n empty some = cc
none_of (x ∷ xs) n empty some = empty (omega arith)

-- if there is no pair, none is held
pub none_in : (held : BTreeSet (ℕ × ℕ)) (n : ℕ) → (IsSome {T = ℕ × ℕ} None ↔ (0 < btree_set_len held))
    → IsSome (holder_in held.keys n) → ⊥
none_in held n empty some = none_of held.keys n (λ long. let has = empty.1 long in cc) some

-- if there is no least one that is due exactly if this holds, the test says so
pub told : {A : Type 0} (r : Option ℕ) (b : Bool) (P : ℕ → Type 0) (N : Type 0) → is_some r ≡ not b → IfSome r P
    → IfNone r N → (N → A) → (A → (n : ℕ) → P n → ⊥) → IsTrue b ↔ A
told (Some n) true P N is some none up down = absurd (cc)
told (Some n) false P N is some none up down = (λ e. absurd (cc), λ a. absurd (down a n some))
told None true P N is some none up down = (λ e. up none, λ a. refl)
told None false P N is some none up down = absurd (cc)
