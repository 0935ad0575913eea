use Rattle.std.proofs.Common.{◌≡◌, List, ℕ, Bool, true, false, Option, sym, subst}
use Rattle.std.specs.Prelude.{IfNone, IfSome}
use Rattle.std.specs.List.{slice_get}
use Rattle.std.specs.BTreeSet.{contains}
use Rattle.peer_queue.specs.DebtPlace.{AreRising, IsHeldBy, Places}
use Rattle.peer_queue.specs.Index.{Holders, holder_in, holds, pair_cmp}
use Rattle.std.specs.Ordering.{is_gt}
use Rattle.std.specs.BTreeMap.Range.{IsInRange}
use Rattle.std.specs.declared.ops.Bound.TheVariants.{Included, Unbounded}
use Rattle.peer_queue.proofs.Releases.{rising_by}
use Rattle.peer_queue.proofs.Kept as kept
use Rattle.peer_queue.proofs.place_index.PlaceIndex.first_held_by.Goals as goal

pub returns-in_err-holder-clause-none : goal.returns-in_err-holder-clause-none
returns-in_err-holder-clause-none c =
    let agenda = c.self.inside.agenda in
    let h : Holders = holder_in c.self.inside.held.keys in
    let k : ℕ → ℕ → Bool = holds c.self.inside.held in
    let b = c.args.connection.0 in
    let told : (n : ℕ) → IsHeldBy c.args.self.now b n → contains pair_cmp c.self.inside.held (b, n) ≡ true = λ n held.
    let here = subst (λ (p : Places). IsHeldBy p b n) (sym c.self.view_is) held in
    (c.self.invariant.told b n).1 (kept.held_by h agenda k n b c.self.invariant here).0 in
    subst (λ (r : Option ℕ). IfNone r ((n : ℕ) → IsHeldBy c.args.self.now b n → ⊥)) (sym c.from_residual.ensures)
    (λ n held. let off = (c.range.ensures.in_range tt).5 c.in_err-holder.ensures.steps.0 (b, n) (subst (λ (z : ℕ). IsInRange pair_cmp (Included (b, z)) Unbounded (b, n)) (sym c.new.ensures.key) (kept.from_first b n)) in let on = told n held in cc)

pub returns-then-holder-connection-clause-some : goal.returns-then-holder-connection-clause-some
returns-then-holder-connection-clause-some c =
    let agenda = c.self.inside.agenda in
    let h : Holders = holder_in c.self.inside.held.keys in
    let k : ℕ → ℕ → Bool = holds c.self.inside.held in
    let b = c.args.connection.0 in
    let key = c.in_ok-holder.field-0.now in
    let first = subst (λ (l : List (ℕ × ℕ)). IfSome (slice_get l 0) (λ (q : ℕ × ℕ). IsInRange pair_cmp (Included (b, c.new.result)) Unbounded q × (contains pair_cmp c.self.inside.held q ≡ true))) c.in_ok-holder.ensures.steps (c.range.ensures.in_range tt).1 in
    let told = subst (λ (x : ℕ). contains pair_cmp c.self.inside.held (x, key.1) ≡ true) c.if-holder-connection.true first.1 in
    subst (λ (p : Places). IsHeldBy p b key.1) c.self.view_is
    (kept.is_held_by h agenda k key.1 b c.self.invariant ((c.self.invariant.told b key.1).0 told))

pub returns-else-holder-connection-clause-none : goal.returns-else-holder-connection-clause-none
returns-else-holder-connection-clause-none c =
    let agenda = c.self.inside.agenda in
    let h : Holders = holder_in c.self.inside.held.keys in
    let k : ℕ → ℕ → Bool = holds c.self.inside.held in
    let b = c.args.connection.0 in
    let key = c.in_ok-holder.field-0.now in
    let first = subst (λ (l : List (ℕ × ℕ)). IfSome (slice_get l 0) (λ (q : ℕ × ℕ). IsInRange pair_cmp (Included (b, c.new.result)) Unbounded q × (contains pair_cmp c.self.inside.held q ≡ true))) c.in_ok-holder.ensures.steps (c.range.ensures.in_range tt).1 in
    λ n held.
    let here = subst (λ (p : Places). IsHeldBy p b n) (sym c.self.view_is) held in
    let told = (c.self.invariant.told b n).1 (kept.held_by h agenda k n b c.self.invariant here).0 in
    let least = subst (λ (l : List (ℕ × ℕ)). IfSome (slice_get l 0) (λ (q : ℕ × ℕ). is_gt (pair_cmp q (b, n)) ≡ false)) c.in_ok-holder.ensures.steps ((c.range.ensures.in_range tt).2 (b, n) (subst (λ (z : ℕ). IsInRange pair_cmp (Included (b, z)) Unbounded (b, n)) (sym c.new.ensures.key) (kept.from_first b n)) told) in
    let low = subst (λ (z : ℕ). is_gt (pair_cmp (b, z) key) ≡ false) c.new.ensures.key first.0.0 in
    c.if-holder-connection.false (kept.between b n key low least)

pub returns-in_err-holder-clause-rising : goal.returns-in_err-holder-clause-rising
returns-in_err-holder-clause-rising c = subst AreRising c.self.view_is (rising_by (holder_in c.self.inside.held.keys) c.self.inside.agenda c.self.invariant.rising)

pub returns-then-holder-connection-clause-rising : goal.returns-then-holder-connection-clause-rising
returns-then-holder-connection-clause-rising c = subst AreRising c.self.view_is (rising_by (holder_in c.self.inside.held.keys) c.self.inside.agenda c.self.invariant.rising)

pub returns-else-holder-connection-clause-rising : goal.returns-else-holder-connection-clause-rising
returns-else-holder-connection-clause-rising c = subst AreRising c.self.view_is (rising_by (holder_in c.self.inside.held.keys) c.self.inside.agenda c.self.invariant.rising)
