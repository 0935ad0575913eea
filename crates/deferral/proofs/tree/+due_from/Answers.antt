use Rattle.deferral.proofs.Below.{below, not_below}
use Rattle.std.proofs.Common.{◌≡◌, ◌⊎◌, ◌<◌, true, inl, inr, subst, sym, ◌∙◌}
use Rattle.std.specs.Prelude.{IsTrue}
use Rattle.deferral.specs.Due.{IsLeastDueFrom, is_by}
use Rattle.deferral.specs.Tree.{IsBoundsOf, waiting_in}
use Rattle.deferral.proofs.Forks.{due_on_left, due_on_right, none_on_right, sides_parted}
use Rattle.deferral.proofs.Moments.{due_alone, ruled_out}
use Rattle.deferral.proofs.tree.+due_from.Goals as goal
use Rattle.deferral.proofs.tree.+due_from.Goals.{Tree::due_from-then-is_below-via-then-is_below}
use Rattle.deferral.proofs.tree.+due_from.Goals.{Tree::due_from-then-is_below-via-else-is_below+then-not-is_by}

pub Fork::due_from-returns-in-Some-clause-some : goal.Fork::due_from-returns-in-Some-clause-some
Fork::due_from-returns-in-Some-clause-some t c = due_on_left c.args.first c.args.now _ c.self.view_is (sides_parted c.self.inside c.self.invariant) c.in-Some.ensures.some

pub Fork::due_from-returns-in_default-clause-some : goal.Fork::due_from-returns-in_default-clause-some
Fork::due_from-returns-in_default-clause-some t c =
    due_on_right c.args.first c.args.now _ c.self.view_is (sides_parted c.self.inside c.self.invariant) c.in_default.ensures.none c.due_from-in_default.ensures.some

pub Fork::due_from-returns-in_default-clause-none : goal.Fork::due_from-returns-in_default-clause-none
Fork::due_from-returns-in_default-clause-none t c =
    none_on_right c.args.first c.args.now _ c.self.view_is (sides_parted c.self.inside c.self.invariant) c.in_default.ensures.none c.due_from-in_default.ensures.none

pub Tree::due_from-returns-then-is_below-clause-none : goal.Tree::due_from-returns-then-is_below-clause-none
Tree::due_from-returns-then-is_below-clause-none t c =
    let b = c.bounds-last.result in
    let out : (b.last < c.args.first) ⊎ (IsTrue (is_by b.least c.args.now) → ⊥) = elim c.then-is_below.branch [
      | Tree::due_from-then-is_below-via-then-is_below w ↦ inl (below _ _ _ c.is_below.ensures w.if-is_below.true)
      | Tree::due_from-then-is_below-via-else-is_below+then-not-is_by w ↦ inr (λ h. let by : w.is_by.result ≡ true = w.is_by.ensures ∙ h in cc)
    ] in
    ruled_out b _ c.args.first c.args.now c.bounds-last.ensures out

pub Tree::due_from-returns-in-Leaf-clause-some : goal.Tree::due_from-returns-in-Leaf-clause-some
Tree::due_from-returns-in-Leaf-clause-some t c =
    let b = c.bounds-last.result in
    let entry = c.in-Leaf.entry in
    let told = subst (λ tree. IsBoundsOf b (waiting_in tree)) c.in-Leaf.is c.bounds-last.ensures in
    subst (λ tree. IsLeastDueFrom (waiting_in tree) c.args.first c.args.now entry.key) (sym c.in-Leaf.is)
    (due_alone b entry.key c.args.first c.args.now entry.due told (not_below _ _ _ c.is_below.ensures c.if-is_below.false) (sym c.is_by.ensures ∙ c.if-not-is_by.false))

pub Tree::due_from-returns-in-Fork-clause-none : goal.Tree::due_from-returns-in-Fork-clause-none
Tree::due_from-returns-in-Fork-clause-none t c = rw (c.in-Fork.is, ← c.deref.ensures) c.due_from.ensures.none
