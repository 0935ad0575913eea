use Rattle.deferral.proofs.Below.{below, not_below}
use Rattle.std.proofs.Common.{◌≡◌, ◌++◌, ◌↔◌, sym, subst, Bool}
use Rattle.std.specs.Prelude.{IsSome, IsTrue}
use Rattle.deferral.specs.Due.{due_of, removed}
use Rattle.deferral.specs.Tree.{both, waiting_in}
use Rattle.deferral.specs.declared.tree.Fork.TheInside.{Inside}
use Rattle.deferral.proofs.Sides.{IsParted}
use Rattle.deferral.proofs.Forks.{has_on_left, has_on_right, parted_taken_left, parted_taken_right, sides_parted}
use Rattle.deferral.proofs.Forks.{taken_on_left, taken_on_right, told_again}
use Rattle.deferral.proofs.tree.+remove.Goals as goal
use Rattle.deferral.proofs.tree.+remove.Goals.{Fork::remove-then-is_below, Fork::remove-else-is_below}

pub Fork::remove-invariant_of-self : goal.Fork::remove-invariant_of-self
Fork::remove-invariant_of-self t c =
    let fork = c.if-is_below.self-inside in
    let was = sides_parted c.self.inside c.self.invariant in
    let P : Inside → Type 0 = λ f. IsParted f.split (waiting_in f.left) (waiting_in f.right) in
    let parted : P fork = elim c.if-is_below.branch [
      | Fork::remove-then-is_below w ↦ subst P (sym w.self-inside-is) (parted_taken_left c.args.key was w.remove-was.ensures.new)
      | Fork::remove-else-is_below w ↦ subst P (sym w.self-inside-is) (parted_taken_right c.args.key was w.remove-was-else-is_below.ensures.new)
    ] in
    told_again fork _ _ _ parted c.bounds.ensures c.bounds-2.ensures (c.joined-rest.ensures _ _ c.bounds.ensures c.bounds-2.ensures)

pub Fork::remove-returns-clause-was : goal.Fork::remove-returns-clause-was
Fork::remove-returns-clause-was t c =
    let parted = sides_parted c.self.inside c.self.invariant in
    let P : Bool → Type 0 = λ was. IsTrue was ↔ IsSome (due_of (both c.args.self.now) c.args.key) in
    elim c.if-is_below.branch [
      | Fork::remove-then-is_below w ↦ subst P (sym w.was-is) (has_on_left c.args.key _ c.self.view_is parted (below _ _ _ c.is_below.ensures w.if-is_below.true) w.remove-was.ensures.was)
      | Fork::remove-else-is_below w ↦ subst P (sym w.was-is) (has_on_right c.args.key _ c.self.view_is parted (not_below _ _ _ c.is_below.ensures w.if-is_below.false) w.remove-was-else-is_below.ensures.was)
    ]

pub Fork::remove-returns-clause-new : goal.Fork::remove-returns-clause-new
Fork::remove-returns-clause-new t c =
    let was = sides_parted c.self.inside c.self.invariant in
    let P : Inside → Type 0 = λ f. waiting_in f.left ++ waiting_in f.right ≡ removed (both c.args.self.now) c.args.key in
    elim c.if-is_below.branch [
      | Fork::remove-then-is_below w ↦ subst P (sym w.self-inside-is) (taken_on_left c.args.key c.self.view_is was (below _ _ _ c.is_below.ensures w.if-is_below.true) w.remove-was.ensures.new)
      | Fork::remove-else-is_below w ↦ subst P (sym w.self-inside-is) (taken_on_right c.args.key c.self.view_is was (not_below _ _ _ c.is_below.ensures w.if-is_below.false) w.remove-was-else-is_below.ensures.new)
    ]
