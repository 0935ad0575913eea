use Rattle.deferral.proofs.Below.{below, not_below}
use Rattle.std.proofs.Common.{◌≡◌, ◌++◌, ◌+◌, length, sym, ap, ◌∙◌, subst, arith}
use Rattle.deferral.specs.Due.{added}
use Rattle.deferral.specs.Tree.{both, waiting_in}
use Rattle.deferral.specs.TreeLaws.{sides_fall}
use Rattle.deferral.specs.declared.tree.Fork.TheInside.{Inside}
use Rattle.deferral.proofs.Sides.{IsParted, due_left, due_right}
use Rattle.deferral.proofs.Forks.{parted_put_left, parted_put_right, put_on_left, put_on_right, same_left, same_right}
use Rattle.deferral.proofs.Forks.{sides_parted, told_again}
use Rattle.deferral.proofs.tree.+put.Goals as goal
use Rattle.deferral.proofs.tree.+put.Goals.{Fork::put-then-is_below+in_ok-put, Fork::put-else-is_below+in_ok-put-2}

pub Fork::put-put-requires : goal.Fork::put-put-requires
Fork::put-put-requires t c =
    let parted = sides_parted c.self.inside c.self.invariant in
    let sides = ap (λ v. length v.0 + length v.1) c.self.view_is in
    (omega (arith, sides_fall c.self.inside c.self.invariant, sides, c.decreases), sym (due_left c.args.entry.key parted (below _ _ _ c.is_below.ensures c.if-is_below.true)) ∙ (rw (← c.self.view_is) at c.requires))

pub Fork::put-invariant_of-self : goal.Fork::put-invariant_of-self
Fork::put-invariant_of-self t c = same_left c.self.inside _ c.self.invariant c.in_err-put.ensures.unchanged

pub Fork::put-put-requires-else-is_below : goal.Fork::put-put-requires-else-is_below
Fork::put-put-requires-else-is_below t c =
    let parted = sides_parted c.self.inside c.self.invariant in
    let sides = ap (λ v. length v.0 + length v.1) c.self.view_is in
    (omega (arith, sides_fall c.self.inside c.self.invariant, sides, c.decreases), sym (due_right c.args.entry.key parted (not_below _ _ _ c.is_below.ensures c.if-is_below.false)) ∙ (rw (← c.self.view_is) at c.requires))

pub Fork::put-invariant_of-self-in_err-put-2 : goal.Fork::put-invariant_of-self-in_err-put-2
Fork::put-invariant_of-self-in_err-put-2 t c = same_right c.self.inside _ c.self.invariant c.in_err-put-2.ensures.unchanged

pub Fork::put-invariant_of-self-2 : goal.Fork::put-invariant_of-self-2
Fork::put-invariant_of-self-2 t c =
    let fork = c.if-is_below.self-inside in
    let key = c.args.entry.key in
    let due = c.args.entry.due in
    let was = sides_parted c.self.inside c.self.invariant in
    let P : Inside → Type 0 = λ f. IsParted f.split (waiting_in f.left) (waiting_in f.right) in
    let parted : P fork = elim c.if-is_below.branch [
      | Fork::put-then-is_below+in_ok-put w ↦ subst P (sym w.self-inside-is) (parted_put_left key due was (below _ _ _ c.is_below.ensures w.if-is_below.true) w.in_ok-put.ensures.ok)
      | Fork::put-else-is_below+in_ok-put-2 w ↦ subst P (sym w.self-inside-is) (parted_put_right key due was (not_below _ _ _ c.is_below.ensures w.if-is_below.false) w.in_ok-put-2.ensures.ok)
    ] in
    told_again fork _ _ _ parted c.bounds.ensures c.bounds-2.ensures (c.joined-bounds.ensures _ _ c.bounds.ensures c.bounds-2.ensures)

pub Fork::put-returns-clause-ok : goal.Fork::put-returns-clause-ok
Fork::put-returns-clause-ok t c =
    let key = c.args.entry.key in
    let due = c.args.entry.due in
    let was = sides_parted c.self.inside c.self.invariant in
    let P : Inside → Type 0 = λ f. waiting_in f.left ++ waiting_in f.right ≡ added (both c.args.self.now) key due in
    elim c.if-is_below.branch [
      | Fork::put-then-is_below+in_ok-put w ↦ subst P (sym w.self-inside-is) (put_on_left key due c.self.view_is was (below _ _ _ c.is_below.ensures w.if-is_below.true) w.in_ok-put.ensures.ok)
      | Fork::put-else-is_below+in_ok-put-2 w ↦ subst P (sym w.self-inside-is) (put_on_right key due c.self.view_is was (not_below _ _ _ c.is_below.ensures w.if-is_below.false) w.in_ok-put-2.ensures.ok)
    ]
