use Rattle.deferral.proofs.Below.{below, not_below}
use Rattle.deferral.proofs.Forks.{has_on_left, has_on_right}
use Rattle.deferral.proofs.tree.+contains.Goals as goal

pub Fork::contains-returns-then-is_below : goal.Fork::contains-returns-then-is_below
Fork::contains-returns-then-is_below t c =
    let is = c.self.invariant in
    has_on_left c.args.key _ c.self.view_is (record { left = is.left; right = is.right }) (below _ _ _ c.is_below.ensures c.if-is_below.true) c.contains.ensures

pub Fork::contains-returns-else-is_below : goal.Fork::contains-returns-else-is_below
Fork::contains-returns-else-is_below t c =
    let is = c.self.invariant in
    has_on_right c.args.key _ c.self.view_is (record { left = is.left; right = is.right }) (not_below _ _ _ c.is_below.ensures c.if-is_below.false) c.contains-else-is_below.ensures
