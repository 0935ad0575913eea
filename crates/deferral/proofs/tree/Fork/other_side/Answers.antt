use Rattle.deferral.proofs.Below.{not_below}
use Rattle.deferral.proofs.Forks.{half_had, half_rest}
use Rattle.deferral.proofs.tree.Fork.other_side.Goals as goal

pub returns-else-is_below-clause-had : goal.returns-else-is_below-clause-had
returns-else-is_below-clause-had c =
    let is = c.self.invariant in
    half_had c.args.key c.self.view_is (record { left = is.left; right = is.right }) (not_below _ _ _ c.is_below.ensures c.if-is_below.false) c.requires

pub returns-else-is_below-clause-rest : goal.returns-else-is_below-clause-rest
returns-else-is_below-clause-rest c =
    let is = c.self.invariant in
    half_rest c.args.key c.self.view_is (record { left = is.left; right = is.right }) (not_below _ _ _ c.is_below.ensures c.if-is_below.false) c.requires
