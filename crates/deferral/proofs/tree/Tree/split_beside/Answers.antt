use Rattle.std.proofs.Common.{◌⊎◌, ◌<◌, ◌≤◌}
use Rattle.deferral.proofs.Forks.{beside_from, spread}
use Rattle.deferral.proofs.tree.Tree.split_beside.Goals as goal

pub split_between-split-requires : goal.split_between-split-requires
split_between-split-requires c = spread c.bounds-first.result _ c.args.key _ _ c.bounds-first.ensures c.requires c.lesser.ensures c.greater.ensures

pub returns-then-is_apart-clause-some : goal.returns-then-is_apart-clause-some
returns-then-is_apart-clause-some c =
    let split = c.split_between-split.result in
    let key = c.args.key in
    let b = c.bounds-first.result in
    let side : ((key < split) × (split ≤ b.first)) ⊎ ((b.last < split) × (split ≤ key)) = c.is_apart.ensures.0 c.if-is_apart.true in
    beside_from b _ key split c.bounds-first.ensures side
