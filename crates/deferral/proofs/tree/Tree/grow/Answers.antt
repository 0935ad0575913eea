use Rattle.deferral.proofs.Below.{below, not_below}
use Rattle.std.proofs.Common.{◌∙◌, [], ◌∷◌, ap}
use Rattle.deferral.specs.Tree.{waiting_in}
use Rattle.deferral.proofs.Forks.{beside_above, beside_below, grown_before, grown_after}
use Rattle.deferral.proofs.tree.Tree.grow.Goals as goal
use Rattle.deferral.proofs.tree.Tree.grow.Goals.{then-before, else-before}

pub of-fork-requires-clause-right : goal.of-fork-requires-clause-right
of-fork-requires-clause-right c = rw c.replace-old.ensures.value (beside_above _ _ _ c.requires (below _ _ _ c.is_below-before.ensures c.if-before.true))

pub of-fork-requires-else-before-clause-left : goal.of-fork-requires-else-before-clause-left
of-fork-requires-else-before-clause-left c = rw c.replace-old.ensures.value (beside_below _ _ _ c.requires (not_below _ _ _ c.is_below-before.ensures c.if-before.false))

pub returns-in-Ok-clause-ok : goal.returns-in-Ok-clause-ok
returns-in-Ok-clause-ok c =
    let entry = c.args.entry in
    let old = ap waiting_in c.replace-old.ensures.value in
    elim c.if-before.branch [
      | then-before w ↦ grown_before c.args.split _ entry.key entry.due (c.in-Ok.ensures.ok ∙ w.fork-is ∙ w.of-fork.ensures ∙ ap (λ z. ((entry.key, entry.due) ∷ [], z)) old) c.requires (below _ _ _ c.is_below-before.ensures w.if-before.true)
      | else-before w ↦ grown_after c.args.split _ entry.key entry.due (c.in-Ok.ensures.ok ∙ w.fork-is ∙ w.of-fork-else-before.ensures ∙ ap (λ z. (z, (entry.key, entry.due) ∷ [])) old) c.requires (not_below _ _ _ c.is_below-before.ensures w.if-before.false)
    ]
