use Rattle.std.proofs.Common.{ℕ, ◌≤◌, IfNone, IfSome, subst}
use Rattle.deferral.specs.Due.{IsDue, IsLeastDueFrom}
use Rattle.deferral.specs.Tree.{waiting_in}
use Rattle.deferral.proofs.Moments.{least_of_all, none_of_all}
use Rattle.deferral.proofs.later.Later.due_least.Goals as goal

pub returns-in-Some-clause-some : goal.returns-in-Some-clause-some
returns-in-Some-clause-some c = rw (← c.self.view_is, c.in-Some.is) (least_of_all c.args.now c.due_from.result _ (subst (λ (first : ℕ). IfSome c.due_from.result (λ key. IsLeastDueFrom (waiting_in c.in-Some.tree) first c.args.now key)) c.new.ensures.key c.due_from.ensures.some))

pub returns-in-Some-clause-none : goal.returns-in-Some-clause-none
returns-in-Some-clause-none c = rw (← c.self.view_is, c.in-Some.is) (none_of_all c.args.now c.due_from.result _ (subst (λ (first : ℕ). IfNone c.due_from.result ((key : ℕ) → first ≤ key → IsDue (waiting_in c.in-Some.tree) c.args.now key → ⊥)) c.new.ensures.key c.due_from.ensures.none))
