-- The line is shown as it is, or not at all.
use Rattle.std.proofs.Common.{ℕ, List, ap, subst, sym, ◌∙◌}
use Rattle.memchr.specs.Find.{OccursAt}
use Rattle.login.specs.Exchange.{Held}
use Rattle.login.proofs.login.Login.last_line.Goals as goal

pub returns-clause-hidden : goal.returns-clause-hidden
returns-clause-hidden c = λ place o.
    c.without_secret.ensures.hidden place
    (subst (λ (l : List ℕ). OccursAt l c.password.result.now place)
    (sym (c.deref.ensures.value ∙ ap (λ (h : Held). h.line) c.self.view_is))
    (subst (λ (p : List ℕ). OccursAt c.args.self.now.line p place) (sym c.password.ensures) o))
