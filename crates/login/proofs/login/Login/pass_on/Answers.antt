-- What came after the end.
use Rattle.std.proofs.Common.{◌++◌, ap, sym, ◌∙◌}
use Rattle.login.specs.Exchange.{Held}
use Rattle.login.proofs.Exchanges.{on-added, passed-at}
use Rattle.login.proofs.login.Login.pass_on.Goals as goal

pub returns-in-Accepted-clause-stands : goal.returns-in-Accepted-clause-stands
returns-in-Accepted-clause-stands c =
    on-added _ c.extend_from_slice.result _ _ _ c.extend_from_slice.ensures.items
    (λ items came s.
    passed-at c.args.self.now came c.args.octets.now _ _ _ _ (ap (λ (h : Held). h.step) c.self.view_is)
    c.in-Accepted.is (sym (ap (λ (h : Held). h.end) c.self.view_is) ∙ c.in-Accepted.is)
    (ap (λ (h : Held). h.line) c.self.view_is)
    (items ∙ ap (λ (h : Held). h.handed ++ c.args.octets.now) c.self.view_is) s)
