-- An octet of a line.
use Rattle.std.proofs.Common.{◌++◌, ◌∷◌, [], ap, ◌∙◌}
use Rattle.login.specs.Exchange.{Held}
use Rattle.login.proofs.Exchanges.{pushed-at}
use Rattle.login.proofs.login.Login.push.Goals as goal

pub returns-clause-stands : goal.returns-clause-stands
returns-clause-stands c = λ came s.
    pushed-at c.args.self.now came c.args.octet _ _ _ _ c.requires (ap (λ (h : Held). h.step) c.self.view_is)
    (ap (λ (h : Held). h.end) c.self.view_is)
    (c.in_ok-push.ensures.items ∙ ap (λ (h : Held). h.line ++ c.args.octet ∷ []) c.self.view_is)
    (ap (λ (h : Held). h.handed) c.self.view_is) s
