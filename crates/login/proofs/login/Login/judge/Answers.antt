-- What a whole line makes of a login.
use Rattle.std.proofs.Common.{ap, refl, subst, sym, ◌∙◌}
use Rattle.reply_reader.specs.Reply.{IsNoReply}
use Rattle.login.specs.Exchange.{Held}
use Rattle.login.proofs.Exchanges.{has-code, no-code-at, succeeds-at}
use Rattle.login.proofs.login.Login.judge.Goals as goal

pub returns-in_default-clause-stands : goal.returns-in_default-clause-stands
returns-in_default-clause-stands c = λ came s.
    no-code-at c.args.self.now came _ _ _ _ c.requires (subst IsNoReply c.deref.ensures.value c.in_default.ensures.none)
    (ap (λ (h : Held). h.step) c.self.view_is) refl (ap (λ (h : Held). h.line) c.self.view_is)
    (ap (λ (h : Held). h.handed) c.self.view_is) s

pub returns-in-Succeeds-clause-stands : goal.returns-in-Succeeds-clause-stands
returns-in-Succeeds-clause-stands c = λ came s.
    succeeds-at c.args.self.now came c.in-Some.code _ _ _ _ c.requires
    (has-code c.in-Some.code _ _ c.self.invariant.short c.deref.ensures.value c.in-Some.ensures.some)
    (sym c.meaning.ensures ∙ c.in-Succeeds.is) (ap (λ (h : Held). h.step) c.self.view_is) refl
    (ap (λ (h : Held). h.line) c.self.view_is) (ap (λ (h : Held). h.handed) c.self.view_is) s
