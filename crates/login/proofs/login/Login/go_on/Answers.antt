-- The greeting came, or the password was asked for.
use Rattle.std.proofs.Common.{◌≡◌, ◌⊎◌, ◌++◌, ◌∷◌, [], ap, inl, inr, refl, subst, sym, ◌∙◌}
use Rattle.reply_reader.specs.Stream.{IsShort}
use Rattle.login.specs.Exchange.{Held}
use Rattle.login.specs.declared.step.LoginStep.{LoginStep}
use Rattle.login.specs.declared.step.LoginStep.TheVariants.{Greeting, Password, User}
use Rattle.login.proofs.Exchanges.{asked-at, greeted-at, has-code}
use Rattle.login.proofs.login.Login.go_on.Goals as goal

other-step : (step : LoginStep) → (step ≡ User) ⊎ (step ≡ Password) → step ≡ Greeting → ⊥
other-step step (inl user) first = let both : User ≡ Greeting = sym user ∙ first in cc
other-step step (inr password) first = let both : Password ≡ Greeting = sym password ∙ first in cc

pub returns-in_ok-push-in-Greeting-clause-stands : goal.returns-in_ok-push-in-Greeting-clause-stands
returns-in_ok-push-in-Greeting-clause-stands c = λ came s.
    let line = ap (λ (h : Held). h.line) c.self.view_is in
    greeted-at c.args.self.now came c.args.code _ _ _ c.requires.under_way
    (sym (ap (λ (h : Held). h.step) c.self.view_is) ∙ c.in-Greeting.is)
    (has-code c.args.code _ _ (subst IsShort line c.self.invariant.short) refl c.requires.code) c.requires.meaning
    (ap (λ (h : Held). h.end) c.self.view_is) (ap (λ v. v.items) c.replace-greeting.ensures.after ∙ c.new.ensures.items)
    (c.in_ok-push-in-Greeting.ensures.items ∙ ap (λ v. v.items ++ 10 ∷ []) c.replace-greeting.ensures.value
    ∙ ap (λ l. l ++ 10 ∷ []) line) s

pub returns-in-User : goal.returns-in-User
returns-in-User c = record {
  stands = λ came s.
      let line = ap (λ (h : Held). h.line) c.self.view_is in
      let step = ap (λ (h : Held). h.step) c.self.view_is in
      asked-at c.args.self.now came c.args.code _ _ _ c.requires.under_way
      (λ first. other-step c.self.inside.step c.in-User.is (step ∙ first))
      (has-code c.args.code _ _ (subst IsShort line c.self.invariant.short) refl c.requires.code) c.requires.meaning
      (ap (λ (h : Held). h.end) c.self.view_is) c.clear.ensures.items (ap (λ (h : Held). h.handed) c.self.view_is) s;
  commands = record {
    user = ap (λ (h : Held). h.user) c.self.view_is;
    password = ap (λ (h : Held). h.password) c.self.view_is;
    sent = ap (λ (h : Held). h.sent) c.self.view_is;
    timeout = ap (λ (h : Held). h.timeout) c.self.view_is;
  };
}
