-- Those that pass the test stay, in order.
use Rattle.std.proofs.Common.{leb, rules, subst, sym, ◌≡◌}
use Rattle.std.specs.Prelude.{Contains, filter}
use Rattle.std.proofs.lemmas.Fn.{filter_same}
use Rattle.segments.specs.Firsts.{AreFirsts}
use Rattle.segments.proofs.Rising.{filter_firsts, from_filter, to_filter}
use Rattle.segments.proofs.segments.Segments.remove_before.Goals as goal

kept_is : (c : goal.After-retain)
    → c.retain.new.self.items ≡ filter (λ x. leb c.args.first x) c.self.inside.firsts.items
kept_is c = filter_same _ (λ x. leb c.args.first x) _ (λ x b f t. search rules) _ _ c.retain.ensures.filtered

pub invariant_of-self : goal.invariant_of-self
invariant_of-self c = subst AreFirsts (sym (kept_is c)) (filter_firsts c.args.first _ c.self.invariant)

pub returns : goal.returns
returns c other = (
  λ is.
      let (there, from) = from_filter c.args.first _ other (subst (λ ys. Contains ys other) (kept_is c) is) in
      (subst (λ ys. Contains ys other) c.self.view_is there, from),
  λ is.
      let there = subst (λ ys. Contains ys other) (sym c.self.view_is) is.0 in
      subst (λ ys. Contains ys other) (sym (kept_is c)) (to_filter c.args.first _ other there is.1),
)
