-- The first of those above the number is looked at.
use Rattle.std.proofs.Common.{arith, ◌≡◌, ap, ◌∙◌}
use Rattle.std.specs.Prelude.{slice_get}
use Rattle.std.proofs.lemmas.Grind.{common_steps}
use Rattle.std.proofs.lemmas.Option.{gets}
use Rattle.segments.proofs.Rising.{Parts, next_found, no_next}
use Rattle.segments.proofs.segments.Segments.after.Goals as goal

looked_at : (c : goal.After-copied) → c.copied.result ≡ slice_get c.deref.result.now c.count_up_to.result
looked_at c = grind (arith, common_steps, gets)

found : (c : goal.After-copied) → c.copied.result ≡ slice_get c.args.self.now c.count_up_to.result
found c = looked_at c ∙ ap (λ xs. slice_get xs c.count_up_to.result) (c.deref.ensures.value ∙ c.self.view_is)

parts : (c : goal.After-copied) → Parts c.args.self.now c.args.first c.count_up_to.result
parts c =
    let facts = c.count_up_to.ensures in
    record { within = facts.within; up_to = facts.up_to; above = facts.above }

pub returns-clause-some : goal.returns-clause-some
returns-clause-some c =
    let rising = c.count_up_to.ensures.firsts.rising in
    next_found c.args.self.now c.args.first c.count_up_to.result _ rising (parts c) (found c)

pub returns-clause-none : goal.returns-clause-none
returns-clause-none c = no_next c.args.self.now c.args.first c.count_up_to.result _ (parts c) (found c)
