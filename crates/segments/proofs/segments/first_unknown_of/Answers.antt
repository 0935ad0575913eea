-- The one that is looked at is known, or not above the number.
use Rattle.std.proofs.Common.{get_or, rules, subst, sym, take}
use Rattle.std.specs.Prelude.{ℕ, ◌<◌, Contains}
use Rattle.std.proofs.lemmas.List.{take_all}
use Rattle.std.proofs.lemmas.List.Elements.{All-contains, All-more}
use Rattle.segments.proofs.segments.first_unknown_of.Goals.{else-first-above-via-then-first-above+else-not-has}
use Rattle.segments.proofs.segments.first_unknown_of.Goals.{else-first-above-via-else-first-above}
use Rattle.segments.proofs.segments.first_unknown_of.Goals as goal

looked_at : (c : goal.Joined-else-first-above) → c.args.above < get_or c.args.firsts.now c.loop-first.first-index 0
    → Contains c.args.known.now (get_or c.args.firsts.now c.loop-first.first-index 0)
looked_at c above = elim c.else-first-above.branch [
  | else-first-above-via-then-first-above+else-not-has w ↦ search rules
  | else-first-above-via-else-first-above w ↦ search rules
]

pub loop-first-preserved : goal.loop-first-preserved
loop-first-preserved c =
    let P : ℕ → Type 0 = λ first. c.args.above < first → Contains c.args.known.now first in
    let index = c.loop-first.first-index in
    All-more P c.args.firsts.now index 0 c.loop-first-test.true c.loop-first.invariant (looked_at c)

pub returns-clause-none : goal.returns-clause-none
returns-clause-none c first is above =
    let P : ℕ → Type 0 = λ first. c.args.above < first → Contains c.args.known.now first in
    let index = c.loop-first.first-index in
    let all = take_all index c.args.firsts.now c.loop-first-test.false in
    let there = subst (λ xs. Contains xs first) (sym all) is in
    All-contains P (take index c.args.firsts.now) first c.loop-first.invariant there above
