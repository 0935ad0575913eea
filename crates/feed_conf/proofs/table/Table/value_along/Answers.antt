-- A step goes from a block to the one around it, as the path does.
use Rattle.std.proofs.Common.{◌≡◌, ℕ, ◌+◌, ◌-◌, suc, ap, sym, ◌∙◌, arith}
use Rattle.feed_conf.specs.Keys.{row_of}
use Rattle.feed_conf.specs.Settings.{path_within, value_along}
use Rattle.feed_conf.specs.ValueView.{value_view}
use Rattle.feed_conf.proofs.Tables.{along-none, along-scope, along-some}
use Rattle.feed_conf.proofs.table.Table.value_along.Goals as goal

pub returns-then-at-eq0 : goal.returns-then-at-eq0
returns-then-at-eq0 c = λ uses t.
    c.last_value.ensures uses t
    ∙ sym (along-scope (row_of c.args.key).index uses c.args.outer.now
    (c.args.block - c.loop-step.step) c.loop-step.at c.if-at-eq0.true)
    ∙ c.loop-step.invariant uses t

pub returns-in-Some : goal.returns-in-Some
returns-in-Some c = λ uses t.
    let inside = c.loop-step-test.true in
    let left : c.args.block - c.loop-step.step ≡ suc (c.args.block - (c.loop-step.step + 1)) = omega (arith, inside) in
    sym (along-some (row_of c.args.key).index uses c.args.outer.now _ _ c.loop-step.at (value_view c.in-Some.value) left
    c.if-at-eq0.false (c.in-Some.ensures uses t))
    ∙ c.loop-step.invariant uses t

pub loop-step-preserved : goal.loop-step-preserved
loop-step-preserved c = λ uses t.
    let inside = c.loop-step-test.true in
    let most : ℕ = c.args.block - (c.loop-step.step + 1) in
    let left : c.args.block - c.loop-step.step ≡ suc (c.args.block - (c.loop-step.step + 1)) = omega (arith, inside) in
    ap (λ at. value_along (row_of c.args.key).index uses
    (path_within (c.args.block - (c.loop-step.step + 1)) c.args.outer.now at))
    c.block_around-at.ensures
    ∙ sym (along-none (row_of c.args.key).index uses c.args.outer.now _ _ c.loop-step.at left c.if-at-eq0.false
    (c.in-None.ensures uses t))
    ∙ c.loop-step.invariant uses t
