use Rattle.std.proofs.Common.{rules, ◌≡◌, ◌<◌, ◌^◌, ◌∷◌, ℕ, ap, ◌∙◌, arith}
use Rattle.ledger_core.proofs.Batches.{several-split}
use Rattle.ledger_core.proofs.batch.several_in.Goals as goal

pub returns-then-count-lt2-clause-none : goal.returns-then-count-lt2-clause-none
returns-then-count-lt2-clause-none c = λ notes are e.
    let whole : c.args.payload.now ≡ c.in_ok-tag.tag.now ∷ c.in_ok-tag.rest.now = search rules in
    let first : c.args.payload.now ≡ 11 ∷ c.in_ok-tag.rest.now =
    whole ∙ ap (λ (n : ℕ). n ∷ c.in_ok-tag.rest.now) c.if-tag-ne-BATCH.false in
    let fits : c.in_ok-count.count < 2 ^ 32 = omega (arith, c.if-count-lt2.true) in
    let parts = several-split notes c.args.payload.now c.in_ok-tag.rest.now c.in_ok-count.body.now
    c.in_ok-count.count fits are first c.in_ok-count.ensures.some e in
    omega (arith, parts.0, are.several, c.if-count-lt2.true)
