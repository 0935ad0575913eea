-- The two faults that a word may have, in the line's text without its CR.
use Rattle.std.proofs.Common.{sym, ◌∙◌, subst}
use Rattle.funnel.specs.LineLaws.{token_fault, id_fault}
use Rattle.funnel.specs.Words.{IsFirstWord}
use Rattle.funnel.proofs.line.Parts.cut.Goals as goal

pub returns-then-not-holds : goal.returns-then-not-holds
returns-then-not-holds c =
    let first = subst (λ text. IsFirstWord text c.in-Some.token.now c.in-Some.behind.now) c.without_cr.ensures c.in-Some.ensures.word in
    token_fault c.args.line.now c.in-Some.token.now c.in-Some.behind.now c.if-line-gt-LINE_MAX_OCTETS.false first
    (sym c.holds.ensures ∙ c.if-not-holds.true)

pub returns-then-not-holds-2 : goal.returns-then-not-holds-2
returns-then-not-holds-2 c =
    let first = subst (λ text. IsFirstWord text c.in-Some.token.now c.in-Some.behind.now) c.without_cr.ensures c.in-Some.ensures.word in
    id_fault c.args.line.now c.in-Some.token.now c.in-Some.behind.now c.in-Some-next_word.id.now c.in-Some-next_word.others.now
    c.if-line-gt-LINE_MAX_OCTETS.false first (sym c.holds.ensures ∙ c.if-not-holds.false)
    c.in-Some-next_word.ensures.word (sym c.holds-2.ensures ∙ c.if-not-holds-2.true)
