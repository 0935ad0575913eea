-- The field begins on this line, and on none before.
use Rattle.std.proofs.Common.{◌≡◌, ◌++◌, ◌+◌, IfOk, drop, map, refl, sym, ap, ◌∙◌, subst}
use Rattle.header_fields.specs.Header.{folds}
use Rattle.header_fields.proofs.Bodies.{first_body-at}
use Rattle.header_fields.proofs.header.first_body.Goals as goal

pub returns-then-begins_field : goal.returns-then-begins_field
returns-then-begins_field c =
    let at = first_body-at c.args.lines.now c.loop-index.index _ c.loop-index-test.true
    (sym c.begins_field.ensures ∙ c.if-begins_field.true) in
    let next = drop (c.loop-index.index + 1) c.args.lines.now in
    let rest = ap (λ behind. c.split_at.result.1.now ++ folds (map
    (λ line. line.now) behind)) c.split_at-then-begins_field.ensures.back in
    let text = ap (λ prefix. prefix ++ folds (map (λ line. line.now) next)) c.split_at.ensures.back in
    subst (λ whole. IfOk c.unfolded.result (λ body. body.items ≡ whole)) (rest ∙ (text ∙ (sym at
    ∙ c.loop-index.invariant))) c.unfolded.ensures
