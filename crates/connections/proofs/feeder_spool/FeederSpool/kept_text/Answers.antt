-- What is kept for a debt.
use Rattle.std.proofs.Common.{◌≡◌, sym, ap, ◌∙◌, Some}
use Rattle.connections.specs.Kept.{text_for}
use Rattle.connections.proofs.Sources.{copy_is_given, found_is_given}
use Rattle.connections.proofs.feeder_spool.FeederSpool.kept_text.Goals as goal

pub returns : goal.returns
returns g c =
    let kept = c.in_ok-as_ref.field-0.now in
    let found : text_for c.args.debt.now.1.0 c.args.debt.now.1.1 c.args.now kept ≡ Some c.in_ok-text.text.now =
    ap (λ token. text_for token c.args.debt.now.1.1 c.args.now kept) (sym c.token.ensures)
    ∙ ap (λ id. text_for c.token.result.now id c.args.now kept) (sym c.id.ensures)
    ∙ sym c.in_ok-text.ensures in
    copy_is_given g.A.ArticleSource.gives _ _ c.in_ok-text.text.now c.clone.result c.ok.result c.ok.ensures.value
    c.clone.ensures.cases
    (found_is_given g.A.ArticleSource.gives _ _ c.args.now c.args.self.now.kept kept c.in_ok-text.text.now
    c.args.self.now.given (sym c.in_ok-as_ref.ensures.value) found)
