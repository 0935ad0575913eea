-- A text is kept that was given.
use Rattle.std.proofs.Common.{sym, subst}
use Rattle.article_store.specs.declared.store.Found.TheVariants.{Article}
use Rattle.connections.specs.Sources.{IsGivenFor}
use Rattle.connections.proofs.Sources.{stays_given}
use Rattle.connections.proofs.feeder_spool.FeederSpool.keep.Goals as goal

pub invariant_of-self-2 : goal.invariant_of-self-2
invariant_of-self-2 g c =
    let gives = g.A.ArticleSource.gives in
    let this =
    subst (λ token. IsGivenFor gives token c.id.result.now (Article c.in-Article.text)) (sym c.token.ensures)
    (subst (λ id. IsGivenFor gives c.args.debt.now.1.0 id (Article c.in-Article.text)) (sym c.id.ensures)
    (subst (λ found. IsGivenFor gives c.args.debt.now.1.0 c.args.debt.now.1.1 found) c.in-Article.is c.requires)) in
    record {
      given =
          stays_given gives _ _ c.args.self.now.kept c.in-Some.kept c.keep.new.self c.keep.result c.args.self.now.given
          c.in-Some.is this c.keep.ensures.ok c.keep.ensures.unchanged;
    }
