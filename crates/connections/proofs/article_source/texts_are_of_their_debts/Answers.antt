-- The text of each block that goes out.
use Rattle.connections.specs.Articles.{IsFoundFor}
use Rattle.connections.proofs.Texts.{all_texts}
use Rattle.connections.proofs.article_source.texts_are_of_their_debts.Goals as goal

pub returns : goal.returns
returns g c = λ options conn unread h s all.
    all_texts (IsFoundFor g.A.ArticleSource.gives) options h all
    (c.articles_are_of_their_debts.ensures.handed options conn unread h s)
