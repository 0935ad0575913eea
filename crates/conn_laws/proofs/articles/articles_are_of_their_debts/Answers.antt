-- Whose article goes out.
use Rattle.conn_core.specs.Stands.{StandsFor}
use Rattle.conn_laws.proofs.OfDebts.{all_articles}
use Rattle.conn_laws.proofs.Served.{block_put, first-of, first_served}
use Rattle.conn_laws.proofs.articles.articles_are_of_their_debts.Goals as goal

pub returns-clause-handed : goal.returns-clause-handed
unfolding StandsFor
returns-clause-handed c = λ options conn unread h s. all_articles options h s.0

pub returns-clause-served : goal.returns-clause-served
returns-clause-served c = λ options conn unread h debt s e.
    first_served options h debt (first-of options conn unread h debt s e)

pub returns-clause-puts : goal.returns-clause-puts
returns-clause-puts c = λ options conn unread h debt block s e.
    block_put options conn unread h debt block s (first-of options conn unread h debt s e)
