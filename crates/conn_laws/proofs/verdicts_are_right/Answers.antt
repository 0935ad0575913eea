-- What an outcome rests on.
use Rattle.conn_core.specs.Stands.{StandsFor}
use Rattle.conn_laws.proofs.Right.{all_right}
use Rattle.conn_laws.proofs.Matching.{answers_first, strays_fit_none}
use Rattle.conn_laws.proofs.verdicts_are_right.Goals as goal

pub returns-clause-right : goal.returns-clause-right
unfolding StandsFor
returns-clause-right c = λ options conn unread h s. all_right options h s.0

pub returns-clause-arises : goal.returns-clause-arises
returns-clause-arises c = all_right

pub returns-clause-first : goal.returns-clause-first
returns-clause-first c = answers_first

pub returns-clause-stray : goal.returns-clause-stray
returns-clause-stray c = strays_fit_none
