-- A debt accepted is held or came out.
use Rattle.conn_core.specs.Stands.{StandsFor}
use Rattle.conn_laws.proofs.Once.{all_own, at_most_once, exactly_once, held_or_out}
use Rattle.conn_laws.proofs.each_debt_comes_out_once.Goals as goal

pub returns-clause-at_most : goal.returns-clause-at_most
returns-clause-at_most c = at_most_once

pub returns-clause-held_or_out : goal.returns-clause-held_or_out
returns-clause-held_or_out c = held_or_out

pub returns-clause-exactly : goal.returns-clause-exactly
unfolding StandsFor
returns-clause-exactly c = λ options conn unread h ticket s closed few. exactly_once options h ticket s.0 closed few

pub returns-clause-own : goal.returns-clause-own
returns-clause-own c = all_own
