-- What is put out of a debt, and of a connection.
use Rattle.conn_core.specs.Stands.{StandsFor}
use Rattle.conn_laws.proofs.PutOnce.{mode_once, quit_once}
use Rattle.conn_laws.proofs.Twice.{asked_once, offered_once, sent_once}
use Rattle.conn_laws.proofs.nothing_is_put_out_twice.Goals as goal

pub returns-clause-asks : goal.returns-clause-asks
unfolding StandsFor
returns-clause-asks c = λ options conn unread h ticket verb s. asked_once options h ticket verb s.0

pub returns-clause-blocks : goal.returns-clause-blocks
unfolding StandsFor
returns-clause-blocks c = λ options conn unread h ticket s. sent_once options h ticket s.0

pub returns-clause-offers : goal.returns-clause-offers
unfolding StandsFor
returns-clause-offers c = λ options conn unread h ticket s. offered_once options h ticket s.0

pub returns-clause-mode : goal.returns-clause-mode
unfolding StandsFor
returns-clause-mode c = λ options conn unread h s. mode_once options h s.0

pub returns-clause-quit : goal.returns-clause-quit
unfolding StandsFor
returns-clause-quit c = λ options conn unread h s. quit_once options h s.0
