-- In which order debts come out.
use Rattle.conn_core.specs.Stands.{StandsFor}
use Rattle.conn_laws.proofs.Order.{returns_last}
use Rattle.conn_laws.proofs.returns_come_last_in_order.Goals as goal

pub returns : goal.returns
unfolding StandsFor
returns c = λ options conn unread h s. returns_last options h s.0
