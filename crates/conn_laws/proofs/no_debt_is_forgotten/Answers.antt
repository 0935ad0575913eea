-- What is still to come of a debt held.
use Rattle.conn_core.specs.Stands.{StandsFor}
use Rattle.conn_laws.proofs.Forgotten.{none_forgotten}
use Rattle.conn_laws.proofs.no_debt_is_forgotten.Goals as goal

pub returns : goal.returns
unfolding StandsFor
returns c = λ options conn unread h ticket s running. none_forgotten options h ticket s.0 running
