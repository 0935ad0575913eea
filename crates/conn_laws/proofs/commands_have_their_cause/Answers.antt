-- Why a command goes out.
use Rattle.conn_core.specs.Stands.{StandsFor}
use Rattle.conn_laws.proofs.Causes.{all_caused}
use Rattle.conn_laws.proofs.commands_have_their_cause.Goals as goal

pub returns : goal.returns
unfolding StandsFor
returns c = λ options conn unread h s. all_caused options h s.0
