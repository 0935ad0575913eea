-- What a command names.
use Rattle.conn_core.specs.Stands.{StandsFor}
use Rattle.conn_laws.proofs.Named.{all_named}
use Rattle.conn_laws.proofs.commands_name_their_debts.Goals as goal

pub returns : goal.returns
unfolding StandsFor
returns c = λ options conn unread h s. all_named options h s.0
