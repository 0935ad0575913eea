use Rattle.conn_core.specs.Commands.{is_of}
use Rattle.conn_core.proofs.Lookups.{found_some, found_none}
use Rattle.conn_core.proofs.lookup.is_wanted.Goals as goal

pub returns-in-Some : goal.returns-in-Some
returns-in-Some c = found_some (is_of c.args.key) c.args.wanted.now.items _ c.in-Some.ensures

pub returns-in-None : goal.returns-in-None
returns-in-None c = found_none (is_of c.args.key) c.args.wanted.now.items c.in-None.ensures
