use Rattle.conn_core.specs.Commands.{is_of}
use Rattle.conn_core.proofs.Lookups.{seen-value, taken-none}
use Rattle.conn_core.proofs.lookup.wanted_of.Goals as goal

pub returns-in-Some : goal.returns-in-Some
returns-in-Some c = seen-value (is_of c.args.key) c.args.wanted.now.items c.in-Some.i _ c.get.result c.in-Some.ensures c.args.wanted.now.ok.0 c.get.ensures.variant.1 c.get.ensures.lookup

pub returns-in-None : goal.returns-in-None
returns-in-None c = (taken-none (is_of c.args.key) c.args.wanted.now.items c.in-None.ensures).0
