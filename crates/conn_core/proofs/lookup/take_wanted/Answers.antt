use Rattle.conn_core.specs.Commands.{is_of}
use Rattle.conn_core.proofs.Lookups.{taken-value, taken-rest, taken-none}
use Rattle.conn_core.proofs.lookup.take_wanted.Goals as goal

pub returns-in-Some-clause-found : goal.returns-in-Some-clause-found
returns-in-Some-clause-found c =
    taken-value (is_of c.args.key) c.args.wanted.now.items c.in-Some.i _ c.remove.result c.in-Some.ensures c.args.wanted.now.ok.0 c.remove.ensures.variant.1 c.remove.ensures.value

pub returns-in-Some-clause-rest : goal.returns-in-Some-clause-rest
returns-in-Some-clause-rest c =
    taken-rest (is_of c.args.key) c.args.wanted.now.items c.remove.new.self.items c.in-Some.i _ c.remove.result c.in-Some.ensures c.args.wanted.now.ok.0 c.remove.ensures.variant.1 c.remove.ensures.value c.remove.ensures.items

pub returns-in-None-clause-found : goal.returns-in-None-clause-found
returns-in-None-clause-found c = (taken-none (is_of c.args.key) c.args.wanted.now.items c.in-None.ensures).0

pub returns-in-None-clause-rest : goal.returns-in-None-clause-rest
returns-in-None-clause-rest c = (taken-none (is_of c.args.key) c.args.wanted.now.items c.in-None.ensures).1
