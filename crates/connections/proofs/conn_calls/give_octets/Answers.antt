-- Octets that came by another way.
use Rattle.connections.proofs.Calls.{given_nothing, given_octets}
use Rattle.connections.proofs.conn_calls.give_octets.Goals as goal

pub returns-clause-given : goal.returns-clause-given
returns-clause-given c =
    given_octets c.input.result c.args.octets.now c.args.conn.now c.input.new.self c.input.ensures.ok
    c.input.ensures.err

pub returns-clause-nothing : goal.returns-clause-nothing
returns-clause-nothing c =
    given_nothing c.args.octets.now c.args.conn.now c.input.new.self
    (given_octets c.input.result c.args.octets.now c.args.conn.now c.input.new.self c.input.ensures.ok
    c.input.ensures.err)
