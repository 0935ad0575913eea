use Rattle.std.proofs.Common.{take}
use Rattle.event_loop.proofs.Chains.{input_made}
use Rattle.event_loop.proofs.turn.take_in.Goals as goal

pub returns-in-Done-clause-stands : goal.returns-in-Done-clause-stands
returns-in-Done-clause-stands g c =
    input_made c.input.result c.args.conn.now c.input.new.self
    (take c.in-Done.count c.recv-made.new.into) c.input.ensures.ok c.input.ensures.err
