use Rattle.conn_core.proofs.Tickets.{rising-rest}
use Rattle.conn_core.proofs.held.HeldDebts.take_first.Goals as goal

pub invariant_of-self : goal.invariant_of-self
invariant_of-self c = rw c.pop_front.ensures.rest
    (rising-rest c.self.inside.debts.items c.self.inside.accepted c.self.invariant)
