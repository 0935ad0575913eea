use Rattle.std.proofs.Common.{ap}
use Rattle.conn_core.specs.Commands.{Held}
use Rattle.conn_core.proofs.Tickets.{rising-more}
use Rattle.conn_core.proofs.held.HeldDebts.put.Goals as goal

pub invariant_of-self : goal.invariant_of-self
invariant_of-self c =
    rw c.push_back_reserved.ensures.items (rising-more c.self.inside.debts.items c.self.inside.accepted c.new-x.result
    (ap (λ (x : Held). x.ticket) c.new-x.ensures) c.self.invariant)
