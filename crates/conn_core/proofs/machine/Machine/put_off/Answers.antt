use Rattle.std.proofs.Common.{sym, ◌∙◌}
use Rattle.conn_core.proofs.Losses.{deferral-is}
use Rattle.conn_core.proofs.machine.Machine.put_off.Goals as goal

pub returns-in-Some : goal.returns-in-Some
returns-in-Some c =
    rw (← c.self.view_is) (rw (sym c.in-Some.ensures.found) (cc (deferral-is c.new-deferral.result c.in-Some.x.debt (c.new-deferral.ensures ∙ c.into_debt.ensures))))
