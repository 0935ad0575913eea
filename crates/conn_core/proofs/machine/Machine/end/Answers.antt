use Rattle.std.proofs.Common.{sym, ◌∙◌}
use Rattle.conn_core.proofs.Losses.{verdict-is}
use Rattle.conn_core.proofs.machine.Machine.end.Goals as goal

pub returns-in-Some : goal.returns-in-Some
returns-in-Some c =
    rw (← c.self.view_is) (rw (sym c.in-Some.ensures.found)
    (cc (verdict-is c.new-verdict.result c.in-Some.x.debt c.args.code (c.new-verdict.ensures.debt ∙ c.into_debt.ensures) c.new-verdict.ensures.code)))
