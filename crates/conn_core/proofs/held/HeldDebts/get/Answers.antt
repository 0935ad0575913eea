use Rattle.std.proofs.Common.{sym, ap, ◌∙◌, position}
use Rattle.conn_core.specs.Commands.{is_at}
use Rattle.conn_core.specs.Debts.{Debts}
use Rattle.conn_core.proofs.Lookups.{seen-value, taken-none}
use Rattle.conn_core.proofs.held.HeldDebts.get.Goals as goal

pub returns-in-Some : goal.returns-in-Some
returns-in-Some c =
    rw (← c.self.view_is) (seen-value (is_at c.args.ticket) c.self.inside.debts.items c.in-Some.i _ c.get.result
    (c.in-Some.ensures ∙ ap (λ (h : Debts). position (is_at c.args.ticket) h.debts) (sym c.self.view_is))
    c.self.inside.debts.ok.0 c.get.ensures.variant.1 c.get.ensures.lookup)

pub returns-in-None : goal.returns-in-None
returns-in-None c = (taken-none (is_at c.args.ticket) c.args.self.now.debts c.in-None.ensures).0
