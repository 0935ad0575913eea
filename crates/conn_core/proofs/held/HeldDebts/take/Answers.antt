use Rattle.std.proofs.Common.{sym, ap, ◌∙◌, position}
use Rattle.conn_core.specs.Commands.{is_at}
use Rattle.conn_core.specs.Debts.{Debts}
use Rattle.conn_core.proofs.Lookups.{taken-value, taken-rest, taken-none}
use Rattle.conn_core.proofs.held.HeldDebts.take.Goals as goal

pub returns-in-Some-clause-found : goal.returns-in-Some-clause-found
returns-in-Some-clause-found c =
    rw (← c.self.view_is) (taken-value (is_at c.args.ticket) c.self.inside.debts.items c.in-Some.i _ c.remove.result
    (c.in-Some.ensures ∙ ap (λ (h : Debts). position (is_at c.args.ticket) h.debts) (sym c.self.view_is))
    c.self.inside.debts.ok.0 c.remove.ensures.variant.1 c.remove.ensures.value)

pub returns-in-Some-clause-rest : goal.returns-in-Some-clause-rest
returns-in-Some-clause-rest c =
    rw (← c.self.view_is)
    (taken-rest (is_at c.args.ticket) c.self.inside.debts.items c.remove.new.self.items c.in-Some.i _
    c.remove.result
    (c.in-Some.ensures ∙ ap (λ (h : Debts). position (is_at c.args.ticket) h.debts) (sym c.self.view_is))
    c.self.inside.debts.ok.0 c.remove.ensures.variant.1 c.remove.ensures.value c.remove.ensures.items)

pub returns-in-None-clause-found : goal.returns-in-None-clause-found
returns-in-None-clause-found c = (taken-none (is_at c.args.ticket) c.args.self.now.debts c.in-None.ensures).0

pub returns-in-None-clause-rest : goal.returns-in-None-clause-rest
returns-in-None-clause-rest c = (taken-none (is_at c.args.ticket) c.args.self.now.debts c.in-None.ensures).1
