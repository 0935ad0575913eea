use Rattle.std.proofs.Common.{sym, ap, ◌∙◌}
use Rattle.conn_core.specs.Commands.{loss_of}
use Rattle.conn_core.specs.Kept.{handing_of}
use Rattle.conn_core.proofs.Losses.{lost-is}
use Rattle.conn_core.specs.HeldLaws.{find-is_at}
use Rattle.conn_core.proofs.machine.Machine.lose_at.Goals as goal

pub returns-in-Some : goal.returns-in-Some
returns-in-Some c =
    let here = (find-is_at c.args.ticket c.self.inside.held.debts c.in-Some.x (sym c.in-Some.ensures.found)).0 in
    let loss = c.lost.ensures ∙ ap (loss_of (handing_of c.args.loss)) c.into_debt.ensures in
    rw (← c.self.view_is) (rw (sym c.in-Some.ensures.found) (cc (lost-is _ c.in-Some.x c.args.loss c.lost.result c.args.ticket here loss)))
