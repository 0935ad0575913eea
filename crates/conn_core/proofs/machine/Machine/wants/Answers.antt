use Rattle.std.proofs.Common.{◌≡◌, sym, ap, ◌∙◌, find, Some, None}
use Rattle.reply_reader.specs.Next.{given_of}
use Rattle.conn_core.specs.Commands.{is_at}
use Rattle.conn_core.specs.Kept.{can_answer}
use Rattle.conn_core.specs.State.{State}
use Rattle.conn_core.proofs.Answering.{wants-is}
use Rattle.conn_core.proofs.machine.Machine.wants.Goals as goal

pub returns-in-Some-get-clause-ok : goal.returns-in-Some-get-clause-ok
returns-in-Some-get-clause-ok c =
    let found : find (can_answer c.args.mode c.args.self.now.held (given_of c.args.reply.now))
    c.args.self.now.window ≡ Some c.in-Some.ask =
    ap (λ (s : State). find (can_answer c.args.mode s.held (given_of c.args.reply.now)) s.window) (sym c.self.view_is)
    ∙ sym c.in-Some.ensures.found in
    let held : find (is_at c.in-Some.ask.ticket) c.args.self.now.held ≡ Some c.in-Some-get.x.now =
    ap (λ (s : State). find (is_at c.in-Some.ask.ticket) s.held) (sym c.self.view_is)
    ∙ ap (λ p. find (is_at p) c.self.inside.held.debts) (sym c.ticket.ensures) ∙ sym c.in-Some-get.ensures in
    sym (wants-is c.args.self.now c.args.mode (given_of c.args.reply.now) c.in-Some.ask found
    (Some c.in-Some-get.x.now) _ c.requires held (rw (← c.self.view_is) (cc)))

pub returns-in-None-clause-ok : goal.returns-in-None-clause-ok
returns-in-None-clause-ok c =
    let found : find (can_answer c.args.mode c.args.self.now.held (given_of c.args.reply.now))
    c.args.self.now.window ≡ Some c.in-Some.ask =
    ap (λ (s : State). find (can_answer c.args.mode s.held (given_of c.args.reply.now)) s.window) (sym c.self.view_is)
    ∙ sym c.in-Some.ensures.found in
    let held : find (is_at c.in-Some.ask.ticket) c.args.self.now.held ≡ None =
    ap (λ (s : State). find (is_at c.in-Some.ask.ticket) s.held) (sym c.self.view_is)
    ∙ ap (λ p. find (is_at p) c.self.inside.held.debts) (sym c.ticket.ensures) ∙ sym c.in-None.ensures in
    sym (wants-is c.args.self.now c.args.mode (given_of c.args.reply.now) c.in-Some.ask found None _ c.requires held (rw (← c.self.view_is) (cc)))
