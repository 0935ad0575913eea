use Rattle.std.proofs.Common.{◌≡◌, sym, ap, ◌∙◌, find, Some}
use Rattle.reply_reader.specs.Next.{given_of}
use Rattle.conn_core.specs.Codes.{meaning}
use Rattle.conn_core.specs.Commands.{is_at}
use Rattle.conn_core.specs.Kept.{can_answer, settled_by}
use Rattle.conn_core.specs.State.{State}
use Rattle.conn_core.proofs.Answering.{settles-is}
use Rattle.conn_core.proofs.machine.Machine.settles.Goals as goal

pub returns : goal.returns
returns c =
    let found : find (can_answer c.args.mode c.args.self.now.held (given_of c.args.reply.now))
    c.args.self.now.window ≡ Some c.in-Some.ask =
    ap (λ (s : State). find (can_answer c.args.mode s.held (given_of c.args.reply.now)) s.window) (sym c.self.view_is)
    ∙ sym c.in-Some.ensures.found in
    let says : c.meaning_of.result ≡ meaning c.in-Some.ask.verb c.args.reply.now.code = c.meaning_of.ensures.value ∙ ap (λ v. meaning v c.args.reply.now.code) c.verb-2.ensures in
    c.tell.ensures
    ∙ ap (λ p. settled_by c.count.new.self c.meaning_of.result p (find (is_at p) c.count.new.self.held)) c.ticket.ensures
    ∙ ap (λ m. settled_by c.count.new.self m c.in-Some.ask.ticket (find (is_at c.in-Some.ask.ticket) c.count.new.self.held)) says
    ∙ settles-is c.args.self.now c.args.mode (given_of c.args.reply.now) c.in-Some.ask found c.count.new.self (rw (← c.self.view_is) (cc))
    (λ e. c.requires.not_wanted (c.meaning_of.ensures.wants (says ∙ e))) (λ e. c.requires.no_block (c.meaning_of.ensures.sends (says ∙ e)).1)
