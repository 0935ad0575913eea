use Rattle.std.proofs.Common.{◌≡◌, sym, ap, ◌∙◌, find, Some}
use Rattle.reply_reader.specs.Next.{given_of}
use Rattle.conn_core.specs.Kept.{can_answer}
use Rattle.conn_core.specs.State.{State}
use Rattle.conn_core.proofs.Answering.{sends-is}
use Rattle.conn_core.proofs.machine.Machine.sends_block.Goals as goal

pub returns-clause-ok : goal.returns-clause-ok
returns-clause-ok c =
    let found : find (can_answer c.args.mode c.args.self.now.held (given_of c.args.reply.now))
    c.args.self.now.window ≡ Some c.in-Some.ask =
    ap (λ (s : State). find (can_answer c.args.mode s.held (given_of c.args.reply.now)) s.window) (sym c.self.view_is)
    ∙ ap (λ asks. find (can_answer c.args.mode c.self.inside.held.debts (given_of c.args.reply.now)) asks)
    (sym c.reserve.ensures.items) ∙ sym c.in-Some.ensures.found in
    sym (sends-is c.args.self.now c.args.mode (given_of c.args.reply.now) c.in-Some.ask found _ c.requires
    (rw (← c.self.view_is) (cc)))
