use Rattle.std.proofs.Common.{sym, ap, ◌∙◌}
use Rattle.reply_reader.specs.Next.{given_of}
use Rattle.conn_core.specs.Machine.{quit_if_due}
use Rattle.conn_core.proofs.Stirring.{stir, on_reply-is}
use Rattle.conn_core.proofs.machine.Machine.on_reply.Goals as goal

pub returns-clause-ok : goal.returns-clause-ok
returns-clause-ok c =
    c.quit_if_due.ensures ∙ ap quit_if_due (ap stir (c.self.view_is ∙ c.in_ok-dispatch_reply.ensures.ok)) ∙ sym (on_reply-is c.args.self.now (given_of c.args.reply.now))
