use Rattle.std.proofs.Common.{refl, sym, ap, ◌∙◌, Option}
use Rattle.dot_codec.specs.Lines.{IsSendable}
use Rattle.dot_codec.specs.Block.{written}
use Rattle.conn_core.specs.Commands.{Held, Sendable}
use Rattle.conn_core.specs.Kept.{without_want}
use Rattle.conn_core.specs.Machine.{handed_for, quit_if_due}
use Rattle.conn_core.proofs.machine.Machine.forget_text.Goals as goal

pub returns-clause-ok : goal.returns-clause-ok
returns-clause-ok c =
    let sendable : IsSendable c.args.text.now = c.is_sendable.ensures.0 c.if-not-is_sendable.false in
    let block = written sendable.lines.0 in (
      block,
      (sendable, (sendable.lines.0, sendable.lines.1, refl)),
      c.forget.ensures
          ∙ ap (λ (o : Option Held). quit_if_due (handed_for (without_want c.args.self.now c.args.key) (Sendable block) o)) (sym c.requires),
    )
