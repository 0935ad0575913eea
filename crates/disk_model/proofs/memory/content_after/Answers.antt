use Rattle.std.proofs.Common.{[], take, ap, sym, ◌∙◌, arith}
use Rattle.disk_model.specs.Disk.{content}
use Rattle.disk_model.specs.Memory.{log_of}
use Rattle.disk_model.proofs.Kept.{logged_more}
use Rattle.disk_model.proofs.memory.content_after.Goals as goal

pub loop-event-preserved : goal.loop-event-preserved
loop-event-preserved c =
    let ms = c.args.history.now in
    let i = c.loop-event.event-index in
    c.in_ok-redo.ensures (log_of (take i ms)) c.loop-event.invariant ∙ ap content (sym (logged_more [] ms i c.event-item.result (omega arith) c.event-item.is))
