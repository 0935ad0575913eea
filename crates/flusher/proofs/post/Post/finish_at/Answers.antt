use Rattle.std.proofs.Common.{◌∙◌}
use Rattle.std.proofs.lemmas.Result.{on_err_weaker, on_ok_weaker}
use Rattle.note_queue.specs.Words.{front_of}
use Rattle.flusher.proofs.post.Post.finish_at.Goals as goal

pub returns-clause-ok : goal.returns-clause-ok
returns-clause-ok g c =
    let finished = c.finish_counted-finished in
    rw c.once_sent.ensures
    (on_ok_weaker finished.result
    (λ done. (front_of finished.new.desk.seat.sender, done, c.send_own-sent.ensures.sends)) finished.ensures.ok)

pub returns-clause-front : goal.returns-clause-front
returns-clause-front g c =
    let finished = c.finish_counted-finished in
    rw c.once_sent.ensures
    (on_err_weaker finished.result
    (λ same. (front_of finished.new.desk.seat.sender, same, c.send_own-sent.ensures.sends)) finished.ensures.front)

pub returns-clause-keeps_report : goal.returns-clause-keeps_report
returns-clause-keeps_report g c =
    let finished = c.finish_counted-finished.ensures.keeps_report in
    let sent = c.send_own-sent.ensures.keeps_report in
    record {
      has_failed = sent.has_failed ∙ finished.has_failed;
      acknowledged = sent.acknowledged ∙ finished.acknowledged;
    }
