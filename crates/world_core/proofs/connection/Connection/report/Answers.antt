-- After the outcomes, the connection's report follows, and its output counts as sent.
use Rattle.std.proofs.Common.{◌∙◌, ap, length, refl, sym}
use Rattle.world_core.proofs.Results.{if_err}
use Rattle.world_core.proofs.OutputSent.{followed, as_refused}
use Rattle.world_core.proofs.connection.Connection.report.Goals as goal

pub returns-in_err-add_sent-clause-err : goal.returns-in_err-add_sent-clause-err
returns-in_err-add_sent-clause-err g c = λ id conn past pair.
    if_err c.from_residual-in_err-add_sent.result _ _ c.from_residual-in_err-add_sent.ensures.1
    (as_refused id c.args.now conn past c.args.outputs.now.items _ _ _ (c.in_ok-settle_all.ensures.ok id conn past pair))

pub returns-in_err-add_need-clause-err : goal.returns-in_err-add_need-clause-err
returns-in_err-add_need-clause-err g c = λ id conn past pair.
    if_err c.from_residual-in_err-add_need.result _ _ c.from_residual-in_err-add_need.ensures.1
    (as_refused id c.args.now conn past c.args.outputs.now.items _ _ _ (c.in_ok-settle_all.ensures.ok id conn past pair))

pub returns-in_err-add_closed-clause-err : goal.returns-in_err-add_closed-clause-err
returns-in_err-add_closed-clause-err g c = λ id conn past pair.
    if_err c.from_residual-in_err-add_closed.result _ _ c.from_residual-in_err-add_closed.ensures.1
    (as_refused id c.args.now conn past c.args.outputs.now.items _ _ _ (c.in_ok-settle_all.ensures.ok id conn past pair))

pub returns-clause-ok : goal.returns-clause-ok
returns-clause-ok g c = λ id conn past was pair was_is.
    followed id c.args.now conn past c.args.outputs.now.items c.settle_all.new.self c.settle_all.new.peer
    c.settle_all.new.outputs.items
    (c.in_ok-settle_all.ensures.ok id conn past pair) was _ c.add_sent.new.outputs.items c.add_need.new.outputs.items
    c.add_closed.new.outputs.items
    c.id-connection.result.0 _ c.args.was_open c.output.result.now c.need.result c.closed.result
    (ap (λ i. i.0) c.id-connection.ensures)
    c.output.ensures.stands c.need.ensures c.closed.ensures c.in_ok-add_sent.ensures c.in_ok-add_need.ensures
    c.in_ok-add_closed.ensures
    was_is (ap length (c.output-count.ensures.now ∙ sym c.output.ensures.now)) refl refl c.sent.ensures.same_id
    c.sent.ensures.stands
