use Rattle.std.proofs.Common.{◌≡◌, ◌++◌, ap, sym, ◌∙◌}
use Rattle.crossbeam_queue.specs.Passes.{view}
use Rattle.ledger_core.specs.State.{after}
use Rattle.recovery.specs.Words.{ledger_of}
use Rattle.note_queue.specs.Owns.{kept_list}
use Rattle.note_queue.proofs.Owning.{folded}
use Rattle.note_queue.proofs.side.Side.join.Goals as goal

pub returns-clause-order : goal.returns-clause-order
returns-clause-order g c =
    let logs = c.rejoined-pass.ensures.logs in
    let items = c.drained-queued.result.items in
    (logs.2, sym logs.0 ∙ c.drained-queued.ensures.all ∙ ap (λ l. l ++ items) logs.1)

pub returns-clause-folds : goal.returns-clause-folds
returns-clause-folds g c =
    let side = c.args.self in
    let sends = view c.args.sends in
    let gets = view side.pass in
    let logs = c.rejoined-pass.ensures.logs in
    let items = c.drained-queued.result.items in
    let all : sends.sent ≡ gets.got ++ items =
    sym logs.0 ∙ c.drained-queued.ensures.all ∙ ap (λ l. l ++ items) logs.1 in
    let same = c.rejoined-pass.ensures.side in
    (λ i. after (ledger_of (same.0 i)) (kept_list (same.1 i) ++ items))
    ∙ folded (ledger_of side.tape) sends.sent_on gets.got_on sends.sent gets.got items side.kept logs.2 all side.last
    side.ledger
