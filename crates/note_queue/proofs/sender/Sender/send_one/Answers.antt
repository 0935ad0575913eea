use Rattle.std.proofs.Common.{ap, ◌∙◌}
use Rattle.note_queue.specs.RelayLaws.{stays}
use Rattle.note_queue.specs.declared.rule.PassLog.{PassLog}
use Rattle.note_queue.proofs.sender.Sender.send_one.Goals as goal

pub push_as-requires-clause-rule : goal.push_as-requires-clause-rule
push_as-requires-clause-rule g c =
    let pushes = ap (λ (log : PassLog). log.pushes) c.is_full_as.ensures.queue.1 ∙ c.args.self.now.role.0 in
    (g.met.P.Relays.allows_pushes _ _ _ _ pushes, stays _ _ _)
