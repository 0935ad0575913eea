use Rattle.std.proofs.Common.{rules, ap, sym, ◌∙◌}
use Rattle.note_queue.specs.RelayLaws.{merges, totals}
use Rattle.note_queue.proofs.side.Side.rejoined.Goals as goal

pub absorb-requires-clause-rule : goal.absorb-requires-clause-rule
absorb-requires-clause-rule g c = merges _ _ _ _ c.requires.sends.1 c.args.self.role.0

pub learn_as-requires-clause-rule : goal.learn_as-requires-clause-rule
learn_as-requires-clause-rule g c = totals _ _ (search rules) (search rules)

pub returns-clause-logs : goal.returns-clause-logs
returns-clause-logs g c =
    let both = c.absorb.ensures.rule in
    let known = c.learn_as.ensures.queue.1 ∙ both in (
      ap (λ l. l.sent) known,
      ap (λ l. l.got) known,
      sym (ap (λ l. l.sent_on) both) ∙ c.learn_as.ensures.rule.1.0 ∙ ap (λ l. l.got_on) both,
    )
