use Rattle.note_queue.specs.RelayLaws.{forks}
use Rattle.note_queue.proofs.rule.split_pass_at.Goals as goal

pub another-requires-clause-rule : goal.another-requires-clause-rule
another-requires-clause-rule g c = forks _ _ _ c.requires.roles.0 c.requires.roles.1
