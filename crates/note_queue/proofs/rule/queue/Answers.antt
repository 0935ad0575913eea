use Rattle.note_queue.specs.RelayLaws.{begins}
use Rattle.note_queue.proofs.rule.queue.Goals as goal

pub ruled-requires-clause-rule : goal.ruled-requires-clause-rule
ruled-requires-clause-rule c = begins
