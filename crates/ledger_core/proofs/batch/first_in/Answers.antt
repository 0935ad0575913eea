use Rattle.ledger_core.proofs.Batches.{first-there}
use Rattle.ledger_core.proofs.batch.first_in.Goals as goal

pub returns-clause-first : goal.returns-clause-first
returns-clause-first c = λ note behind e.
    first-there c.args.octets.now behind c.prefix_len.result note (λ p. p.0.now) (λ p. p.1.now)
    c.split_at_checked.result
    c.prefix_len.ensures e c.split_at_checked.ensures.cases
