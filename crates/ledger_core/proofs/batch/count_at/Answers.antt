use Rattle.std.proofs.Common.{arith}
use Rattle.ledger_core.proofs.Spellings.{source-read}
use Rattle.ledger_core.proofs.batch.count_at.Goals as goal

pub returns-clause-some : goal.returns-clause-some
returns-clause-some c =
    let parts = c.in_ok-count.ensures.cases in
    source-read c.args.octets.now c.in_ok-count.count.now c.in_ok-count.rest.now
    c.from_be_bytes.result
    parts.0 parts.1 (omega (arith, parts.2)) (λ i. omega (arith, c.type_inv.octets i))
    c.from_be_bytes.ensures
