use Rattle.std.proofs.Common.{arith}
use Rattle.std.proofs.lemmas.Result.{on_ok_weaker}
use Rattle.ledger_core.specs.Ledger.{state_of}
use Rattle.ledger_core.proofs.Taking.{next-debt, next-no-debt, next-no-notes, next-notes}
use Rattle.ledger_core.proofs.restoring.Restoring.read_next.Goals as goal

pub returns-then-taken-self-clause-reads : goal.returns-then-taken-self-clause-reads
returns-then-taken-self-clause-reads c = λ generation payloads reads.
    on_ok_weaker c.apply_payload.result (λ said. next-notes generation c.args.taken payloads c.args.payload.now
    (state_of c.args.self.now.ledger) (state_of c.apply_payload.new.self) (omega arith) reads said)
    c.apply_payload.ensures.ok

pub returns-then-taken-self-clause-refused : goal.returns-then-taken-self-clause-refused
returns-then-taken-self-clause-refused c = λ generation payloads reads told e.
    next-no-notes generation c.args.taken payloads c.args.payload.now (state_of c.args.self.now.ledger) (omega arith)
    reads (c.apply_payload.ensures.refused told e).1

pub returns-else-taken-self-clause-reads : goal.returns-else-taken-self-clause-reads
returns-else-taken-self-clause-reads c = λ generation payloads reads.
    on_ok_weaker c.take_debt.result (λ said. next-debt generation c.args.taken payloads c.args.payload.now
    (state_of c.args.self.now.ledger) (state_of c.take_debt.new.self) (omega arith) reads said)
    c.take_debt.ensures.ok

pub returns-else-taken-self-clause-refused : goal.returns-else-taken-self-clause-refused
returns-else-taken-self-clause-refused c = λ generation payloads reads told e.
    next-no-debt generation c.args.taken payloads c.args.payload.now (state_of c.args.self.now.ledger) (omega arith)
    reads (c.take_debt.ensures.refused told e).1
