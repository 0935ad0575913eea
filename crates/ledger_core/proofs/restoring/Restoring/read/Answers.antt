use Rattle.std.proofs.Common.{[], ◌∷◌, ◌+◌, ◌≤◌, ◌++◌, length, subst}
use Rattle.ledger_core.specs.Index.{Indexes}
use Rattle.ledger_core.specs.Ledger.{state_of}
use Rattle.ledger_core.specs.Restoring.{HasRead}
use Rattle.ledger_core.specs.declared.restoring.RestoreStage.{RestoreStage}
use Rattle.ledger_core.proofs.Taking.{indexed-next, on-ok-each}
use Rattle.ledger_core.proofs.restoring.Restoring.read.Goals as goal

pub returns-in-Unread-clause-indexes : goal.returns-in-Unread-clause-indexes
returns-in-Unread-clause-indexes c = λ payloads gone.
    on-ok-each c.read_first.result (λ kept. length payloads + 1 ≤ kept)
    (λ kept. Indexes kept (payloads ++ c.args.payload.now ∷ []) c.read_first.new.self.ledger) (λ kept few.
    let next = indexed-next c.args.self.now payloads c.args.payload.now kept few gone in
    c.read_first.ensures.indexes kept (payloads ++ c.args.payload.now ∷ []) next.0 next.1)

pub returns-in-Begun-clause-indexes : goal.returns-in-Begun-clause-indexes
returns-in-Begun-clause-indexes c = λ payloads gone.
    on-ok-each c.read_next.result (λ kept. length payloads + 1 ≤ kept)
    (λ kept. Indexes kept (payloads ++ c.args.payload.now ∷ []) c.read_next.new.self.ledger) (λ kept few.
    let next = indexed-next c.args.self.now payloads c.args.payload.now kept few gone in
    c.read_next.ensures.indexes kept (payloads ++ c.args.payload.now ∷ []) next.0 next.1)

pub returns-in-Begun-clause-refused : goal.returns-in-Begun-clause-refused
returns-in-Begun-clause-refused c = λ payloads gone told e.
    let reads = subst (λ (s : RestoreStage). HasRead s (state_of c.args.self.now.ledger) payloads) c.in-Begun.is
    gone.reads in
    c.read_next.ensures.refused c.in-Begun.generation payloads reads told e
