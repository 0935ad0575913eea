use Rattle.ledger_core.proofs.ledger.Ledger.owe_at.Goals as goal

pub returns-clause-indexes : goal.returns-clause-indexes
returns-clause-indexes c =
    let said = rw c.bytes.ensures.value at c.owe_texts.ensures.indexes in
    let said' = rw c.bytes-2.ensures.value at said in
    said'
