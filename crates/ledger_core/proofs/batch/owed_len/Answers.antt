use Rattle.std.proofs.Common.{◌++◌, length, ap, arith, length-append}
use Rattle.ledger_core.specs.Spelling.{key_head, sized_text}
use Rattle.ledger_core.proofs.batch.owed_len.Goals as goal

pub returns-clause-len : goal.returns-clause-len
returns-clause-len c = λ debt key token id.
    let texts = sized_text debt.1.0 ++ sized_text debt.1.1 in
    omega (
      arith,
      token,
      id,
      c.key_len.ensures.len 1 6,
      ap (λ k. length (key_head 1 6 k)) key,
      length-append (key_head 1 6 debt.0) texts,
      length-append (sized_text debt.1.0) (sized_text debt.1.1),
    )
