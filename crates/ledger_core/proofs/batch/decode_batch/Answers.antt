use Rattle.std.proofs.Common.{◌++◌, refl}
use Rattle.std.proofs.lemmas.Result.{IfOk-weaker}
use Rattle.std.specs.Prelude.{IfNone}
use Rattle.std.specs.Int.{to_be_bytes, w32}
use Rattle.ledger_core.specs.Batch.{SpellsNoBatch}
use Rattle.ledger_core.proofs.Batches.{several-split}
use Rattle.ledger_core.proofs.Tags.{none-weaker}
use Rattle.ledger_core.proofs.batch.decode_batch.Goals as goal

pub returns-in-Some-clause-none : goal.returns-in-Some-clause-none
returns-in-Some-clause-none c =
    let found = c.in-Some.ensures in
    IfOk-weaker c.notes_in.result _ (λ o. IfNone o (SpellsNoBatch c.args.octets.now))
    (λ o said. none-weaker o (λ none notes are e.
    let parts = several-split notes c.args.octets.now (to_be_bytes w32 c.in-Some.count ++ c.in-Some.body.now)
    c.in-Some.body.now c.in-Some.count found.several.1 are found.some refl e in
    none notes are.notes_are parts.0 parts.1) said) c.notes_in.ensures.none
