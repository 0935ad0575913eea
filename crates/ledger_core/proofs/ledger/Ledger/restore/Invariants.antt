use Rattle.std.proofs.Common.{take}
use Rattle.ledger_core.specs.Restoring.{HasTaken}
use Rattle.std.specs.Prelude.{map, vec_items}
use Rattle.ledger_core.proofs.ledger.Ledger.restore.Given as goal

abbrev pub invariant-loop-payload : goal.invariant-loop-payload
invariant-loop-payload l = HasTaken l.restoring (take l.payload-index (map vec_items l.payloads))
