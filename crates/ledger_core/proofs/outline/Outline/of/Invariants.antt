use Rattle.std.proofs.Common.{◌≡◌, map}
use Rattle.std.specs.Map.Iter.{deref_pair}
use Rattle.ledger_core.proofs.Outlined.{gathered}
use Rattle.ledger_core.proofs.outline.Outline.of.Given as goal

abbrev pub invariant-loop-key : goal.invariant-loop-key
invariant-loop-key l = l.debts.entries ≡ gathered (map deref_pair l.yielded)
