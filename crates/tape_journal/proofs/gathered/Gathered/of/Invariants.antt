use Rattle.std.proofs.Common.{take}
use Rattle.std.specs.Prelude.{map, vec_items}
use Rattle.tape_journal.specs.Gathered.{Gathers}
use Rattle.tape_journal.proofs.gathered.Gathered.of.Given as goal

abbrev pub invariant-loop-payload : goal.invariant-loop-payload
invariant-loop-payload l = Gathers l.gathered (take l.payload-index (map vec_items l.payloads))
