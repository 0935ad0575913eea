use Rattle.status.proofs.Parts.{Leaves}
use Rattle.status.proofs.put.put.Given as goal

abbrev pub invariant-loop : goal.invariant-loop
invariant-loop g l = Leaves (g.W.Write.contents l.initial.out) (g.W.Write.contents l.out) l.text l.rest
