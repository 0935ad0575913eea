-- The lines so far and what is left make up the octets.
use Rattle.std.proofs.Common.{length, map}
use Rattle.std.specs.Vec.{vec_items}
use Rattle.funnel.proofs.Cuts.{CutTo}
use Rattle.funnel.proofs.cutter.LineCutter.of.Given as goal

abbrev pub invariant-loop-line : goal.invariant-loop-line
invariant-loop-line l = CutTo l.octets l.left (map vec_items l.lines.items)

abbrev pub decreases-loop-line : goal.decreases-loop-line
decreases-loop-line l = length l.left
