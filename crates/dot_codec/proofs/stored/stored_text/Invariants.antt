use Rattle.std.proofs.Common.{length}
use Rattle.dot_codec.proofs.Parts.{IsSoFar}
use Rattle.dot_codec.proofs.stored.stored_text.Given as goal

abbrev pub invariant-loop-line : goal.invariant-loop-line
invariant-loop-line l = IsSoFar l.octets l.rest l.text.items

abbrev pub decreases-loop-line : goal.decreases-loop-line
decreases-loop-line l = length l.rest
