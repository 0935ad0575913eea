use Rattle.std.proofs.Common.{length}
use Rattle.dot_codec.proofs.Counts.{Read}
use Rattle.dot_codec.proofs.read.lines_of.Given as goal

abbrev pub invariant-loop-line : goal.invariant-loop-line
invariant-loop-line l = Read l.octets l.rest l.text.items

abbrev pub decreases-loop-line : goal.decreases-loop-line
decreases-loop-line l = length l.rest
