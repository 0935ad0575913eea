use Rattle.std.proofs.Common.{length}
use Rattle.dot_codec.proofs.Counts.{Sized}
use Rattle.dot_codec.proofs.read.block_size.Given as goal

abbrev pub invariant-loop-line : goal.invariant-loop-line
invariant-loop-line l = Sized l.octets l.rest l.text

abbrev pub decreases-loop-line : goal.decreases-loop-line
decreases-loop-line l = length l.rest
