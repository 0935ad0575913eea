use Rattle.std.proofs.Common.{length}
use Rattle.dot_codec.proofs.Puts.{PutSoFar}
use Rattle.dot_codec.proofs.write.put_lines.Given as goal

abbrev pub invariant-loop-rest : goal.invariant-loop-rest
invariant-loop-rest l = PutSoFar l.text l.rest l.fn.output l.output

abbrev pub decreases-loop-rest : goal.decreases-loop-rest
decreases-loop-rest l = length l.rest
