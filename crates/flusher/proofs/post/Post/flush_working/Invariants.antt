use Rattle.std.specs.Prelude.{IfErr, length}
use Rattle.flusher.specs.Faults.{IsFlushWorkingFault}
use Rattle.flusher.proofs.post.Post.flush_working.Given as goal

abbrev pub invariant-loop-peer : goal.invariant-loop-peer
invariant-loop-peer g l = IfErr l.first (IsFlushWorkingFault (length l.self.names))
