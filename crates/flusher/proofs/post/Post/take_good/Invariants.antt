use Rattle.std.specs.Prelude.{◌≡◌}
use Rattle.flusher.proofs.Taken.{Done}
use Rattle.flusher.proofs.post.Post.take_good.Given as goal

abbrev pub invariant-loop-peer : goal.invariant-loop-peer
invariant-loop-peer g l =
    Done l.number l.line.peers.items l.self.names l.fn.marks.items l.peer l.marks.items l.fn.taken.amount
    l.taken.amount × (l.taken.parts ≡ 1)
