use Rattle.std.specs.Prelude.{◌≡◌, length}
use Rattle.flusher.specs.Sealed.{IsDoneBelow}
use Rattle.flusher.proofs.post.Post.flush_up_to.Given as goal

-- all is settled at as many places, for the same number
abbrev pub invariant-loop-peer : goal.invariant-loop-peer
invariant-loop-peer g l = record {
  done : IsDoneBelow l.peer l.sealing.places.items;
  places : length l.sealing.places.items ≡ length l.self.names;
  number : l.sealing.number ≡ l.fn.last.number;
}
