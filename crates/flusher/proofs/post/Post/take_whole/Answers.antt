use Rattle.std.proofs.Common.{List, ℕ, subst, sym}
use Rattle.flusher.specs.Marks.{IsRaised}
use Rattle.flusher.proofs.post.Post.take_whole.Goals as goal

pub raised-requires : goal.raised-requires
raised-requires g c = (
  c.args.marks.now.items,
  subst (λ (m : List ℕ). IsRaised c.args.number c.args.line.now c.args.self.now.names c.args.marks.now.items m)
      (sym c.deref.ensures.value) c.in_ok-take_read.ensures.raised,
)
