use Rattle.std.proofs.Common.{List, ℕ, ap, subst}
use Rattle.flusher.proofs.Lines.{refused_unasked}
use Rattle.flusher.specs.Marks.{IsRaised}
use Rattle.flusher.specs.Shares.{IntakeCount}
use Rattle.flusher.proofs.post.Post.take_line_at.Goals as goal

pub returns-clause-raised : goal.returns-clause-raised
returns-clause-raised g c =
    let was = ap (λ (s : IntakeCount). s.marks) c.share.view_is in
    subst
    (λ (m : List ℕ). IsRaised c.in-Some.number c.args.line.now c.args.self.now.names m c.take_whole.new.marks.items) was
    c.in_ok-line.ensures.raised

pub returns-in_default-clause-refuses : goal.returns-in_default-clause-refuses
returns-in_default-clause-refuses g c = refused_unasked _ _ _ _ _ tt
