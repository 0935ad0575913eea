use Rattle.std.proofs.Common.{ap, ◌∙◌}
use Rattle.peer_queue.specs.DebtPlace.{placed}
use Rattle.peer_queue.proofs.Same.{placed-released}
use Rattle.peer_queue.proofs.front.Front.release.Goals as goal

pub invariant_of-self : goal.invariant_of-self
invariant_of-self c =
    let front = c.args.self.now in
    record {
      all_placed = ap placed c.release.ensures.places
          ∙ (placed-released c.args.connection.0 front.index ∙ front.all_placed);
    }
