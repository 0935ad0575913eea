use Rattle.std.proofs.Common.{◌<◌, ◌^◌, sym, ap, ◌∙◌, arith}
use Rattle.ledger_core.specs.Shape.{Shape, keys_sized}
use Rattle.peer_queue.specs.Front.{front_shape}
use Rattle.peer_queue.specs.DebtPlace.{placed}
use Rattle.peer_queue.proofs.Ends.{placed_shape}
use Rattle.peer_queue.proofs.Shaped.{held_fits}
use Rattle.peer_queue.proofs.front.Front.end.Goals as goal

pub invariant_of-self : goal.invariant_of-self
invariant_of-self c =
    let front = c.args.self.now in
    record {
      all_placed = ap placed c.end.ensures
          ∙ (placed_shape front.index (front_shape front) c.args.note c.args.key c.requires.note front.all_placed
          ∙ sym (ap (λ (s : Shape). keys_sized s.sizes) c.in-Ok.ensures.ok.shape));
    }

pub pend-requires-clause-legal : goal.pend-requires-clause-legal
pend-requires-clause-legal c =
    let front = c.args.self.now in
    let fits : c.totals-totals.result.taken < 2 ^ 64 = omega arith in
    held_fits front.index (front_shape front) c.args.note c.args.connection.0 c.args.key
    c.totals-totals.result c.requires.note front.all_placed c.requires.held c.totals-totals.ensures.counts
    c.totals-totals.ensures.sum fits
