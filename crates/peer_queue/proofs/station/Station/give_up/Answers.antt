use Rattle.std.proofs.Common.{ap, ◌∙◌}
use Rattle.peer_queue.specs.Index.{place_for}
use Rattle.peer_queue.specs.DebtPlace.{placed}
use Rattle.peer_queue.proofs.Ends.{placed-moved}
use Rattle.peer_queue.proofs.station.Station.give_up.Goals as goal

pub invariant_of-self : goal.invariant_of-self
invariant_of-self g c =
    let station = c.args.self.now in
    record {
      all_placed = ap placed c.give_up.ensures
          ∙ (placed-moved station.index c.args.key (place_for c.args.wait) ∙ station.all_placed);
      unplaced = station.unplaced;
    }
