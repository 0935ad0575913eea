use Rattle.std.proofs.Common.{ℕ, List, sym, ◌∙◌, subst}
use Rattle.std.specs.List.{Contains}
use Rattle.peer_queue.specs.DebtPlace.{IsUnheld, Places}
use Rattle.peer_queue.proofs.Claims.{candidate_placed, placed_hold}
use Rattle.peer_queue.proofs.station.Station.claim.Goals as goal

pub owed_debt-requires-clause-owed : goal.owed_debt-requires-clause-owed
owed_debt-requires-clause-owed g c =
    let old = c.args.self.now in
    let n = c.in-Some.key in
    subst (λ (l : List ℕ). Contains l n) old.all_placed (candidate_placed c.args.now n old.index (sym c.in-Some.ensures.least))

pub hold-requires : goal.hold-requires
hold-requires g c = subst (λ (places : Places). IsUnheld places c.in-Some.key) (sym c.owed_debt.ensures.places)
    c.in-Some.ensures.unheld

pub invariant_of-self : goal.invariant_of-self
invariant_of-self g c =
    let mid = c.owed_debt.new.self in
    record {
      all_placed = placed_hold c.hold.result mid.index c.hold.new.self c.in-Some.key c.args.connection.0
          c.hold.ensures.ok c.hold.ensures.unchanged ∙ mid.all_placed;
      unplaced = mid.unplaced;
    }
