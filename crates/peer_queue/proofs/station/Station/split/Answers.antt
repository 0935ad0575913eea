use Rattle.std.proofs.Common.{sym, ap, ◌∙◌}
use Rattle.ledger_core.specs.Shape.{Shape, keys_sized}
use Rattle.ledger_core.specs.ShapeLaws.{sizes-keys}
use Rattle.recovery.specs.Words.{ledger_of as tape_ledger}
use Rattle.peer_queue.proofs.station.Station.split.Goals as goal

pub invariant_of-front : goal.invariant_of-front
invariant_of-front g c = record {
  all_placed = c.args.self.all_placed
      ∙ sym (ap (λ (s : Shape). keys_sized s.sizes) (c.new-outbox.ensures.shape ∙ c.in-Ok.ensures)
      ∙ sizes-keys (tape_ledger c.args.self.tape).debts);
}
