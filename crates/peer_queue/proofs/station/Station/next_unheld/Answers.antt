use Rattle.std.proofs.Common.{ℕ, sym, ap, ◌∙◌, add-one, arith}
use Rattle.std.specs.Prelude.{find, nat_le}
use Rattle.ledger_core.specs.State.{keys, marks_of}
use Rattle.peer_queue.specs.DebtPlace.{unheld}
use Rattle.peer_queue.specs.Words.{ledger_of, places_of}
use Rattle.peer_queue.proofs.Prefixes.{found_last}
use Rattle.peer_queue.proofs.station.Station.next_unheld.Goals as goal

pub returns-in-Some : goal.returns-in-Some
returns-in-Some g c =
    c.unheld_from.ensures.first
    ∙ ap (λ (k : ℕ). find (λ m. nat_le k m) (unheld (places_of c.args.self.now)))
    (c.in-Some.ensures.some ∙ add-one c.args.key)

pub returns-in-None : goal.returns-in-None
returns-in-None g c =
    let station = c.args.self.now in
    let state = ledger_of station in
    sym (found_last c.args.key station.index (marks_of state) (keys state) station.all_placed station.tape.ledger.past
    (omega arith) (omega arith) c.in-None.ensures.none)
