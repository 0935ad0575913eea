use Rattle.peer_queue.proofs.Same.{same_station}
use Rattle.peer_queue.proofs.station.Station.flush.Goals as goal

pub returns-in-Ok-clause-empty : goal.returns-in-Ok-clause-empty
returns-in-Ok-clause-empty g c = λ none.
    same_station c.args.self.now c.flush.new.self (c.in-Ok.ensures.empty none) _ _

pub returns-in-Err-clause-empty : goal.returns-in-Err-clause-empty
returns-in-Err-clause-empty g c = λ none.
    same_station c.args.self.now c.flush.new.self (c.in-Err.ensures.empty none) _ _
