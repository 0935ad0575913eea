use Rattle.note_queue.specs.Words.{front_of}
use Rattle.flusher.proofs.Candidates.{unclaims}
use Rattle.flusher.proofs.Counts.{counted_moved}
use Rattle.flusher.proofs.front_desk.FrontDesk.unclaim.Goals as goal

pub invariant_of-self : goal.invariant_of-self
invariant_of-self g c =
    let old = c.args.self.now in
    let e = c.unclaim.ensures in
    record {
      one_part = old.one_part;
      counted = counted_moved _ _ _ _ _ (front_of old.seat.sender) (front_of c.unclaim.new.self) c.unclaim.result e.ok
          e.unchanged old.counted;
      sum = old.sum;
    }

pub returns-clause-unclaims : goal.returns-clause-unclaims
returns-clause-unclaims g c =
    let e = c.unclaim.ensures in
    unclaims c.args.connection.0 c.args.key (front_of c.args.self.now.seat.sender) (front_of c.unclaim.new.self)
    c.unclaim.result e.ok e.broken e.not_held e.kinds e.unchanged
