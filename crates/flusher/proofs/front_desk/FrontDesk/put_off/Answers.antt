use Rattle.note_queue.specs.Words.{front_of}
use Rattle.flusher.proofs.Counts.{counted_moved}
use Rattle.flusher.proofs.front_desk.FrontDesk.put_off.Goals as goal

pub invariant_of-self : goal.invariant_of-self
invariant_of-self g c =
    let old = c.args.self.now in
    let e = c.put_off.ensures in
    record {
      one_part = old.one_part;
      counted = counted_moved _ _ _ _ _ (front_of old.seat.sender) (front_of c.put_off.new.self) c.put_off.result e.ok
          e.unchanged old.counted;
      sum = old.sum;
    }
