use Rattle.note_queue.specs.Words.{front_of}
use Rattle.flusher.proofs.Counts.{counted_kept}
use Rattle.flusher.proofs.front_desk.FrontDesk.release.Goals as goal

pub invariant_of-self : goal.invariant_of-self
invariant_of-self g c =
    let old = c.args.self.now in
    let e = c.release.ensures in
    record {
      one_part = old.one_part;
      counted = counted_kept _ _ _ (front_of old.seat.sender) (front_of c.release.new.self) e.keeps old.counted;
      sum = old.sum;
    }
