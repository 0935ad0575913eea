use Rattle.note_queue.specs.Words.{front_of}
use Rattle.peer_queue.specs.Front.{front_shape}
use Rattle.flusher.proofs.Counts.{counted_along}
use Rattle.flusher.proofs.front_desk.FrontDesk.send.Goals as goal

pub invariant_of-self : goal.invariant_of-self
invariant_of-self g c =
    let old = c.args.self.now in
    let e = c.send.ensures in
    record {
      one_part = old.one_part;
      counted = counted_along _ _ _ (front_shape (front_of old.seat.sender)) (front_shape (front_of c.send.new.self))
          e.keeps.shape old.counted;
      sum = old.sum;
    }
