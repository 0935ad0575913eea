use Rattle.std.proofs.Common.{◌≡◌, ◌+◌, length, ◌∙◌, rules}
use Rattle.note_queue.specs.Words.{front_of}
use Rattle.peer_queue.specs.Front.{front_shape}
use Rattle.flusher.proofs.Counts.{counted_same, counted_shed}
use Rattle.flusher.proofs.front_desk.FrontDesk.shed.Goals as goal

pub invariant_of-self : goal.invariant_of-self
invariant_of-self g c =
    let old = c.args.self.now in
    record {
      one_part = old.one_part;
      counted = counted_same _ _ _ (front_of old.seat.sender) (front_of c.shed.new.self) c.in_err-shed.ensures.unchanged
          old.counted;
      sum = old.sum;
    }

pub invariant_of-self-2 : goal.invariant_of-self-2
invariant_of-self-2 g c =
    let old = c.args.self.now in
    let before = front_of old.seat.sender in
    let after = front_of c.shed.new.self in
    let e = c.in_ok-shed.ensures in
    let numbers = c.in_ok-shed.shed.keys.items in
    let count = c.count.ensures.station in
    let more : c.count.new.station.amount ≡ old.dropped.amount + length numbers = search rules in
    record {
      one_part = (old.one_part.0, old.one_part.1, count.1 ∙ old.one_part.2);
      counted = counted_shed _ _ _ _ numbers (front_shape before) (front_shape after) e.ok.notes.outbox.shape more
          old.counted;
      sum = old.sum;
    }
