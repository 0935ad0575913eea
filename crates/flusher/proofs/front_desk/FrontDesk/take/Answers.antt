use Rattle.std.proofs.Common.{Ok, ap, ◌∙◌}
use Rattle.note_queue.specs.Words.{front_of}
use Rattle.peer_queue.specs.Front.{front_shape}
use Rattle.flusher.proofs.Counts.{counted_along, counted_owe, counted_same}
use Rattle.flusher.proofs.front_desk.FrontDesk.take.Goals as goal

pub invariant_of-self-in-Ok-New : goal.invariant_of-self-in-Ok-New
invariant_of-self-in-Ok-New g c =
    let old = c.args.self.now in
    let new = c.owe.new.self in
    let took = c.owe.ensures.new (c.in-Ok-New.is ∙ ap Ok c.in-Ok-New.field-0-is) in
    let count = c.count.ensures.station in
    record {
      one_part = (count.1 ∙ old.one_part.0, old.one_part.1, old.one_part.2);
      counted = counted_owe _ _ _ _ c.args.number c.args.line.now.token c.args.line.now.id
          (front_shape (front_of old.seat.sender)) (front_shape (front_of new)) took.outbox.shape count.0 old.counted;
      sum = old.sum;
    }

pub invariant_of-self-in-Ok-Already : goal.invariant_of-self-in-Ok-Already
invariant_of-self-in-Ok-Already g c =
    let old = c.args.self.now in
    let same = c.owe.ensures.unchanged (c.in-Ok-Already.is ∙ ap Ok c.in-Ok-Already.field-0-is) in
    record {
      one_part = old.one_part;
      counted = counted_along _ _ _ (front_shape (front_of old.seat.sender)) (front_shape (front_of c.owe.new.self))
          (ap (λ s. front_shape (front_of s)) same) old.counted;
      sum = old.sum;
    }

pub invariant_of-self-in-Err-1 : goal.invariant_of-self-in-Err-1
invariant_of-self-in-Err-1 g c =
    let old = c.args.self.now in
    record {
      one_part = old.one_part;
      counted = counted_same _ _ _ (front_of old.seat.sender) (front_of c.owe.new.self) c.in-Err.ensures.refuses.unchanged
          old.counted;
      sum = old.sum;
    }
