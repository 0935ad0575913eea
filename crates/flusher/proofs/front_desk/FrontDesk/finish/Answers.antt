use Rattle.std.proofs.Common.{sym, subst, ap, ◌∙◌}
use Rattle.note_queue.specs.Words.{front_of}
use Rattle.peer_queue.specs.Front.{limits_of}
use Rattle.peer_queue.specs.FrontCalls.{Settles}
use Rattle.peer_queue.specs.Settled.{key_in, settled_by}
use Rattle.peer_queue.specs.declared.limits.Limits.{Limits}
use Rattle.peer_queue.specs.declared.settled.Settled.{Settled}
use Rattle.flusher.proofs.Counts.{counted_same, counted_settled, taken_back}
use Rattle.flusher.proofs.front_desk.FrontDesk.finish.Goals as goal

pub invariant_of-self : goal.invariant_of-self
invariant_of-self g c =
    let old = c.args.self.now in
    let before = front_of old.seat.sender in
    let after = front_of c.finish.new.self in
    let held = c.args.connection.0 in
    let number = key_in c.args.outcome in
    let settled = c.by-settled.result in
    let limits = c.limits.ensures ∙ ap limits_of c.front.ensures in
    let is = c.by-settled.ensures ∙ ap (λ (l : Limits). settled_by l c.args.now c.args.outcome) limits in
    let made : Settles held number settled before after =
    subst (λ (s : Settled). Settles held number s before after) (sym is) c.in-Ok.ensures.ok in
    let answered = c.count.ensures.answered in
    let dropped = c.count.ensures.dropped in
    record {
      one_part = (old.one_part.0, answered.0, dropped.0);
      counted = counted_settled _ _ _ _ _ held number settled before after made answered.1 dropped.1 old.counted;
      sum = old.sum;
    }

pub invariant_of-self-in-Err : goal.invariant_of-self-in-Err
invariant_of-self-in-Err g c =
    let old = c.args.self.now in
    let was = counted_same _ _ _ (front_of old.seat.sender) (front_of c.finish.new.self)
    c.in-Err.ensures.unchanged old.counted in
    let counted = c.count.ensures in
    let back = c.take_back.ensures in
    record {
      one_part = (old.one_part.0, back.answered.0, back.dropped.0);
      counted = (
        was.0,
        taken_back _ _ _ _ counted.answered.1 back.answered.1 ∙ was.1,
        taken_back _ _ _ _ counted.dropped.1 back.dropped.1 ∙ was.2,
      );
      sum = old.sum;
    }
