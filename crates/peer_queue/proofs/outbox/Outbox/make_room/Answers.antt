use Rattle.std.proofs.Common.{◌-◌, List, ap, length, sym, subst, arith}
use Rattle.std.specs.List.{All}
use Rattle.ledger_core.specs.Outline.{ordinals_in, shape_in}
use Rattle.ledger_core.specs.Shape.{shape_marks}
use Rattle.ledger_core.specs.declared.note.Note.{Note}
use Rattle.peer_queue.specs.Numbers.{IsNumbered, OwesPast}
use Rattle.peer_queue.proofs.outbox.Outbox.make_room.Goals as goal

pub invariant_of-self : goal.invariant_of-self
invariant_of-self c =
    let old = c.args.self.now in
    let same = c.reserve.ensures.items in
    let long = ap (λ (l : List Note). length l) same in
    record {
      within = omega (arith, long, old.within);
      few = omega (arith, long, old.few);
      least = old.least;
      counted = old.counted;
      numbered = subst (λ (l : List Note). All (IsNumbered (old.settled - old.lying) l) (ordinals_in old.outline))
          (sym same) old.numbered;
      owed = subst (All (OwesPast (shape_marks (shape_in old.outline)))) (sym same) old.owed;
    }
