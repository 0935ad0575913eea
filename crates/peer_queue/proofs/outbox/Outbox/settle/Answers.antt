use Rattle.std.proofs.Common.{◌≡◌, ◌+◌, ◌-◌, List, length, sym, ap, subst, arith}
use Rattle.std.specs.List.{All}
use Rattle.std.proofs.lemmas.List.{length-drop}
use Rattle.std.proofs.lemmas.List.Elements.{All-drop}
use Rattle.ledger_core.specs.Outline.{ordinals_in, shape_in}
use Rattle.ledger_core.specs.Shape.{shape_marks}
use Rattle.ledger_core.specs.declared.note.Note.{Note}
use Rattle.peer_queue.specs.Numbers.{IsNumbered, OwesPast, most_lying}
use Rattle.peer_queue.proofs.Numbering.{numbered_less}
use Rattle.peer_queue.proofs.outbox.Outbox.settle.Goals as goal

pub invariant_of-self : goal.invariant_of-self
invariant_of-self c =
    let old = c.args.self.now in
    let more = c.args.more in
    let beyond = c.saturating_sub-beyond.result in
    let less : beyond ≡ old.lying + more - most_lying = c.saturating_sub-beyond.ensures in
    let items = c.forget.ensures in
    let long = ap (λ (l : List Note). length l) items in
    record {
      within = omega (arith, long, length-drop beyond old.notes.items, old.within, c.requires.sent, less);
      few = omega (arith, long, length-drop beyond old.notes.items, old.few, less);
      least = omega (arith, less);
      counted = omega (arith, old.counted, less);
      numbered =
          subst (λ (l : List Note). All (IsNumbered (old.settled + more - (old.lying + more - beyond)) l)
          (ordinals_in old.outline))
          (sym items)
          (numbered_less (old.settled - old.lying) (old.settled + more -
          (old.lying + more - beyond)) beyond old.notes.items
          (ordinals_in old.outline) (omega (arith, old.counted, less)) old.numbered);
      owed =
          subst (All (OwesPast (shape_marks (shape_in old.outline)))) (sym items)
          (All-drop (OwesPast (shape_marks (shape_in old.outline))) beyond old.notes.items old.owed);
    }
