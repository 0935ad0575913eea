use Rattle.std.proofs.Common.{◌-◌, ◌<◌, ◌^◌, List, ◌∷◌, [], ◌++◌, length, refl, sym, ap, ◌∙◌, subst, arith}
use Rattle.std.specs.List.{All}
use Rattle.std.proofs.lemmas.List.{length-append, length-drop}
use Rattle.ledger_core.specs.Outline.{ordinals_in, shape_in}
use Rattle.ledger_core.specs.Shape.{Shape, shape_marks}
use Rattle.ledger_core.specs.declared.note.Note.{Note}
use Rattle.peer_queue.specs.Numbers.{IsNumbered, OwesPast}
use Rattle.peer_queue.proofs.Boxes.{last_unsent, last_unsettled}
use Rattle.peer_queue.proofs.Numbering.{numbered_more, past_more}
use Rattle.peer_queue.proofs.outbox.Outbox.push.Goals as goal

pub invariant_of-self : goal.invariant_of-self
invariant_of-self c =
    let old = c.args.self.now in
    let shape = shape_in old.outline in
    let notes = old.notes.items in
    let note = c.args.note in
    let items = c.push_back_reserved.ensures.items in
    let long = ap (λ (l : List Note). length l) items ∙ length-append notes (note ∷ []) in
    let stepped = c.in-Ok.ensures.ok.1 in
    let small : shape.import_mark < 2 ^ 64 = omega (arith, c.import_mark-import_mark.ensures) in
    record {
      within = omega (arith, long, old.within);
      few = omega (arith, long, old.within, c.requires.room, length-drop old.lying notes);
      least = old.least;
      counted = old.counted;
      numbered =
          subst (λ (l : List Note). All (IsNumbered (old.settled - old.lying) l) (ordinals_in c.apply.new.self))
          (sym items)
          (subst (All (IsNumbered (old.settled - old.lying) (notes ++ note ∷ []))) (sym c.in-Ok.ensures.ordinals)
          (numbered_more (old.settled - old.lying) c.next_ordinal-ordinal.result notes shape old.outline.debts.entries
          note
          c.requires.legal old.outline.past old.owed c.next_ordinal-ordinal.ensures old.numbered));
      owed =
          subst (All (OwesPast (shape_marks (shape_in c.apply.new.self)))) (sym items)
          (subst (λ (s : Shape). All (OwesPast (shape_marks s)) (notes ++ note ∷ [])) (sym stepped)
          (past_more shape notes note small c.requires.legal old.owed));
    }

pub invariant_of-self-in-Err : goal.invariant_of-self-in-Err
invariant_of-self-in-Err c =
    let old = c.args.self.now in
    let same = c.in-Err.ensures.unchanged in
    record {
      within = old.within;
      few = old.few;
      least = old.least;
      counted = old.counted;
      numbered = subst (All (IsNumbered (old.settled - old.lying) old.notes.items)) (sym same.1) old.numbered;
      owed = subst (λ (s : Shape). All (OwesPast (shape_marks s)) old.notes.items) (sym same.0) old.owed;
    }

pub returns-in-Ok-clause-ok : goal.returns-in-Ok-clause-ok
returns-in-Ok-clause-ok c =
    let old = c.args.self.now in
    let items = c.push_back_reserved.ensures.items in
    record {
      legal = (c.requires.legal, tt);
      shape = c.in-Ok.ensures.ok.1;
      notes = items;
      lying = refl;
      unsettled = last_unsettled old.notes.items c.push_back_reserved.new.self.items
          (c.args.note ∷ []) old.lying old.sent
          items old.within;
      unsent = last_unsent old.notes.items c.push_back_reserved.new.self.items (c.args.note ∷ []) old.lying old.sent
          items old.within;
      sent = refl;
      settled = refl;
      place = refl;
      works = refl;
    }

pub returns-in-Err-clause-unchanged : goal.returns-in-Err-clause-unchanged
returns-in-Err-clause-unchanged c = record {
  shape = c.in-Err.ensures.unchanged.0;
  notes = refl;
  lying = refl;
  unsettled = refl;
  unsent = refl;
  sent = refl;
  settled = refl;
  place = refl;
  works = refl;
}
