use Rattle.std.proofs.Common.{sym, subst}
use Rattle.std.specs.Prelude.{OnOk, ◌≡◌}
use Rattle.ledger_core.proofs.Shaped.{both-stay}
use Rattle.ledger_core.specs.Outline.{StepsShape, ordinals_in, shape_in}
use Rattle.ledger_core.specs.Parts.{ordinals_step}
use Rattle.ledger_core.proofs.outline.Outline.apply.Goals as goal

pub returns-in-Final : goal.returns-in-Final
returns-in-Final c =
    let old = c.args.self.now in
    let new = c.answer.new.self in
    let applied = subst (λ note. StepsShape c.answer.result (shape_in old) (shape_in new) note) (sym c.in-Final.is)
    (c.answer.ensures.applied c.in-Final.code) in
    record {
      ok = applied.ok;
      ordinals = subst (λ note. OnOk c.answer.result
          (ordinals_in new ≡ ordinals_step (ordinals_in old) note c.args.ordinal))
          (sym c.in-Final.is) c.answer.ensures.ordinals;
      old_number = applied.old_number;
      not_owed = applied.not_owed;
      count_full = applied.count_full;
      no_memory = applied.no_memory;
      unchanged = both-stay c.answer.result (shape_in new ≡ shape_in old) (ordinals_in new ≡ ordinals_in old)
          applied.unchanged c.answer.ensures.unchanged;
    }

pub returns-in-Drop : goal.returns-in-Drop
returns-in-Drop c =
    let old = c.args.self.now in
    let new = c.discard.new.self in
    let applied = subst (λ note. StepsShape c.discard.result (shape_in old) (shape_in new) note) (sym c.in-Drop.is)
    (c.discard.ensures.applied c.in-Drop.cause) in
    record {
      ok = applied.ok;
      ordinals = subst (λ note. OnOk c.discard.result
          (ordinals_in new ≡ ordinals_step (ordinals_in old) note c.args.ordinal))
          (sym c.in-Drop.is) c.discard.ensures.ordinals;
      old_number = applied.old_number;
      not_owed = applied.not_owed;
      count_full = applied.count_full;
      no_memory = applied.no_memory;
      unchanged = both-stay c.discard.result (shape_in new ≡ shape_in old) (ordinals_in new ≡ ordinals_in old)
          applied.unchanged c.discard.ensures.unchanged;
    }
