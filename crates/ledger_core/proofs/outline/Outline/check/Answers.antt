use Rattle.std.proofs.Common.{sym, subst}
use Rattle.ledger_core.specs.Outline.{JudgesShape, shape_in}
use Rattle.ledger_core.proofs.outline.Outline.check.Goals as goal

pub returns-in-Final : goal.returns-in-Final
returns-in-Final c =
    let judged = subst (λ note. JudgesShape c.check_owed.result (shape_in c.args.self.now) note) (sym c.in-Final.is)
    (c.check_owed.ensures.answered c.in-Final.code) in
    record {
      ok = judged.ok;
      old_number = judged.old_number;
      not_owed = judged.not_owed;
      count_full = judged.count_full;
      no_memory = judged.no_memory;
    }

pub returns-in-Drop : goal.returns-in-Drop
returns-in-Drop c =
    let judged = subst (λ note. JudgesShape c.check_owed-in-Drop.result (shape_in c.args.self.now) note)
    (sym c.in-Drop.is)
    (c.check_owed-in-Drop.ensures.dropped c.in-Drop.cause) in
    record {
      ok = judged.ok;
      old_number = judged.old_number;
      not_owed = judged.not_owed;
      count_full = judged.count_full;
      no_memory = judged.no_memory;
    }
