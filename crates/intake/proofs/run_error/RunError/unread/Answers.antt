use Rattle.std.proofs.Common.{inr, refl, rules}
use Rattle.intake.proofs.run_error.RunError.unread.Goals as goal

pub returns-in-Ok : goal.returns-in-Ok
returns-in-Ok g c =
    inr (search (rules, c.in_default.not-OutOfMemory, c.kind.ensures), (c.in-Ok.path, c.in-Ok.ensures.items, refl))
