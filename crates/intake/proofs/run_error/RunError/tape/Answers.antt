use Rattle.std.proofs.Common.{inr, refl, rules}
use Rattle.intake.proofs.run_error.RunError.tape.Goals as goal

pub returns-in-Ok : goal.returns-in-Ok
returns-in-Ok c = inr (search (rules, c.if-eq.false, c.eq.ensures), (c.in-Ok.name, c.in-Ok.ensures.items, refl))
