use Rattle.std.proofs.Common.{inr, refl}
use Rattle.intake.proofs.accounts.unread.Goals as goal

pub returns-in-Ok : goal.returns-in-Ok
returns-in-Ok c = inr (c.in-Ok.path, c.in-Ok.ensures.items, refl)
