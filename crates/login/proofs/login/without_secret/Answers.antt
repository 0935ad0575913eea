-- The secret is nowhere in the line.
use Rattle.std.proofs.Common.{arith}
use Rattle.login.proofs.login.without_secret.Goals as goal

pub returns-in-None-clause-hidden : goal.returns-in-None-clause-hidden
returns-in-None-clause-hidden c = λ place o.
    absurd (c.in-None.ensures place (omega arith) (omega (arith, o.fits)) o)
