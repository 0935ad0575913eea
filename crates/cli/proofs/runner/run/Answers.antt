-- An order that ends well reports nothing on standard error.
use Rattle.std.proofs.Common.{ℕ, Option, None, Some, List, refl}
use Rattle.std.specs.Io.KnownBytes.{Keeps}
use Rattle.cli.proofs.runner.run.Goals as goal

kept : (known : Option (List ℕ)) → Keeps known known
kept None = tt
kept (Some octets) = refl

pub returns-in-Ok-clause-does : goal.returns-in-Ok-clause-does
returns-in-Ok-clause-does g c = (None, kept (g.E.Write.contents c.args.err.now), c.in-Ok.ensures.does)
