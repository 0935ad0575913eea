use Rattle.std.proofs.Common.{inl, inr, refl, sym}
use Rattle.std.proofs.KnownBytes.{Keeps-refl}
use Rattle.cli.proofs.runner.serve_by.Goals as goal

pub returns-in-Ok-Some : goal.returns-in-Ok-Some
returns-in-Ok-Some g c = λ line is.
    let found = rw c.in-Ok-Some.field-0-is at c.in-Ok-Some.ensures in
    inl (inr (c.in-Ok-Some.name.now, sym found, refl, is, Keeps-refl (g.W.Write.contents c.args.out.now), refl))

pub returns-in-Ok-None : goal.returns-in-Ok-None
returns-in-Ok-None g c = λ line is.
    let none = rw c.in-Ok-None.field-0-is at c.in-Ok-None.ensures in
    inl (inl (sym none, (c.run_errand.result, c.run_errand.ensures, refl, is)))
