-- A refused line is reported, with its explanation, and a refused tape.
use Rattle.std.proofs.Common.{Some, inl, refl, subst}
use Rattle.drill.specs.Drill.{Drills}
use Rattle.drill.specs.declared.ending.Ending.{Ending}
use Rattle.drill.specs.declared.ending.Ending.TheVariants.{NoTape, Refused}
use Rattle.cli.proofs.runner.drill.Goals as goal

pub returns-in_ok-more_on-in-Ok-Refused : goal.returns-in_ok-more_on-in-Ok-Refused
returns-in_ok-more_on-in-Ok-Refused g c = λ line is.
    let old = g.W.Write.contents c.args.out.now in
    let new = g.W.Write.contents c.run_script.new.writer in
    inl (
      Refused c.in-Ok-Refused.refusal,
      subst (λ (e : Ending). Drills (Some c.args.script.now) old new e) c.in-Ok-Refused.field-0-is
          c.in-Ok-Refused.ensures,
      refl,
      (c.in_ok-more_on-in-Ok-Refused.field-0.items, c.in_ok-more_on-in-Ok-Refused.ensures, is),
    )

pub returns-in-Ok-NoTape : goal.returns-in-Ok-NoTape
returns-in-Ok-NoTape g c = λ line is.
    let old = g.W.Write.contents c.args.out.now in
    let new = g.W.Write.contents c.run_script.new.writer in
    inl (
      NoTape c.in-Ok-NoTape.refusal,
      subst (λ (e : Ending). Drills (Some c.args.script.now) old new e) c.in-Ok-NoTape.field-0-is
          c.in-Ok-NoTape.ensures,
      refl,
      is,
    )
