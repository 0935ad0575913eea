-- The line is good, or has a fault.
use Rattle.std.proofs.Common.{inl, inr, map, ap, ◌∙◌, refl, rules}
use Rattle.std.proofs.lemmas.List.{map_push}
use Rattle.world_core.specs.Importing.{good_of}
use Rattle.world_core.proofs.LineRead.{reads_bad}
use Rattle.world_core.proofs.imports.add_line.Goals as goal

pub returns-in_ok-push-in-Ok : goal.returns-in_ok-push-in-Ok
returns-in_ok-push-in-Ok c =
    inl (
      c.in-Ok.token,
      c.in-Ok.id,
      c.in-Ok.ensures.good,
      ap (map good_of) c.in_ok-push-in-Ok.ensures.items ∙ map_push good_of c.args.lines.now.items _,
    )

pub returns-in-Err : goal.returns-in-Err
returns-in-Err c =
    inr (
      c.in-Err._fault,
      reads_bad c.args.line.now c.in-Err._fault c.in-Err.ensures.too_long
          c.in-Err.ensures.no_token c.in-Err.ensures.bad_token c.in-Err.ensures.bad_id,
      (search rules),
      refl,
    )
