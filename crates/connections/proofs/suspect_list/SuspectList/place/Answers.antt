use Rattle.std.proofs.Common.{rules, sym, ◌∙◌}
use Rattle.std.proofs.lemmas.List.{at_drop_all}
use Rattle.connections.specs.Suspects.{first_place_by, place_for}
use Rattle.connections.proofs.Places.{from_here}
use Rattle.connections.proofs.suspect_list.SuspectList.place.Goals as goal

pub returns-then-is_some : goal.returns-then-is_some
returns-then-is_some c =
    let here = from_here (place_for c.args.token.now c.args.id.now) c.deref-suspect-items.result.now in
    search (
      rules,
      here c.loop-suspect.suspect-index c.suspect-item.result c.place_for-place.result c.loop-suspect-test.true
          c.suspect-item.is c.loop-suspect.invariant c.place_for-place.ensures,
    )

pub loop-suspect-preserved : goal.loop-suspect-preserved
loop-suspect-preserved c =
    let here = from_here (place_for c.args.token.now c.args.id.now) c.deref-suspect-items.result.now in
    search (
      rules,
      here c.loop-suspect.suspect-index c.suspect-item.result c.place_for-place.result c.loop-suspect-test.true
          c.suspect-item.is c.loop-suspect.invariant c.place_for-place.ensures,
    )

pub returns : goal.returns
returns c =
    let gives = first_place_by (place_for c.args.token.now c.args.id.now) in
    let none = at_drop_all gives c.deref-suspect-items.result.now c.loop-suspect.suspect-index in
    search (rules, sym (none c.loop-suspect-test.false) ∙ c.loop-suspect.invariant)
