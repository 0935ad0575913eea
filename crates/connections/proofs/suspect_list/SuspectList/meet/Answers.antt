use Rattle.std.specs.Prelude.{◌≡◌, slice_set}
use Rattle.std.proofs.Common.{◌∙◌, ap, sym}
use Rattle.std.proofs.lemmas.List.Edits.{map_over_more}
use Rattle.connections.specs.Suspects.{met}
use Rattle.connections.proofs.suspect_list.SuspectList.meet.Goals as goal

pub loop-suspect-preserved : goal.loop-suspect-preserved
loop-suspect-preserved c =
    let change = met c.args.key c.args.token.now c.args.id.now in
    let more : c.meet.new.self ≡ change c.suspect-item.result =
    c.meet.ensures ∙ ap change (sym c.suspect-item.is) in
    ap (λ suspect. slice_set c.loop-suspect.suspect-items c.loop-suspect.suspect-index suspect) more
    ∙ map_over_more
    change c.deref_mut-suspect-items.result.now c.loop-suspect.suspect-items c.loop-suspect.suspect-index
    c.suspect-item.result c.loop-suspect-test.true c.loop-suspect.invariant c.suspect-item.is
