use Rattle.std.specs.Prelude.{◌≡◌, slice_set}
use Rattle.std.proofs.Common.{◌∙◌, ap, sym}
use Rattle.std.proofs.lemmas.List.Edits.{map_over_more}
use Rattle.intake.specs.Nowhere.{counted}
use Rattle.intake.proofs.nowhere.UnknownPeers.count.Goals as goal

pub loop-peer-preserved : goal.loop-peer-preserved
loop-peer-preserved c =
    let more : c.count.new.self ≡ counted c.args.names.now c.peer-item.result =
    c.count.ensures ∙ ap (counted c.args.names.now) (sym c.peer-item.is) in
    ap (λ peer. slice_set c.loop-peer.peer-items c.loop-peer.peer-index peer) more
    ∙ map_over_more
    (counted c.args.names.now) c.deref_mut-peer-items.result.now c.loop-peer.peer-items
    c.loop-peer.peer-index
    c.peer-item.result c.loop-peer-test.true c.loop-peer.invariant c.peer-item.is
