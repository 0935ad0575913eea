use Rattle.std.proofs.Common.{◌≡◌, None, take, sym, ap, ◌∙◌, subst, arith}
use Rattle.peer_queue.specs.DebtPlace.{Places, Ready, all_ready, place_at, with_place}
use Rattle.peer_queue.proofs.Inserted.{absent_last, with_last}
use Rattle.peer_queue.proofs.Ready.{ready_below, ready_more}
use Rattle.peer_queue.proofs.place_index.all_ready_of.Goals as goal

pub add-requires : goal.add-requires
add-requires c =
    let ns = c.args.keys.now in
    let i = c.loop-key.key-index in
    let n = c.key-item.result in
    subst (λ (p : Places). place_at p n ≡ None) (sym c.loop-key.invariant)
    (absent_last (all_ready (take i ns)) n (ready_below ns i n c.requires (omega arith) c.key-item.is))

pub loop-key-preserved : goal.loop-key-preserved
loop-key-preserved c =
    let ns = c.args.keys.now in
    let i = c.loop-key.key-index in
    let n = c.key-item.result in
    c.in_ok-add.ensures.ok ∙ (ap (λ (p : Places). with_place p n Ready) c.loop-key.invariant
    ∙ (with_last (all_ready (take i ns)) n Ready (ready_below ns i n c.requires (omega arith) c.key-item.is)
    ∙ sym (ready_more ns i n (omega arith) c.key-item.is)))
