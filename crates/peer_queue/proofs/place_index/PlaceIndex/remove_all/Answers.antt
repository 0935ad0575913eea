use Rattle.std.proofs.Common.{◌≡◌, ℕ, ◌+◌, ◌∷◌, drop, refl, sym, ap, ◌∙◌, arith}
use Rattle.std.proofs.lemmas.List.{drop_all, drop_more}
use Rattle.peer_queue.proofs.Unheld.{left_none, left_one, left_unheld}
use Rattle.peer_queue.proofs.place_index.PlaceIndex.remove_all.Goals as goal

pub loop-key-init : goal.loop-key-init
loop-key-init c = record { unheld = c.requires; same = refl }

pub remove-requires : goal.remove-requires
remove-requires c =
    let ns = c.args.keys.now in
    let i = c.loop-key.key-index in
    let n = c.key-item.result in
    let split : drop i ns ≡ n ∷ drop (i + 1) ns =
    drop_more ns i n (omega arith) ∙ ap (λ (m : ℕ). m ∷ drop (i + 1) ns) (sym c.key-item.is) in
    (left_unheld c.args.self.now c.loop-key.self ns (drop i ns) (drop (i + 1) ns) n c.loop-key.invariant split).0

pub loop-key-preserved : goal.loop-key-preserved
loop-key-preserved c =
    let ns = c.args.keys.now in
    let i = c.loop-key.key-index in
    let n = c.key-item.result in
    let split : drop i ns ≡ n ∷ drop (i + 1) ns =
    drop_more ns i n (omega arith) ∙ ap (λ (m : ℕ). m ∷ drop (i + 1) ns) (sym c.key-item.is) in
    left_one c.args.self.now c.loop-key.self c.remove.new.self ns (drop i ns) (drop (i + 1) ns) n c.loop-key.invariant split c.remove.ensures

pub returns : goal.returns
returns c =
    let ns = c.args.keys.now in
    let i = c.loop-key.key-index in
    left_none c.args.self.now c.loop-key.self ns (drop i ns) c.loop-key.invariant (drop_all i ns (omega arith))
