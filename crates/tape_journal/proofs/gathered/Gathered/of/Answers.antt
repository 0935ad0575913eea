use Rattle.std.proofs.Common.{◌≡◌, ◌<◌, List, ℕ, [], ◌∷◌, ◌++◌, length, take, sym, subst, arith}
use Rattle.std.proofs.lemmas.List.{length-map}
use Rattle.std.specs.Prelude.{Vec, map, vec_items}
use Rattle.std.specs.declared.alloc.Global.{Global}
use Rattle.tape_journal.specs.Gathered.{Gathers}
use Rattle.tape_journal.proofs.Lists.{octets_at, take_step}
use Rattle.tape_journal.proofs.gathered.Gathered.of.Goals as goal

pub loop-payload-preserved : goal.loop-payload-preserved
loop-payload-preserved c =
    let qs = map vec_items c.args.payloads.now in
    let i = c.loop-payload.payload-index in
    let p = c.payload-item.result in
    let at = octets_at c.args.payloads.now i p (omega arith) c.payload-item.is in
    let inside : i < length qs = omega (arith, length-map c.args.payloads.now (λ (v : Vec ℕ Global). v.items)) in
    let now : c.deref.result.now ≡ p.items = c.deref.ensures.value in
    subst (Gathers c.push.new.self) (sym (take_step qs i p.items inside at))
    (subst (λ (l : List ℕ). Gathers c.push.new.self (take i qs ++ l ∷ [])) now
    (c.in-Ok.ensures.ok (take i qs) c.loop-payload.invariant))
