-- One more tape is opened at each turn, or it is the first that is refused.
use Rattle.std.proofs.Common.{◌≡◌, [], Some, List, length, map, vec_len, sym, ap, ◌∙◌, subst, arith}
use Rattle.std.proofs.lemmas.Iterator.Adapters.{YieldsList-from_vec}
use Rattle.std.proofs.lemmas.Iterator.Consumers.{YieldsList-end, YieldsList-so_far, YieldsList-turn}
use Rattle.std.proofs.lemmas.List.{map-id}
use Rattle.std.proofs.lemmas.Option.{slice_get-get_or}
use Rattle.std.specs.List.{AllZip}
use Rattle.world_core.specs.Given.{GivenDisks, OpensGiven, both_disks}
use Rattle.world_core.proofs.WorldMade.{opens_more, stops_for}
use Rattle.world_core.proofs.Results.{if_err_is}
use Rattle.world_core.proofs.make.open_each.Goals as goal

pub loop-peer-init : goal.loop-peer-init
loop-peer-init c = subst (λ peers. AllZip OpensGiven [] peers) (sym c.new-peers.ensures.items) tt

pub loop-peer-preserved : goal.loop-peer-preserved
loop-peer-preserved c =
    let l = c.loop-peer in
    opens_more l.yielded l.peers.items _ c.in-Some.peer _ l.invariant c.in_ok-opened.ensures.ok
    c.in_ok-push.ensures.items

pub returns-in_err-opened-clause-err : goal.returns-in_err-opened-clause-err
returns-in_err-opened-clause-err c =
    let l = c.loop-peer in
    let given = c.args.given.items in
    let gives = c.into_iter-peer-iterator.ensures.into_iter_gives in
    let long : vec_len c.args.given ≡ length given = omega arith in
    let road = YieldsList-from_vec {s = c.into_iter-peer-iterator.result} given gives.0 (gives.1 ∙ long) in
    let so_far = YieldsList-so_far road l.yielded l.peer-iterator l.yielded_by in
    let turn = YieldsList-turn road l.yielded l.peer-iterator l.yielded_by c.next.result c.next.new.self
    c.in-Some.peer c.in-Some.is c.next.ensures.steps in
    let here = slice_get-get_or given (length l.yielded) c.in-Some.peer turn.0 ∙ ap Some (sym turn.1) in
    if_err_is c.from_residual.result _ _ c.from_residual.ensures.1
    (stops_for given l.yielded l.peers.items c.in-Some.peer _ l.invariant (sym (map-id l.yielded) ∙ so_far) here
    c.in_err-opened.ensures.err)

pub returns-clause-ok : goal.returns-clause-ok
returns-clause-ok c =
    let l = c.loop-peer in
    let given = c.args.given.items in
    let gives = c.into_iter-peer-iterator.ensures.into_iter_gives in
    let long : vec_len c.args.given ≡ length given = omega arith in
    let road = YieldsList-from_vec {s = c.into_iter-peer-iterator.result} given gives.0 (gives.1 ∙ long) in
    let all = YieldsList-end road l.yielded l.peer-iterator l.yielded_by c.next.result c.next.new.self c.in-None.is
    c.next.ensures.steps in
    subst (λ (given : List GivenDisks). AllZip OpensGiven (map both_disks given) l.peers.items)
    (sym (map-id l.yielded) ∙ all.0) l.invariant
