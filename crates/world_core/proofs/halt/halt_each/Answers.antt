-- One more has stopped at each turn.
use Rattle.std.proofs.Common.{◌≡◌, ◌+◌, length, vec_len, refl, sym, ap, ◌∙◌, arith}
use Rattle.std.proofs.lemmas.Iterator.Adapters.{YieldsList-from_vec}
use Rattle.std.proofs.lemmas.Iterator.Consumers.{YieldsList-end}
use Rattle.std.proofs.lemmas.List.{map-id}
use Rattle.world_core.specs.Halting.{HaltsAs}
use Rattle.world_core.proofs.TapesStopped.{halts_all, halts_more}
use Rattle.world_core.proofs.RelatedLists.{zip_length}
use Rattle.world_core.proofs.halt.halt_each.Goals as goal

pub loop-peer-init : goal.loop-peer-init
loop-peer-init c =
    let gives = c.into_iter-peer-iterator.ensures.into_iter_gives in
    let left : length c.into_iter-peer-iterator.result.rest.items ≡ length c.args.peers.items = ap length gives.0 in
    let none : length c.args.room.items ≡ 0 = ap length c.requires.empty in
    record {
      stopped = rw c.requires.empty tt;
      room = omega (arith, left, none, c.requires.room);
      same = refl;
    }

pub push_reserved-requires : goal.push_reserved-requires
push_reserved-requires c =
    let l = c.loop-peer in
    let left : length l.peer-iterator.rest.items ≡ length c.next.new.self.rest.items + 1 =
    ap length c.in-Some.ensures.steps.0 ∙ omega arith in
    omega (arith, left, l.invariant.room)

pub loop-peer-preserved : goal.loop-peer-preserved
loop-peer-preserved c =
    let l = c.loop-peer in
    let left : length l.peer-iterator.rest.items ≡ length c.next.new.self.rest.items + 1 =
    ap length c.in-Some.ensures.steps.0 ∙ omega arith in
    record {
      stopped = halts_more l.yielded l.room.items c.push_reserved.new.self.items c.in-Some.peer c.halt.result
          c.push_reserved.ensures.items
          l.invariant.stopped c.halt.ensures;
      room = omega (arith, left, l.invariant.room, c.push_reserved.ensures.len, c.push_reserved.ensures.capacity);
      same = c.push_reserved.ensures.capacity ∙ l.invariant.same;
    }

pub returns-clause-stops : goal.returns-clause-stops
returns-clause-stops c =
    let l = c.loop-peer in
    let gives = c.into_iter-peer-iterator.ensures.into_iter_gives in
    let long : vec_len c.args.peers ≡ length c.args.peers.items = omega arith in
    let road = YieldsList-from_vec {s = c.into_iter-peer-iterator.result} c.args.peers.items gives.0 (gives.1 ∙ long) in
    let all = YieldsList-end road l.yielded l.peer-iterator l.yielded_by c.next.result c.next.new.self c.in-None.is
    c.next.ensures.steps in
    halts_all c.args.peers.items l.yielded l.room.items (sym (map-id l.yielded) ∙ all.0) l.invariant.stopped

pub returns-clause-count : goal.returns-clause-count
returns-clause-count c =
    let l = c.loop-peer in
    let gives = c.into_iter-peer-iterator.ensures.into_iter_gives in
    let long : vec_len c.args.peers ≡ length c.args.peers.items = omega arith in
    let road = YieldsList-from_vec {s = c.into_iter-peer-iterator.result} c.args.peers.items gives.0 (gives.1 ∙ long) in
    let all = YieldsList-end road l.yielded l.peer-iterator l.yielded_by c.next.result c.next.new.self c.in-None.is
    c.next.ensures.steps in
    let many = zip_length HaltsAs l.yielded l.room.items l.invariant.stopped in
    let room : vec_len l.room ≡ length l.room.items = omega arith in
    omega (arith, many, all.1, room, long)
