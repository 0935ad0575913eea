-- One more has its disks at each turn.
use Rattle.std.proofs.Common.{◌≡◌, ◌+◌, length, refl, ap, ◌∙◌, arith}
use Rattle.world_core.specs.Halting.{with_disks}
use Rattle.world_core.proofs.TapesStopped.{disks_end, next_disks, no_disks}
use Rattle.world_core.proofs.halt.with_disks.Goals as goal

pub loop-peer-init : goal.loop-peer-init
loop-peer-init c =
    let gives = c.into_iter-peer-iterator.ensures.into_iter_gives in
    let left : length c.into_iter-peer-iterator.result.rest.items ≡ length c.args.peers.items = ap length gives.0 in
    let none : length c.args.room.items ≡ 0 = ap length c.requires.empty in
    record {
      all = rw (c.requires.empty, gives.0, c.into_iter-disks.ensures.rest) refl;
      room = omega (arith, left, none, c.requires.room);
    }

pub push_reserved-requires : goal.push_reserved-requires
push_reserved-requires c =
    let l = c.loop-peer in
    let left : length l.peer-iterator.rest.items ≡ length c.next.new.self.rest.items + 1 =
    ap length c.in-Some.ensures.steps.0 ∙ omega arith in
    omega (arith, left, l.invariant.room)

pub loop-peer-preserved-in-Some-next-2 : goal.loop-peer-preserved-in-Some-next-2
loop-peer-preserved-in-Some-next-2 c =
    let l = c.loop-peer in
    let left : length l.peer-iterator.rest.items ≡ length c.next.new.self.rest.items + 1 =
    ap length c.in-Some.ensures.steps.0 ∙ omega arith in
    record {
      all = next_disks l.peer-iterator.rest.items c.next.new.self.rest.items l.disks.rest.items
          c.next-in-loop-peer.new.self.rest.items
          c.in-Some.peer c.in-Some-next.disks l.room.items c.push_reserved.new.self.items _ l.invariant.all
          c.in-Some.ensures.steps.0
          c.in-Some-next.ensures.items c.push_reserved.ensures.items;
      room = omega (arith, left, l.invariant.room, c.push_reserved.ensures.len, c.push_reserved.ensures.capacity);
    }

pub loop-peer-preserved : goal.loop-peer-preserved
loop-peer-preserved c =
    let l = c.loop-peer in
    let left : length l.peer-iterator.rest.items ≡ length c.next.new.self.rest.items + 1 =
    ap length c.in-Some.ensures.steps.0 ∙ omega arith in
    let pushed = c.push_reserved-in-None-next.ensures in
    let none : length l.disks.rest.items ≡ 0 = omega (arith, c.in-None-next.ensures.cases.0) in
    record {
      all = no_disks l.peer-iterator.rest.items c.next.new.self.rest.items l.disks.rest.items
          c.next-in-loop-peer.new.self.rest.items
          c.in-Some.peer l.room.items c.push_reserved-in-None-next.new.self.items _ l.invariant.all
          c.in-Some.ensures.steps.0
          c.in-None-next.ensures.items none pushed.items;
      room = omega (arith, left, l.invariant.room, pushed.len, pushed.capacity);
    }

pub returns : goal.returns
returns c =
    let l = c.loop-peer in
    let none : length l.peer-iterator.rest.items ≡ 0 = omega (arith, c.in-None.ensures.steps.0) in
    disks_end l.peer-iterator.rest.items l.disks.rest.items l.room.items
    (with_disks c.args.peers.items c.args.disks.items) l.invariant.all none
