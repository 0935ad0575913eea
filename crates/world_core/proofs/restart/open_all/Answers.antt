-- One more opening at each turn, up to the last.
use Rattle.std.proofs.Common.{◌≡◌, length, ap, arith}
use Rattle.world_core.proofs.OpeningsEnd.{tried_none, tries_all}
use Rattle.world_core.proofs.restart.open_all.Goals as goal

pub loop-peer-init : goal.loop-peer-init
loop-peer-init c =
    let gives = c.into_iter-peer-iterator.ensures.into_iter_gives in
    let rooms = c.args.rooms in
    let left : length c.into_iter-peer-iterator.result.rest.items ≡ length c.args.peers.items = ap length gives.0 in
    record {
      tries = λ past stop. tried_none past rooms.opened.items rooms.stopped.items c.args.peers.items _ c.args.intake
          (omega (arith, c.requires.opened.0)) (omega (arith, c.requires.stopped.0)) gives.0 stop;
      count = omega (arith, left, c.requires.opened.0);
      room = (
        omega (arith, left, c.requires.opened),
        omega (arith, left, c.requires.stopped, c.requires.opened),
        c.requires.stopped.0,
      );
    }

pub returns-clause-ok : goal.returns-clause-ok
returns-clause-ok c = λ past stop.
    let l = c.loop-peer in
    let me = l.opening in
    let none : length l.peer-iterator.rest.items ≡ 0 = omega (arith, c.in-None.ensures.steps.0) in
    c.end.ensures.ok past
    (tries_all past me.opened.items me.stopped.items l.peer-iterator.rest.items me.refused none
    (l.invariant.tries past stop)) stop.intake

pub returns-clause-err : goal.returns-clause-err
returns-clause-err c = λ past stop.
    let l = c.loop-peer in
    let me = l.opening in
    let none : length l.peer-iterator.rest.items ≡ 0 = omega (arith, c.in-None.ensures.steps.0) in
    c.end.ensures.err past
    (tries_all past me.opened.items me.stopped.items l.peer-iterator.rest.items me.refused none
    (l.invariant.tries past stop)) stop.intake
