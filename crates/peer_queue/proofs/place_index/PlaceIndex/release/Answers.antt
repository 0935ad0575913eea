use Rattle.std.proofs.Common.{sym, ap, ◌∙◌, arith}
use Rattle.peer_queue.specs.DebtPlace.{held_count, released}
use Rattle.peer_queue.proofs.Releases.{released_moved, count_moved, count_within, released_none, count_none}
use Rattle.peer_queue.proofs.place_index.PlaceIndex.release.Goals as goal

pub loop-key-preserved : goal.loop-key-preserved
loop-key-preserved c =
    let p = c.loop-key.self in
    let n = c.in-Some.key in
    let b = c.args.connection.0 in
    let one = count_moved b n p c.first_held_by.ensures.rising c.in-Some.ensures.some in
    record {
      counted = omega (arith, one, ap (held_count b) c.give_up.ensures, c.loop-key.invariant.counted);
      same = ap (released b) c.give_up.ensures ∙ (released_moved b n p c.first_held_by.ensures.rising c.in-Some.ensures.some ∙ c.loop-key.invariant.same);
    }

pub loop-key-smaller : goal.loop-key-smaller
loop-key-smaller c =
    let p = c.loop-key.self in
    let b = c.args.connection.0 in
    let one = count_moved b c.in-Some.key p c.first_held_by.ensures.rising c.in-Some.ensures.some in
    omega (arith, one, ap (held_count b) c.give_up.ensures)

pub overflow_add-count : goal.overflow_add-count
overflow_add-count c =
    let p = c.loop-key.self in
    let b = c.args.connection.0 in
    let one = count_moved b c.in-Some.key p c.first_held_by.ensures.rising c.in-Some.ensures.some in
    omega (arith, one, c.loop-key.invariant.counted, count_within b c.args.self.now, c.requires)

pub returns : goal.returns
returns c =
    let p = c.loop-key.self in
    let b = c.args.connection.0 in
    record {
      count = omega (arith, c.loop-key.invariant.counted, count_none b p c.first_held_by.ensures.rising c.in_default.ensures.none);
      places = sym (released_none b p c.first_held_by.ensures.rising c.in_default.ensures.none) ∙ c.loop-key.invariant.same;
    }
