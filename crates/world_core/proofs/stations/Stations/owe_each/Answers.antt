-- One more rank at each turn.
use Rattle.std.proofs.Common.{◌≡◌, ◌∙◌, ℕ, length, vec_len, refl, sym, ap, subst, arith}
use Rattle.world_core.specs.Stepped.{AreFound, AreWithin}
use Rattle.world_core.proofs.LineAtNamedPeers.{OwedSome, length_more, some_all, some_failed, some_more, some_none, split_end}
use Rattle.world_core.proofs.LineAtNamedPeers.{split_here, split_more}
use Rattle.world_core.proofs.Results.{if_err_is}
use Rattle.world_core.proofs.stations.Stations.owe_each.Goals as goal

pub loop-rank-init : goal.loop-rank-init
loop-rank-init g c =
    let gives : c.into_iter-rank-iterator.result ≡ c.args.found.entries =
    c.into_iter-rank-iterator.ensures.into_iter_gives.0 in
    let long : length c.into_iter-rank-iterator.result ≡ length c.args.found.entries = ap length gives in
    let empty : vec_len c.args.outputs ≡ length c.args.outputs.items = omega arith in
    let none : length c.args.outputs.items ≡ 0 = ap length c.requires.none in
    record {
      can = tt;
      finite = tt;
      split = sym gives;
      owed = λ past named stands found.
          some_none past c.args.token.now c.args.id.now named c.args.outputs.items c.args.self.now c.requires.none
          stands;
      within = subst (AreWithin _) (sym gives) c.requires.within;
      room = omega (arith, c.requires.room, long, empty, none);
      last = refl;
      count = refl;
    }

pub loop-rank-preserved : goal.loop-rank-preserved
loop-rank-preserved g c =
    let loop = c.loop-rank in
    let steps = c.in-Some.ensures.steps in
    let long = ap length steps in
    let within = subst (AreWithin (vec_len loop.self.peers)) steps loop.invariant.within in
    record {
      can = tt;
      finite = tt;
      split = split_more c.args.found.entries loop.yielded loop.rank-iterator c.next.new.self (
        c.in-Some.rank,
        c.in-Some.name,
      ) loop.invariant.split steps;
      owed = λ past named stands found.
          let so_far = loop.invariant.owed past named stands found in
          let here = subst (AreFound past named)
          (split_here c.args.found.entries loop.yielded loop.rank-iterator c.next.new.self (
            c.in-Some.rank,
            c.in-Some.name,
          ) loop.invariant.split steps) found in
          subst (λ (n : ℕ). OwedSome past c.args.token.now c.args.id.now named n c.push_reserved.new.self.items
          c.owe_at.new.self)
          (length_more loop.yielded (c.in-Some.rank, c.in-Some.name))
          (some_more past c.args.token.now c.args.id.now named loop.yielded (c.in-Some.rank, c.in-Some.name)
          c.next.new.self here
          loop.outputs.items c.push_reserved.new.self.items c.in-Some.name c.in_ok-owed.owed loop.self c.owe_at.new.self
          so_far
          (c.in_ok-owed.ensures.ok so_far.did.later so_far.did.stands) refl c.push_reserved.ensures.items);
      within = subst (λ (n : ℕ). AreWithin n c.next.new.self) (sym c.owe_at.ensures.count) within.1;
      room = omega (arith, long, loop.invariant.room, c.push_reserved.ensures.len, c.push_reserved.ensures.capacity);
      last = c.owe_at.ensures.last ∙ loop.invariant.last;
      count = c.owe_at.ensures.count ∙ loop.invariant.count;
    }

pub returns-in_err-owed-clause-err : goal.returns-in_err-owed-clause-err
returns-in_err-owed-clause-err g c = λ past named stands found.
    let loop = c.loop-rank in
    let so_far = loop.invariant.owed past named stands found in
    let here = subst (AreFound past named)
    (split_here c.args.found.entries loop.yielded loop.rank-iterator c.next.new.self (
      c.in-Some.rank,
      c.in-Some.name,
    ) loop.invariant.split c.in-Some.ensures.steps) found in
    if_err_is c.from_residual.result _ _ c.from_residual.ensures.1
    (some_failed past c.args.token.now c.args.id.now named loop.yielded (
      c.in-Some.rank,
      c.in-Some.name,
    ) c.next.new.self here
    loop.outputs.items _ loop.self c.owe_at.new.self so_far
    (c.in_err-owed.ensures.err so_far.did.later so_far.did.stands))

pub returns-clause-ok : goal.returns-clause-ok
returns-clause-ok g c = λ past named stands found.
    let loop = c.loop-rank in
    let all = split_end c.args.found.entries loop.yielded loop.rank-iterator loop.invariant.split
    c.in-None.ensures.steps.0 in
    some_all past c.args.token.now c.args.id.now named loop.yielded loop.outputs.items loop.self
    (subst (AreFound past named) all found)
    (loop.invariant.owed past named stands found)
