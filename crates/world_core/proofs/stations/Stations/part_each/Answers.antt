-- One more rank at each turn.
use Rattle.std.proofs.Common.{◌≡◌, ◌∙◌, ℕ, ◌<◌, length, arith, refl, subst}
use Rattle.world_core.specs.Stands.{PeerStands}
use Rattle.world_core.specs.Stepped.{PartedEach}
use Rattle.world_core.proofs.TapeSteps.{parted_failed, parted_more, parted_none}
use Rattle.world_core.proofs.RelatedLists.{zip_length}
use Rattle.world_core.proofs.stations.Stations.part_each.Goals as goal

pub loop-rank-init : goal.loop-rank-init
loop-rank-init g c = record { did = λ past stands. parted_none past _ stands; last = refl; count = refl }

pub loop-rank-preserved : goal.loop-rank-preserved
loop-rank-preserved g c =
    let loop = c.loop-rank in
    record {
      did = λ past stands.
          let each = loop.invariant.did past stands in
          parted_more past loop.rank loop.self _ each (c.in_default.ensures.ok each.did.later each.did.stands);
      last = c.part_at.ensures.last ∙ loop.invariant.last;
      count = c.part_at.ensures.count ∙ loop.invariant.count;
    }

pub returns-in-Err-clause-err : goal.returns-in-Err-clause-err
returns-in-Err-clause-err g c = λ past stands.
    let loop = c.loop-rank in
    let each = loop.invariant.did past stands in
    let within : loop.rank < length past.peers =
    omega (arith, zip_length PeerStands past.peers c.args.self.now.peers.items stands.peers) in
    parted_failed past loop.rank (length past.peers) c.in-Err.fault loop.self _ within each
    (c.in-Err.ensures.err each.did.later each.did.stands)

pub returns-clause-ok : goal.returns-clause-ok
returns-clause-ok g c = λ past stands.
    let loop = c.loop-rank in
    let all : loop.rank ≡ length past.peers =
    omega (arith, zip_length PeerStands past.peers c.args.self.now.peers.items stands.peers) in
    subst (λ (n : ℕ). PartedEach past n loop.self) all (loop.invariant.did past stands)
