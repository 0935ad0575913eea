-- Each peer knows whether it was flushed.
use Rattle.std.proofs.Common.{◌∙◌, ap, sym}
use Rattle.std.specs.List.{list_all}
use Rattle.world_core.proofs.NumberKept.{each_parted, if_none, if_some, parted_each}
use Rattle.world_core.proofs.stations.Stations.sealable.Goals as goal

pub returns-then-all_parted-clause-some : goal.returns-then-all_parted-clause-some
returns-then-all_parted-clause-some g c =
    let all = ap (list_all (λ peer. peer.parted)) (sym c.deref.ensures.value) ∙ sym c.all_parted.ensures
    ∙ c.if-all_parted.true in
    if_some c.args.self.now.begun _
    (λ number is past stands.
    (sym stands.begun ∙ is, each_parted past.peers c.args.self.now.peers.items stands.peers all))

pub returns-then-all_parted-clause-none : goal.returns-then-all_parted-clause-none
returns-then-all_parted-clause-none g c =
    if_none c.args.self.now.begun _ (λ is past stands number sealable. cc (sym is ∙ stands.begun ∙ sealable.0))

pub returns-else-all_parted-clause-none : goal.returns-else-all_parted-clause-none
returns-else-all_parted-clause-none g c = λ past stands number is.
    let all = parted_each past.peers c.args.self.now.peers.items stands.peers is.1 in
    let not_all = ap (list_all (λ peer. peer.parted)) (sym c.deref.ensures.value) ∙ sym c.all_parted.ensures
    ∙ c.if-all_parted.false in
    cc
