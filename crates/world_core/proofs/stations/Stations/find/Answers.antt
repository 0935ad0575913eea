-- A peer has the name, or none has.
use Rattle.std.proofs.Common.{rules, subst, length}
use Rattle.std.specs.Cmp.Lexicographic.{slice_cmp}
use Rattle.std.specs.Ordering.{nat_cmp}
use Rattle.std.specs.List.Sorted.{IsBinarySearchResult, IsSearchInRange}
use Rattle.std.proofs.lemmas.Fn.{always_returns_same}
use Rattle.world_core.proofs.NamedPeers.{found_as, found_within}
use Rattle.world_core.proofs.stations.Stations.find.Goals as goal

pub returns-clause-found : goal.returns-clause-found
returns-clause-found g c =
    let name = c.args.name.now in
    let position = c.binary_search_by.ensures.position (λ peer. slice_cmp nat_cmp peer.conf.name name)
    (always_returns_same _ _ _ (λ a r q k. search rules)) in
    λ past stands. found_as past name c.args.self.now c.binary_search_by.result c.ok.result c.ok.ensures.value stands
    (subst (λ peers. IsSearchInRange c.binary_search_by.result (length peers)) c.deref.ensures.value
    c.binary_search_by.ensures.bound)
    (subst (λ peers. IsBinarySearchResult (λ peer. slice_cmp nat_cmp peer.conf.name name) peers
    c.binary_search_by.result) c.deref.ensures.value position)

pub returns-clause-within : goal.returns-clause-within
returns-clause-within g c =
    found_within _ c.binary_search_by.result c.ok.result c.ok.ensures.value
    (subst (λ n. IsSearchInRange c.binary_search_by.result n) c.deref.ensures.len c.binary_search_by.ensures.bound)
