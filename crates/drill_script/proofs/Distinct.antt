-- The names that a script declares are distinct.
use Rattle.std.proofs.Common.{◌≡◌, ℕ, List, [], ◌∷◌, ◌++◌, map, sym, subst, ◌∙◌}
use Rattle.std.proofs.Common.{append-nil, append_assoc}
use Rattle.std.specs.Prelude.{IsPermutation}
use Rattle.std.specs.List.{IsDistinct}
use Rattle.std.specs.Cmp.Lexicographic.{nat_list_eq_equiv}
use Rattle.std.specs.Str.{bytes_eq}
use Rattle.std.proofs.lemmas.List.Sorted.{IsPermutation-map}
use Rattle.std.proofs.lemmas.Map.Keys.{IsDistinct-IsPermutation}
use Rattle.std.proofs.lemmas.Simd.{map-map}
use Rattle.feed_conf.specs.PeerView.{settings_view}
use Rattle.feed_conf.specs.Settings.{Settings}
use Rattle.feed_conf.specs.declared.conf.PeerConf.{PeerConf}
use Rattle.drill_script.specs.Line.{SentenceView}
use Rattle.drill_script.specs.Script.{IsScript, KeepsOrder, confs_of, names_of, peers_of}
use Rattle.drill_script.specs.declared.read.Script.{Script}
use Rattle.world_core.specs.Given.{GivenDisks, disks_names}
use Rattle.drill_script.proofs.Growing.{HasDistinct, names_of-append, one_more}

order_differ : (earlier later : List SentenceView) → HasDistinct (names_of earlier) → KeepsOrder earlier later →
    HasDistinct (names_of (earlier ++ later))
order_differ earlier [] d order =
    subst (λ (s : List SentenceView). HasDistinct (names_of s)) (sym (append-nil earlier)) d
order_differ earlier (said ∷ later) d order =
    let more : HasDistinct (names_of (earlier ++ said ∷ [])) =
    subst HasDistinct (sym (names_of-append earlier (said ∷ []))) (one_more earlier said d order.0) in
    subst (λ (s : List SentenceView). HasDistinct (names_of s)) (append_assoc earlier (said ∷ []) later)
    (order_differ (earlier ++ said ∷ []) later more order.1)

none_differ : HasDistinct []
unfolding IsDistinct
none_differ = tt

same_back : (x y : List ℕ) → bytes_eq x y ≡ bytes_eq y x
same_back x y = nat_list_eq_equiv.symm x y

-- distinct names are distinct in any order
pub permuted_differ : (names others : List (List ℕ)) → IsPermutation names others → HasDistinct names →
    HasDistinct others
permuted_differ names others permuted d = IsDistinct-IsPermutation bytes_eq same_back names others permuted d

-- the names of a script's peers are distinct
pub names_differ : (text : List ℕ) (script : Script) → IsScript text script →
    HasDistinct (disks_names script.peers.items)
names_differ text script is =
    let holds = is.2 in
    let peers = script.peers.items in
    let start = order_differ [] is.0 none_differ is.1.order in
    let moved =
    IsPermutation-map (λ (p : Settings). p.name) (peers_of is.0) (map settings_view (confs_of peers)) holds.peers in
    let all = permuted_differ (names_of is.0) _ moved start in
    subst HasDistinct (map-map (λ (p : Settings). p.name) settings_view (confs_of peers)
    ∙ map-map (λ (conf : PeerConf). conf.name) (λ (given : GivenDisks). given.0) peers) all
