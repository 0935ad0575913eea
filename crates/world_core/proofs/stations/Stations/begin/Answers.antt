-- No peer was flushed since the number was kept.
use Rattle.std.proofs.Common.{◌≡◌, ◌∙◌, length, drop, map, refl, ap, arith}
use Rattle.std.proofs.lemmas.List.{length-map, take-append-le, take_all}
use Rattle.world_core.specs.Stands.{unparted}
use Rattle.world_core.proofs.NumberKept.{stands_begun}
use Rattle.world_core.proofs.stations.Stations.begin.Goals as goal

pub returns : goal.returns
returns g c = λ past stands.
    let old = c.args.self.now.peers.items in
    let new = c.unpart_all.new.peers in
    let is : new ≡ map unparted old = c.unpart_all.ensures ∙ ap (map unparted) c.deref_mut.ensures.value in
    let long = ap length is ∙ length-map old unparted in
    let counted = c.args.self.now.peers.ok.0 in
    stands_begun c.args.self.now _ past stands
    (take-append-le c.args.self.now.peers.len new (drop (length new) old) (omega arith)
    ∙ take_all c.args.self.now.peers.len new (omega arith) ∙ is) refl refl refl
