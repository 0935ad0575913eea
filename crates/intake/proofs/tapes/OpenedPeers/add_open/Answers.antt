use Rattle.std.proofs.Common.{◌≡◌, ◌++◌, ◌∷◌, [], sym, subst}
use Rattle.intake.specs.Tapes.{AreStations}
use Rattle.intake.proofs.Stations.{stations_snoc}
use Rattle.intake.proofs.tapes.OpenedPeers.add_open.Goals as goal

pub returns-clause-stations : goal.returns-clause-stations
returns-clause-stations c =
    let old = c.args.self.now in
    let peers : c.push.new.self.items ≡ old.peers.items ++ c.args.peer ∷ [] = search c.in_ok-push.ensures.items in
    let confs : c.push-2.new.self.items ≡ old.confs.items ++ c.args.conf ∷ [] = search c.in_ok-push-2.ensures.items in
    λ stations.
    subst (λ cs. AreStations cs c.push.new.self.items) (sym confs)
    (subst (λ ps. AreStations (old.confs.items ++ c.args.conf ∷ []) ps) (sym peers)
    (stations_snoc old.confs.items old.peers.items c.args.conf c.args.peer stations c.requires))
