-- Stations, one more at a time.
use Rattle.std.specs.Prelude.{◌≡◌, ◌+◌, ℕ, List, [], ◌∷◌, ◌++◌, length}
use Rattle.std.proofs.Common.{sym, ◌∙◌, ap, subst, ◌<◌, take, get_or}
use Rattle.std.proofs.lemmas.List.{take_more}
use Rattle.disk_model.specs.declared.Disk.{Ghosts}
use Rattle.feed_conf.specs.declared.conf.PeerConf.{PeerConf}
use Rattle.flusher.specs.declared.peer.PostPeer.{PostPeer}
use Rattle.intake.specs.Tapes.{AreStations, IsStationOf}

module _ {D : Type 0} {g : Ghosts D} where
  pub stations_snoc : (confs : List PeerConf) (peers : List (PostPeer D g)) (conf : PeerConf) (peer : PostPeer D g)
      → AreStations confs peers → IsStationOf conf peer → AreStations (confs ++ conf ∷ []) (peers ++ peer ∷ [])
  stations_snoc [] [] conf peer all last = (last, tt)
  stations_snoc [] (p ∷ ps) conf peer all last = absurd all
  stations_snoc (c ∷ cs) [] conf peer all last = absurd all
  stations_snoc (c ∷ cs) (p ∷ ps) conf peer all last = (all.0, stations_snoc cs ps conf peer all.1 last)

  pub stations_step : (confs : List PeerConf) (i : ℕ) (conf : PeerConf) (peers : List (PostPeer D g))
      (peer : PostPeer D g) (more : List (PostPeer D g))
      → i < length confs → conf ≡ get_or confs i conf → AreStations (take i confs) peers → IsStationOf conf peer
      → more ≡ peers ++ peer ∷ [] → AreStations (take (i + 1) confs) more
  stations_step confs i conf peers peer more within is all last pushed =
      let e : take (i + 1) confs ≡ take i confs ++ conf ∷ [] = take_more confs i conf within
      ∙ ap (λ one. take i confs ++ one ∷ []) (sym is) in
      subst (λ cs. AreStations cs more) (sym e) (subst (λ ps. AreStations (take i confs ++ conf ∷ []) ps) (sym pushed)
      (stations_snoc (take i confs) peers conf peer all last))
