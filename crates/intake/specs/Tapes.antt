-- The stations of the peers, by the settings.
use Rattle.std.specs.Prelude.{◌≡◌, ◌⊎◌, ◌++◌, Bool, true, List, [], ◌∷◌}
use Rattle.disk_model.specs.declared.Disk.{Ghosts}
use Rattle.intake.specs.declared.tapes.LeftOut.{LeftOut}
use Rattle.intake.specs.declared.tapes.OpenedPeers.{OpenedPeers}
use Rattle.feed_conf.specs.declared.conf.PeerConf.{PeerConf}
use Rattle.flusher.specs.declared.peer.PostPeer.{PostPeer}
use Rattle.peer_queue.specs.Calls.{IsFresh}
use Rattle.peer_queue.specs.declared.limits.Limits.{Limits}

-- the limits of a peer's station
abbrev pub limits_by : PeerConf → Limits
limits_by conf = record {
  backlog_limit = conf.backlog_limit;
  backlog_high = conf.backlog_high;
  drop_deferred = conf.drop_deferred;
}

module _ {D : Type 0} {g : Ghosts D} where
  -- The station of the peer with these settings, just opened: all that it owes is ready, and nothing pends.
  pub record IsStationOf (conf : PeerConf) (peer : PostPeer D g) : Type 0 where
    pub name : peer.name ≡ conf.name
    pub fresh : IsFresh (limits_by conf) peer.station

  -- a station for each peer, in order
  abbrev pub AreStations : List PeerConf → List (PostPeer D g) → Type 0
  AreStations [] [] = Unit {0}
  AreStations (conf ∷ confs) (peer ∷ peers) = IsStationOf conf peer × AreStations confs peers
  AreStations [] (peer ∷ peers) = ⊥
  AreStations (conf ∷ confs) [] = ⊥

-- Each of these peers, in order, is among the settings of those that are open, or left out.
abbrev pub AreParted : List PeerConf → List PeerConf → List LeftOut → Type 0
AreParted [] confs left_out = (confs ≡ []) × (left_out ≡ [])
AreParted (peer ∷ peers) confs left_out =
    ((rest : List PeerConf) × (confs ≡ peer ∷ rest) × AreParted peers rest left_out)
    ⊎ ((left : LeftOut) × (rest : List LeftOut) × (left_out ≡ left ∷ rest) × (left.conf ≡ peer)
    × AreParted peers confs rest)

-- One peer more is among the settings of those that are open, or left out, if any is.
abbrev pub AddsPeer : Bool → PeerConf → OpenedPeers → OpenedPeers → Type 0
AddsPeer leaves_out conf old new =
    ((new.confs.items ≡ old.confs.items ++ conf ∷ []) × (new.left_out.items ≡ old.left_out.items))
    ⊎ ((left : LeftOut) × (leaves_out ≡ true) × (left.conf ≡ conf)
    × (new.left_out.items ≡ old.left_out.items ++ left ∷ []) × (new.confs.items ≡ old.confs.items))
