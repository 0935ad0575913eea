-- What stands for tapes that have stopped, and what a choice leaves of their disks.
use Rattle.std.specs.Prelude.{◌≡◌, None, List, [], ◌∷◌}
use Rattle.std.specs.List.{AllZip}
use Rattle.disk_model.specs.Choice.{chosen_image}
use Rattle.disk_model.specs.Disk.{Image}
use Rattle.disk_model.specs.declared.Disk.{Ghosts}
use Rattle.disk_model.specs.declared.choice.Choice.{Choice}
use Rattle.recovery.specs.Leaving.{left_by}
use Rattle.world_core.specs.Past.{Past, PeerPast}
use Rattle.world_core.specs.Safe.{KeepsLines}
use Rattle.world_core.specs.Halts.{AtRest, left_peer}
use Rattle.world_core.specs.Sound.{IsSound}
use Rattle.world_core.specs.Stands.{DisksStand, PeerStands, StoppedStands}
use Rattle.world_core.specs.StopDisk.{all_faults, happened}
use Rattle.world_core.specs.declared.peer.Peer.{Peer}
use Rattle.world_core.specs.declared.peer.StoppedPeer.{StoppedPeer}
use Rattle.world_core.specs.declared.stop.StopDisk.{StopDisk}

-- all tapes have stopped, and these are the peers and the disks of the intake's tape
pub record TapesStop (past : Past) (stopped : List StoppedPeer) (disks : StopDisk × StopDisk) : Type 0 where
  pub peers : AllZip StoppedStands past.peers stopped
  pub intake : DisksStand (KeepsLines past.intake.history past.peers) past.intake disks
  pub begun : past.begun ≡ None
  pub sound : IsSound past

module _ {D : Type 0} {g : Ghosts D} where
  -- the peer has stopped at rest
  abbrev pub HaltsAs : Peer D g → StoppedPeer → Type 0
  HaltsAs peer stopped = (past : PeerPast) → PeerStands past peer → StoppedStands (left_peer AtRest past) stopped

-- a choice leaves these of two disks, each an image that a stop may leave
pub record AreLeftBy (choice : Choice) (old new : StopDisk × StopDisk) : Type 0 where
  pub log : (happened new.0, happened new.1) ≡ left_by choice (happened old.0, happened old.1)
  pub faults : (all_faults new.0 ≡ 0) × (all_faults new.1 ≡ 0)
  pub first : Image (happened old.0) (chosen_image choice (happened old.0))
  pub second : Image (happened old.1) (chosen_image choice (happened old.1))

-- a choice leaves these disks of a peer
abbrev pub IsLeftOf : Choice → StoppedPeer → StopDisk × StopDisk → Type 0
IsLeftOf choice peer disks = AreLeftBy choice peer.disks disks

-- each peer has these disks in place of its own, as far as there are any
abbrev pub with_disks : List StoppedPeer → List (StopDisk × StopDisk) → List StoppedPeer
with_disks [] disks = []
with_disks (peer ∷ peers) [] = peer ∷ with_disks peers []
with_disks (peer ∷ peers) (pair ∷ disks) = record { conf = peer.conf; disks = pair } ∷ with_disks peers disks
