-- The openings of a restart, one after another.
use Rattle.std.specs.Prelude.{◌≡◌, ◌+◌, ◌≤◌, ℕ, Option, None, Some, List, [], ◌++◌, length, map, vec_capacity, vec_len}
use Rattle.std.specs.List.{AllByRecursion, AllZip}
use Rattle.disk_model.specs.declared.Disk.{Ghosts}
use Rattle.peer_queue.specs.DebtPlace.{IsHeldBy}
use Rattle.world_core.specs.Past.{Past, PeerPast}
use Rattle.world_core.specs.Safe.{IsSafe}
use Rattle.world_core.specs.Events.{AllDo, Event, Fails, Opens, calls_disk, each_rank}
use Rattle.world_core.specs.Halting.{TapesStop}
use Rattle.world_core.specs.Halts.{AtRest, left, left_peer, restart_events}
use Rattle.world_core.specs.Sound.{IsSound}
use Rattle.world_core.specs.Stands.{PeerStands, Stands, StoppedStands}
use Rattle.world_core.specs.declared.fault.Halt.{Halt}
use Rattle.world_core.specs.declared.restart.Opening.{Opening}
use Rattle.world_core.specs.declared.peer.Peer.{Peer}
use Rattle.world_core.specs.declared.peer.StoppedPeer.{StoppedPeer}
use Rattle.world_core.specs.declared.stations.Stations.{Stations}
use Rattle.world_core.specs.declared.stop.StopDisk.{StopDisk}

-- all tapes, with these peers in place of the others
abbrev pub with_peers : Past → List PeerPast → Past
with_peers past peers = record past { peers = peers }

-- no connection holds any of its debts
abbrev pub HasNoneHeld : PeerPast → Type 0
HasNoneHeld peer = (id number : ℕ) → IsHeldBy peer.places id number → ⊥

-- some of these events were taken, and the next was refused, at the tape of the halt and for its fault
pub record FailsAt (begun : Past) (events : List Event) (halt : Halt) (later : Past) : Type 0 where
  pub fails : Fails begun events halt.fault later
  pub at : calls_disk fails.event ≡ Some halt.rank

-- the openings were refused, and all has stopped again
pub record OpensNot (past : Past) (halt : Halt) (stopped : List StoppedPeer) (disks : StopDisk × StopDisk) :
    Type 0 where
  pub under_way : Past
  pub fails : FailsAt past (restart_events past) halt under_way
  pub stop : TapesStop (left AtRest under_way) stopped disks

-- One of the peers was refused: those before it, which were opened, have stopped again, and it is the first of those
-- that are left.
pub record HasHalted (past : Past) (halt : Halt) (stopped rest : List StoppedPeer) : Type 0 where
  pub under_way : Past
  pub prefix : List PeerPast
  pub behind : List PeerPast
  pub all : under_way.peers ≡ prefix ++ behind
  pub fails : FailsAt past (restart_events past) halt under_way
  pub stand : AllZip StoppedStands (map (left_peer AtRest) prefix) stopped
  pub stay : AllZip StoppedStands behind rest
  pub sound : IsSound under_way
  pub intake : under_way.intake ≡ past.intake

module _ {D : Type 0} {g : Ghosts D} where
  -- all tapes were opened
  pub record AllOpen (past : Past) (stations : Stations D g) : Type 0 where
    pub later : Past
    pub opens : AllDo past (restart_events past) later
    pub stands : Stands stations later
    pub free : AllByRecursion HasNoneHeld later.peers

  -- this many peers were opened, and these are left
  pub record HasOpened (past : Past) (opened : List (Peer D g)) (rest : List StoppedPeer) : Type 0 where
    pub prefix : List PeerPast
    pub behind : List PeerPast
    pub opens : AllDo past (each_rank Opens (length prefix)) (with_peers past (prefix ++ behind))
    pub stand : AllZip PeerStands prefix opened
    pub stay : AllZip StoppedStands behind rest
    pub sound : IsSound (with_peers past (prefix ++ behind))
    pub safe : IsSafe (with_peers past (prefix ++ behind))
    pub free : AllByRecursion HasNoneHeld prefix
    pub count : length (prefix ++ behind) ≡ length past.peers

  abbrev pub HasTried : Past → List (Peer D g) → List StoppedPeer → Option Halt → List StoppedPeer → Type 0
  HasTried past opened stopped None rest = (stopped ≡ []) × HasOpened past opened rest
  HasTried past opened stopped (Some halt) rest = HasHalted past halt stopped rest

-- there is room for this many more, wherever they go
abbrev pub HasRoomIn : ℕ → Option Halt → (opened stopped room all : ℕ) → Type 0
HasRoomIn more None opened stopped room all = (opened + more ≤ room) × (opened + more ≤ all) × (stopped ≡ 0)
HasRoomIn more (Some halt) opened stopped room all = stopped + more ≤ all

abbrev pub HasRoomFor : ℕ → Opening → Type 0
HasRoomFor more opening = HasRoomIn more opening.refused (vec_len opening.opened) (vec_len opening.stopped)
    (vec_capacity opening.opened) (vec_capacity opening.stopped)

abbrev pub Tries : Past → Opening → List StoppedPeer → Type 0
Tries past opening rest = HasTried past opening.opened.items opening.stopped.items opening.refused rest
