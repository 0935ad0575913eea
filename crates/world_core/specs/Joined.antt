-- Stations and connections that stand for a running world, and what the steps on connections make of them.
use Rattle.std.specs.Prelude.{◌≡◌, ℕ, true, Option, None, Some, List, slice_get}
use Rattle.std.specs.List.{AllZip}
use Rattle.disk_model.specs.declared.Disk.{Ghosts}
use Rattle.world_core.specs.Past.{ConnPast, Life, PeerPast, conn_at}
use Rattle.world_core.specs.Pairs.{Reports}
use Rattle.world_core.specs.Sound.{AreTied}
use Rattle.world_core.specs.Stands.{ConnectionStands, Stands}
use Rattle.world_core.specs.Output.{View}
use Rattle.world_core.specs.declared.connection.Connection.{Connection}
use Rattle.world_core.specs.declared.fault.Fault.{Fault}
use Rattle.world_core.specs.declared.stations.Stations.{Stations}
use Rattle.world_core.specs.declared.output.Output.{Output}

-- the connection of this number is at this index, with its peer; or there is none
abbrev pub FoundConn : Life → ℕ → Option (ℕ × ℕ) → Type 0
FoundConn life id None = conn_at life.conns id ≡ None
FoundConn life id (Some at) =
    (conn : ConnPast) × (peer : PeerPast) × (slice_get life.conns at.0 ≡ Some (id, conn)) × (conn.rank ≡ at.1)
    × (slice_get life.past.peers at.1 ≡ Some peer)

module _ {D : Type 0} {g : Ghosts D} where
  -- they stand for a running world
  pub record AreRunning (life : Life) (stations : Stations D g) (connections : List Connection) : Type 0 where
    pub running : life.running ≡ true
    pub stands : Stands stations life.past
    pub conns : AllZip (ConnectionStands life.past.peers) life.conns connections
    pub tied : AreTied life

  -- a step makes this of the world, whose last connection has this number, and reports this
  pub record MadeOn (T : Life → List View → Life → Type 0) (connected : ℕ) (life : Life) (before outputs : List Output)
      (stations : Stations D g) (connections : List Connection) : Type 0 where
    pub later : Life
    pub said : List View
    pub makes : T life said later
    pub outputs_are : Reports before said outputs
    pub stand : AreRunning later stations connections
    pub armed : later.armed ≡ life.armed
    pub connected_is : later.connected ≡ connected
    pub now : later.now ≡ life.now

  -- a step is refused
  pub record RefusedOn (R : Life → Fault → Life → Type 0) (life : Life) (fault : Fault) (stations : Stations D g)
      (connections : List Connection) : Type 0 where
    pub later : Life
    pub refuses : R life fault later
    pub stand : AreRunning later stations connections
    pub armed : later.armed ≡ life.armed
    pub connected_is : later.connected ≡ life.connected
    pub now : later.now ≡ life.now
