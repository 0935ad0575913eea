-- What the calls of an import make of the stations.
use Rattle.std.specs.Prelude.{◌≡◌, ◌≢◌, ◌⊎◌, ◌+◌, ℕ, true, nat_lt, if◌then◌else◌, Some, List, [], ◌∷◌, ◌++◌}
use Rattle.std.specs.Prelude.{length, slice_get}
use Rattle.disk_model.specs.declared.Disk.{Ghosts}
use Rattle.funnel.specs.Line.{HasFault, IsBacklogLine}
use Rattle.funnel.specs.declared.line.LineFault.{LineFault}
use Rattle.funnel.specs.declared.line.LineFault.TheVariants.{NoMemory}
use Rattle.peer_queue.specs.declared.limits.Owed.{Owed}
use Rattle.peer_queue.specs.declared.limits.Owed.TheVariants.{Already, New}
use Rattle.recovery.specs.Leaving.{pending_notes}
use Rattle.recovery.specs.declared.fault.TapeFault.TheVariants.{Broken}
use Rattle.world_core.specs.Past.{Past, PeerPast}
use Rattle.world_core.specs.Events.{Event, import_mark_at, open_source}
use Rattle.world_core.specs.Imports.{Good, count_new, import_events, room_events, with_room}
use Rattle.world_core.specs.Stands.{Stands}
use Rattle.world_core.specs.Stepped.{Did, Failed}
use Rattle.world_core.specs.declared.fault.Fault.{Fault}
use Rattle.world_core.specs.declared.fault.Fault.TheVariants.{Tape}
use Rattle.world_core.specs.declared.imports.BacklogLine.{BacklogLine}
use Rattle.world_core.specs.declared.stations.Stations.{Stations}

-- a good line, by what it carries
abbrev pub good_of : BacklogLine → Good
good_of line = (line.number, (line.token, line.id))

-- the line of this number is good and is added, or is malformed
abbrev pub Gains : (number : ℕ) → (line : List ℕ) → (old new : List Good) → Type 0
Gains number line old new =
    ((token id : List ℕ) × IsBacklogLine line token id × (new ≡ old ++ (number, (token, id)) ∷ []))
    ⊎ ((fault : LineFault) × HasFault line fault × (fault ≢ NoMemory) × (new ≡ old))

-- at the peer of this rank this source is open, with this mark, and this many notes pend
pub record IsAt (past : Past) (rank source pending mark : ℕ) : Type 0 where
  pub peer : PeerPast
  pub here : slice_get past.peers rank ≡ Some peer
  pub source_is : open_source peer ≡ source
  pub pending_is : length (pending_notes peer.tape.history) ≡ pending
  pub mark_is : import_mark_at peer ≡ mark

-- 1 if the line is new
abbrev pub one_new : Owed → ℕ
one_new New = 1
one_new Already = 0

-- a flush of its tape has failed, so that it takes nothing more
abbrev pub IsBrokenAt : Past → ℕ → Type 0
IsBrokenAt past rank = (peer : PeerPast) × (slice_get past.peers rank ≡ Some peer) × (peer.tape.broken ≡ true)

-- the events that make room for a line of this number, and how many notes pend after them
abbrev pub room_for : (rank pending mark number : ℕ) → List Event
room_for rank pending mark number = if nat_lt mark number then room_events rank pending else []

abbrev pub pending_for : (pending mark number : ℕ) → ℕ
pending_for pending mark number = if nat_lt mark number then with_room pending else pending

-- what a line of this number is if the source that is open has this mark
abbrev pub answer_above : (mark number : ℕ) → Owed
answer_above mark number = if nat_lt mark number then New else Already

module _ {D : Type 0} {g : Ghosts D} where
  -- these events were taken, one after another, and the peer of this rank is so now
  pub record DidAt (past : Past) (events : List Event) (rank source pending mark : ℕ) (stations : Stations D g) :
      Type 0 where
    pub did : Did past events stations
    pub at : IsAt did.later rank source pending mark

  -- or none was, since its tape is broken
  pub record BrokeAt (past : Past) (rank : ℕ) (fault : Fault) (stations : Stations D g) : Type 0 where
    pub broken : IsBrokenAt past rank
    pub fault_is : fault ≡ Tape Broken
    pub stands : Stands stations past

  -- there is room, unless its tape is broken
  abbrev pub MadeRoom : Past → List Event → (rank source pending mark : ℕ) → Stations D g → Type 0
  MadeRoom past events rank source pending mark stations =
      (IsBrokenAt past rank × Stands stations past) ⊎ DidAt past events rank source pending mark stations

  abbrev pub MadeNoRoom : Past → List Event → ℕ → Fault → Stations D g → Type 0
  MadeNoRoom past events rank fault stations =
      BrokeAt past rank fault stations ⊎ Failed past events fault stations

  -- all the lines before the rest were owed, and this many of them are new
  pub record HasImported (past : Past) (rank source pending mark : ℕ) (all rest : List Good) (new : ℕ)
      (stations : Stations D g) : Type 0 where
    pub events : List Event
    pub now_pending : ℕ
    pub now_mark : ℕ
    pub done : DidAt past events rank source now_pending now_mark stations
    pub split : import_events rank pending mark all ≡ events ++ import_events rank now_pending now_mark rest
    pub counted : new + count_new now_mark rest ≡ count_new mark all
