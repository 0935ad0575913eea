-- When a world, and what it is made of, stands for what it has been through.
use Rattle.std.specs.Prelude.{◌≡◌, ◌⊎◌, ◌+◌, ℕ, Bool, true, false, Option, None, Some, option_map, List, [], map}
use Rattle.std.specs.Prelude.{take, slice_get}
use Rattle.std.specs.List.{AllZip}
use Rattle.disk_model.specs.declared.Disk.{Ghosts}
use Rattle.feed_conf.specs.declared.conf.PeerConf.{PeerConf}
use Rattle.ledger_core.specs.Ledger.{totals_of}
use Rattle.ledger_core.specs.declared.ledger.Totals.{Totals}
use Rattle.ledger_core.specs.State.{Overflows, State, keys, start}
use Rattle.ledger_core.specs.declared.note.Note.TheVariants.{Owe}
use Rattle.recovery.specs.Leaving.{EachLedger, broken_of}
use Rattle.recovery.specs.Notes.{AreLegal, found}
use Rattle.recovery.specs.Tape.{StandsFor}
use Rattle.recovery.specs.Words.{log_of, faults_of}
use Rattle.recovery.specs.declared.fault.TapeFault.TheVariants.{Disk}
use Rattle.recovery.specs.declared.tape.Tape.{Tape}
use Rattle.conn_core.specs.History.{outcomes, taken}
use Rattle.conn_core.specs.Stands.{StandsFor as ConnStands}
use Rattle.conn_core.specs.declared.outcome.Outcome.{Outcome}
use Rattle.peer_queue.specs.DebtPlace.{all_ready, place_at}
use Rattle.peer_queue.specs.Words.{limits_of as station_limits, places_of, tape_of}
use Rattle.peer_queue.specs.declared.limits.Owed.{Owed}
use Rattle.peer_queue.specs.declared.limits.Owed.TheVariants.{New}
use Rattle.sections.specs.Tapes.{TapePast, ledger_at}
use Rattle.world_core.specs.Past.{Armed, ConnPast, Life, Past, PeerPast, limits_of, options_of}
use Rattle.world_core.specs.Past.{with_tape}
use Rattle.world_core.specs.Safe.{IsSafe, KeepsLines, KeepsNotes}
use Rattle.world_core.specs.Tapes.{HasRoom, IsFlushed, IsReopened, IsRotated, RefusesClose, RefusesFlush, RefusesOpen}
use Rattle.world_core.specs.Tapes.{RefusesRotate, noted_at}
use Rattle.world_core.specs.Events.{Closes, Does, Event, Imports, IsShedAt, Owes, Refuses, RefusesCall, RefusesLineAt}
use Rattle.world_core.specs.Events.{closing, imported_as, open_source, opened_peer, owed_as, owing_as, parted}
use Rattle.world_core.specs.Events.{shed_peer}
use Rattle.world_core.specs.Runs.{RefusesStep, Runs}
use Rattle.world_core.specs.Sound.{IsSound, IsSoundLife}
use Rattle.world_core.specs.StopDisk.{all_faults, happened}
use Rattle.world_core.specs.Output.{View, views_by}
use Rattle.world_core.specs.declared.connection.Connection.{Connection}
use Rattle.world_core.specs.declared.fault.Fault.{Fault}
use Rattle.world_core.specs.declared.fault.Fault.TheVariants.{NoMemory, Tape as TapeRefused}
use Rattle.world_core.specs.declared.fault.WorldFault.{WorldFault}
use Rattle.world_core.specs.declared.peer.Peer.{Peer}
use Rattle.world_core.specs.declared.peer.StoppedPeer.{StoppedPeer}
use Rattle.world_core.specs.declared.report.PeerTotals.{PeerTotals}
use Rattle.world_core.specs.declared.stations.Stations.{Stations}
use Rattle.world_core.specs.declared.step.Step.{Step}
use Rattle.world_core.specs.declared.stop.StopDisk.{StopDisk}
use Rattle.world_core.specs.declared.world.Arming.{Arming}
use Rattle.world_core.specs.declared.world.Stage.{Stage}
use Rattle.world_core.specs.declared.world.Stage.TheVariants.{Running, Stopped}
use Rattle.world_core.specs.declared.world.World.{World}

module _ {D : Type 0} {g : Ghosts D} where
  -- ---- what is open

  pub record TapeStands (past : TapePast) (tape : Tape D g) : Type 0 where
    pub stands : StandsFor tape past.history
    pub log : log_of tape ≡ past.log
    pub faults : faults_of tape ≡ past.faults
    pub broken : broken_of tape ≡ past.broken

  pub record PeerStands (past : PeerPast) (peer : Peer D g) : Type 0 where
    pub conf : peer.conf ≡ past.conf
    pub limits : station_limits peer.station ≡ limits_of past.conf
    pub tape : TapeStands past.tape (tape_of peer.station)
    pub places : places_of peer.station ≡ past.places
    pub parted : peer.parted ≡ past.parted

  pub record Stands (stations : Stations D g) (past : Past) : Type 0 where
    pub peers : AllZip PeerStands past.peers stations.peers.items
    pub intake : TapeStands past.intake stations.intake
    pub last : stations.last ≡ past.last
    pub begun : stations.begun ≡ past.begun
    pub sound : IsSound past

  -- ---- what the calls of a peer make of it

  -- a line is owed at the peer under a key, and this came of it
  pub record OwedTo (answer : PeerPast → Owed) (key : PeerPast → ℕ) (token id : List ℕ) (past : PeerPast) (owed : Owed)
      (peer : Peer D g) : Type 0 where
    pub works : past.tape.broken ≡ false
    pub owed_is : owed ≡ answer past
    pub apart : owed ≡ New → place_at past.places (key past) ≡ None
    pub room : owed ≡ New → HasRoom past.tape × (Overflows (ledger_at past.tape) (Owe (key past) token id) → ⊥)
    pub stands : PeerStands (owing_as owed (key past) token id past) peer

  pub record OwedNot (answer : PeerPast → Owed) (key : PeerPast
      → ℕ) (token id : List ℕ) (past : PeerPast) (fault : Fault)
      (peer : Peer D g) : Type 0 where
    pub refused : RefusesLineAt answer key token id past fault past.tape
    pub stands : PeerStands past peer

  -- the source that is open at the peer is closed
  pub record ClosedPeer (past : PeerPast) (source : ℕ) (peer : Peer D g) : Type 0 where
    pub works : past.tape.broken ≡ false
    pub source_is : source ≡ open_source past
    pub room : HasRoom past.tape
    pub fits : Overflows (ledger_at past.tape) (closing past) → ⊥
    pub stands : PeerStands (with_tape past (noted_at past.tape (closing past))) peer

  pub record UnclosedPeer (past : PeerPast) (fault : Fault) (peer : Peer D g) : Type 0 where
    pub refused : RefusesClose past.tape (closing past) fault
    pub stands : PeerStands past peer

  pub record FlushedPeer (past : PeerPast) (peer : Peer D g) : Type 0 where
    pub later : TapePast
    pub flushes : IsFlushed (KeepsNotes past) past.tape later
    pub stands : PeerStands (parted past later) peer

  -- the same during an import; this is not the flush since a number was kept
  pub record SpilledPeer (past : PeerPast) (peer : Peer D g) : Type 0 where
    pub later : TapePast
    pub flushes : IsFlushed (KeepsNotes past) past.tape later
    pub stands : PeerStands (with_tape past later) peer

  pub record UnflushedPeer (past : PeerPast) (fault : Fault) (peer : Peer D g) : Type 0 where
    pub later : TapePast
    pub refused : RefusesFlush (KeepsNotes past) past.tape fault later
    pub stands : PeerStands (with_tape past later) peer

  pub record RotatedPeer (past : PeerPast) (generation : ℕ) (peer : Peer D g) : Type 0 where
    pub later : TapePast
    pub rotates : IsRotated (KeepsNotes past) generation past.tape later
    pub stands : PeerStands (with_tape past later) peer

  pub record UnrotatedPeer (past : PeerPast) (fault : Fault) (peer : Peer D g) : Type 0 where
    pub later : TapePast
    pub refused : RefusesRotate (KeepsNotes past) past.tape fault later
    pub stands : PeerStands (with_tape past later) peer

  pub record ShedPeer (past : PeerPast) (numbers : List ℕ) (peer : Peer D g) : Type 0 where
    pub works : past.tape.broken ≡ false
    pub sheds : IsShedAt past numbers
    pub stands : PeerStands (shed_peer numbers past) peer

  pub record UnshedPeer (past : PeerPast) (fault : Fault) (peer : Peer D g) : Type 0 where
    pub refused : RefusesCall (Unit {0}) past fault past.tape
    pub stands : PeerStands past peer

  pub record OpenedAs (past : PeerPast) (peer : Peer D g) : Type 0 where
    pub later : TapePast
    pub opens : IsReopened (KeepsNotes past) past.tape later
    pub stands : PeerStands (opened_peer past later) peer

  -- ---- what the steps make of all stations

  -- one event was taken
  pub record DidOne (past : Past) (event : Event) (stations : Stations D g) : Type 0 where
    pub later : Past
    pub does : Does event past later
    pub stands : Stands stations later

  -- one event was refused
  pub record FailedOne (past : Past) (event : Event) (fault : Fault) (stations : Stations D g) : Type 0 where
    pub later : Past
    pub refused : Refuses event past fault later
    pub stands : Stands stations later

  -- a line is owed at the peer of this rank, and this came of it
  pub record OwedOne (past : Past) (rank : ℕ) (token id : List ℕ) (owed : Owed) (stations : Stations D g) :
      Type 0 where
    pub peer : PeerPast
    pub here : slice_get past.peers rank ≡ Some peer
    pub owed_is : owed ≡ owed_as (past.last + 1) peer
    pub did : DidOne past (Owes rank token id) stations

  -- a line of a backlog file is owed there, and this came of it
  pub record ImportedOne (past : Past) (rank number : ℕ) (token id : List ℕ) (owed : Owed) (stations : Stations D g) :
      Type 0 where
    pub peer : PeerPast
    pub here : slice_get past.peers rank ≡ Some peer
    pub owed_is : owed ≡ imported_as number peer
    pub did : DidOne past (Imports rank number token id) stations

  -- the open source is closed there: this one
  pub record ClosedOne (past : Past) (rank source : ℕ) (stations : Stations D g) : Type 0 where
    pub peer : PeerPast
    pub here : slice_get past.peers rank ≡ Some peer
    pub source_is : source ≡ open_source peer
    pub did : DidOne past (Closes rank) stations

  -- a peer that was not flushed since a number was kept
  abbrev pub unparted : Peer D g → Peer D g
  unparted peer = record { conf = peer.conf; station = peer.station; parted = false }

-- ---- what has stopped

-- disks of a tape that has stopped: whatever a stop leaves of them is a tape whose ledger has P
pub record DisksStand (P : State → Type 0) (past : TapePast) (disks : StopDisk × StopDisk) : Type 0 where
  pub log : (happened disks.0, happened disks.1) ≡ past.log
  pub faults : (all_faults disks.0, all_faults disks.1) ≡ past.faults
  pub works : past.broken ≡ false
  pub legal : AreLegal past.history.base past.history.notes
  pub images : EachLedger P past.log

pub record StoppedStands (past : PeerPast) (peer : StoppedPeer) : Type 0 where
  pub conf : peer.conf ≡ past.conf
  pub disks : DisksStand (KeepsNotes past) past.tape peer.disks

pub record RefusedOpen (past : PeerPast) (fault : Fault) (peer : StoppedPeer) : Type 0 where
  pub later : TapePast
  pub refused : RefusesOpen (KeepsNotes past) past.tape fault later
  pub stands : StoppedStands (with_tape past later) peer

-- ---- worlds

-- a connection stands for its transcript, and holds back these octets
abbrev pub HoldsTranscript : PeerConf → ConnPast → Connection → Type 0
HoldsTranscript conf past connection = ConnStands (options_of conf) connection.conn past.unread past.transcript

-- each outcome that was taken from it has gone to its peer; or one was refused there, and waits
abbrev pub WaitsWith : PeerConf → ConnPast → Option Outcome → Type 0
WaitsWith conf past None = past.settled ≡ taken past.transcript
WaitsWith conf past (Some outcome) = (past.settled + 1 ≡ taken past.transcript)
    × (slice_get (outcomes (options_of conf) past.transcript) past.settled ≡ Some outcome)

pub record ConnectionStands (peers : List PeerPast) (past : ℕ × ConnPast) (connection : Connection) : Type 0 where
  pub id : connection.conn.id.0 ≡ past.0
  pub rank : connection.rank ≡ past.1.rank
  pub peer : PeerPast
  pub here : slice_get peers past.1.rank ≡ Some peer
  pub holds : HoldsTranscript peer.conf past.1 connection
  pub waits : WaitsWith peer.conf past.1 connection.waiting

abbrev pub StageStands : Life → Stage → Type 0
StageStands life (Running stations connections) =
    (life.running ≡ true) × Stands stations life.past
    × AllZip (ConnectionStands life.past.peers) life.conns connections.items
StageStands life (Stopped peers intake) =
    (life.running ≡ false) × AllZip StoppedStands life.past.peers peers.items
    × DisksStand (KeepsLines life.past.intake.history life.past.peers) life.past.intake intake
    × (life.past.begun ≡ None)

-- the stop that is armed
abbrev pub armed_as : Arming → Armed
armed_as arming = record { rank = arming.rank; call = arming.call; choice = arming.choice }

pub record WorldStands (world : World) (life : Life) : Type 0 where
  pub stage : StageStands life world.stage
  pub armed : option_map armed_as world.armed ≡ life.armed
  pub connected : world.connected ≡ life.connected
  pub now : world.now ≡ life.now
  pub sound : IsSoundLife life

-- ---- a world as it is made, and a run

-- a tape of this ledger as it was opened: nothing was noted since
pub record IsFreshTape (state : State) (P : State → Type 0) (tape : TapePast) : Type 0 where
  pub history : tape.history ≡ found state
  pub faults : tape.faults ≡ (0, 0)
  pub works : tape.broken ≡ false
  pub safe : EachLedger P tape.log

-- the peer of these settings, whose tape was opened with this ledger: every debt owed is ready
pub record IsFreshPeer (conf : PeerConf) (state : State) (peer : PeerPast) : Type 0 where
  pub conf_is : peer.conf ≡ conf
  pub tape : IsFreshTape state (KeepsNotes peer) peer.tape
  pub places : peer.places ≡ all_ready (keys state)
  pub parted : peer.parted ≡ false

-- A world as it begins, with peers of what was given, in this order: its intake's tape was opened with this ledger,
-- whose mark is the last line's number, no number is kept, there is no connection, no stop is armed, the moment is 0,
-- and it runs.
pub record IsFreshOf {A : Type 0} (IsPeer : A → PeerPast → Type 0) (given : List A) (state : State) (life : Life) :
    Type 0 where
  pub peers : AllZip IsPeer given life.past.peers
  pub intake : IsFreshTape state (KeepsLines life.past.intake.history life.past.peers) life.past.intake
  pub rest : life ≡ record {
    past = record { peers = life.past.peers; intake = life.past.intake; last = state.mark; begun = None };
    conns = [];
    connected = 0;
    now = 0;
    armed = None;
    running = true;
  }

-- the same, of these settings: nothing was noted
abbrev pub IsFresh : List PeerConf → Life → Type 0
IsFresh confs life = IsFreshOf (λ (conf : PeerConf). IsFreshPeer conf start) confs start life

-- the world was not made: the fault is at step 0, and memory was refused, to a disk in memory or elsewhere
pub record WasNotMade (fault : WorldFault) : Type 0 where
  pub step : fault.step ≡ 0
  pub lines : fault.lines.items ≡ []
  pub kind : (fault.kind ≡ TapeRefused Disk) ⊎ (fault.kind ≡ NoMemory)

-- the steps were taken, this is what each reported, and the world stands for what they made
pub record Ran (steps : List Step) (life : Life) (lines : List (List View)) (world : World) : Type 0 where
  pub later : Life
  pub runs : Runs life steps lines later
  pub stands : WorldStands world later

-- The steps before one were taken, and this is what each of them reported; that one was refused, and the world stands
-- for what it left.
pub record WasRefused (steps : List Step) (life : Life) (fault : WorldFault) (world : World) : Type 0 where
  pub index : ℕ
  pub numbered : fault.step ≡ index + 1
  pub step : Step
  pub here : slice_get steps index ≡ Some step
  pub mid : Life
  pub runs : Runs life (take index steps) (views_by fault.lines.items) mid
  pub later : Life
  pub refuses : RefusesStep step mid fault.kind later
  pub safe : IsSafe later.past
  pub stands : WorldStands world later

-- there was no memory for what the steps and the counts report, and no step was taken
pub record HadNoRoom (life : Life) (fault : WorldFault) (world : World) : Type 0 where
  pub numbered : fault.step ≡ 1
  pub kind : fault.kind ≡ NoMemory
  pub lines : fault.lines.items ≡ []
  pub stands : WorldStands world life

-- each peer's counts, by name; empty while all is stopped
abbrev pub counts_when : Bool → List PeerPast → List (List ℕ × Totals)
counts_when true peers = map (λ (peer : PeerPast). (peer.conf.name, totals_of (ledger_at peer.tape))) peers
counts_when false peers = []

abbrev pub counts_of : Life → List (List ℕ × Totals)
counts_of life = counts_when life.running life.past.peers

abbrev pub counts_in : List PeerTotals → List (List ℕ × Totals)
counts_in totals = map (λ (peer : PeerTotals). (peer.name, peer.totals)) totals

-- ---- the contract of `World::run`

-- the run returned these lines and counts; or a step was refused, or there was no room
abbrev pub Reports : List Step → World → List (List View) → List (List ℕ × Totals) → World → Type 0
Reports steps old lines counts new = (life : Life) → WorldStands old life
    → (ran : Ran steps life lines new) × (counts ≡ counts_of ran.later)

abbrev pub Ends : List Step → World → WorldFault → World → Type 0
Ends steps old fault new = (life : Life) → WorldStands old life
    → WasRefused steps life fault new ⊎ HadNoRoom life fault new
