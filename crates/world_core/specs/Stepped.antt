-- When the stations took a step on tapes, or refused it.
use Rattle.std.specs.Prelude.{◌≡◌, ◌+◌, ◌<◌, ℕ, true, false, if◌then◌else◌, Option, None, Some, List, [], ◌∷◌, length}
use Rattle.std.specs.Prelude.{map, take, slice_get}
use Rattle.std.specs.List.{AllByRecursion}
use Rattle.std.specs.Str.{bytes_eq}
use Rattle.disk_model.specs.declared.Disk.{Ghosts}
use Rattle.ledger_core.specs.State.{keys}
use Rattle.peer_queue.specs.Words.{ledger_of}
use Rattle.world_core.specs.Past.{Past, PeerPast}
use Rattle.recovery.specs.declared.fault.TapeFault.TheVariants.{Disk}
use Rattle.world_core.specs.Events.{AllDo, Event, Fails, Parts, calls_disk, each_rank}
use Rattle.world_core.specs.Steps.{FailsPlan, RefusesPlan, TakesPlan, is_named, line_events, owed_there}
use Rattle.world_core.specs.Stands.{Stands}
use Rattle.world_core.specs.Output.{Mark, View, view_of}
use Rattle.world_core.specs.declared.fault.Fault.{Fault}
use Rattle.world_core.specs.declared.fault.Fault.TheVariants.{Tape}
use Rattle.world_core.specs.declared.fault.Halt.{Halt}
use Rattle.world_core.specs.declared.peer.Peer.{Peer}
use Rattle.world_core.specs.declared.stations.Stations.{Stations}
use Rattle.world_core.specs.declared.step.Step.{Step}
use Rattle.world_core.specs.declared.output.OwedAt.{OwedAt}
use Rattle.world_core.specs.declared.output.Output.{Output}

-- ---- the peers that a line names

-- each peer that is named, with its rank, from this rank on
abbrev pub named_from : ℕ → List (List ℕ) → List PeerPast → List (ℕ × PeerPast)
named_from rank named [] = []
named_from rank named (peer ∷ peers) =
    if is_named named peer then (rank, peer) ∷ named_from (rank + 1) named peers else named_from (rank + 1) named
    peers

-- these are the ranks and the names of the peers that are named, in order
abbrev pub AreFound : Past → List (List ℕ) → List (ℕ × List ℕ) → Type 0
AreFound past named found =
    found ≡ map (λ (entry : ℕ × PeerPast). (entry.0, entry.1.conf.name)) (named_from 0 named past.peers)

-- each of these ranks is that of one of this many peers
abbrev pub AreWithin : ℕ → List (ℕ × List ℕ) → Type 0
AreWithin count found = AllByRecursion (λ (entry : ℕ × List ℕ). entry.0 < count) found

-- the peer of this name has this rank, or no peer has the name
abbrev pub FoundAt : Past → List ℕ → Option ℕ → Type 0
FoundAt past name None = AllByRecursion (λ (peer : PeerPast). bytes_eq name peer.conf.name ≡ false) past.peers
FoundAt past name (Some rank) = (peer : PeerPast) × (slice_get past.peers rank ≡ Some peer) × (peer.conf.name ≡ name)

-- a disk failed in one of the step's events, at the tape of the halt
pub record DiskFails (step : Step) (past : Past) (halt : Halt) (under_way : Past) : Type 0 where
  pub failed : FailsPlan step past halt.fault under_way
  pub at : calls_disk failed.fails.event ≡ Some halt.rank

module _ {D : Type 0} {g : Ghosts D} where
  -- what is reported of a peer whose tape was opened
  abbrev pub opened_view : Peer D g → View
  opened_view peer = Mark peer.conf.name (ledger_of peer.station).mark (keys (ledger_of peer.station))

  -- ---- events

  -- these events were taken, one after another
  pub record Did (past : Past) (events : List Event) (stations : Stations D g) : Type 0 where
    pub later : Past
    pub does : AllDo past events later
    pub stands : Stands stations later

  -- some of these events were taken, from the first on, and the next was refused
  pub record Failed (past : Past) (events : List Event) (fault : Fault) (stations : Stations D g) : Type 0 where
    pub later : Past
    pub fails : Fails past events fault later
    pub stands : Stands stations later

  -- some of these events were taken, from the first on, and the next was refused, at the tape of the halt
  pub record FailedAt (past : Past) (events : List Event) (halt : Halt) (stations : Stations D g) : Type 0 where
    pub failed : Failed past events halt.fault stations
    pub at : calls_disk failed.fails.event ≡ Some halt.rank

  -- this many peers were flushed, from the first on
  pub record PartedEach (past : Past) (count : ℕ) (stations : Stations D g) : Type 0 where
    pub did : Did past (each_rank Parts count) stations
    pub begun : did.later.begun ≡ past.begun
    pub all : length did.later.peers ≡ length past.peers
    pub parted : AllByRecursion (λ (peer : PeerPast). peer.parted ≡ true) (take count did.later.peers)

  -- a line is owed at each peer that it names, and this came of it
  pub record OwedLine (past : Past) (token id : List ℕ) (named : List (List ℕ)) (outputs : List OwedAt)
      (stations : Stations D g) : Type 0 where
    pub did : Did past (line_events token id named past) stations
    pub outputs_are : map (λ (at : OwedAt). (at.name, at.owed)) outputs ≡ owed_there (past.last + 1) named past.peers

  -- ---- steps

  -- the step was taken, and reported this
  pub record TookTapes (step : Step) (past : Past) (outputs : List Output) (stations : Stations D g) : Type 0 where
    pub later : Past
    pub takes : TakesPlan step past (map view_of outputs) later
    pub stands : Stands stations later

  -- the step was refused
  pub record TookNot (step : Step) (past : Past) (fault : Fault) (stations : Stations D g) : Type 0 where
    pub later : Past
    pub refuses : RefusesPlan step past fault later
    pub stands : Stands stations later

  -- the step was refused; if a disk failed, it failed at the tape of the halt
  pub record HaltedAs (step : Step) (past : Past) (halt : Halt) (stations : Stations D g) : Type 0 where
    pub refused : TookNot step past halt.fault stations
    pub disk : halt.fault ≡ Tape Disk → DiskFails step past halt refused.later
