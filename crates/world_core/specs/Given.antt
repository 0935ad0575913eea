-- Worlds that begin from given tapes (profile).
use Rattle.std.specs.Prelude.{◌≡◌, ℕ, false, None, Some, List, [], Vec, map, slice_get, take}
use Rattle.std.specs.List.{All, AllByRecursion}
use Rattle.std.specs.List.Sorted.{IsPermutation}
use Rattle.std.specs.declared.alloc.Global.{Global}
use Rattle.disk_model.specs.declared.Disk.{Ghosts}
use Rattle.feed_conf.specs.declared.conf.PeerConf.{PeerConf}
use Rattle.ledger_core.specs.State.{State, keys}
use Rattle.peer_queue.specs.DebtPlace.{all_ready}
use Rattle.recovery.specs.Image.{IsNoTapeAt, IsSomeTape, IsTape, Log, Octets}
use Rattle.recovery.specs.Notes.{found}
use Rattle.recovery.specs.Words.{log_of}
use Rattle.recovery.specs.declared.fault.TapeFault.{TapeFault}
use Rattle.recovery.specs.declared.fault.TapeFault.TheVariants.{Damaged, Disk, Broken, TapeFull, GenerationFull}
use Rattle.recovery.specs.declared.fault.TapeFault.TheVariants.{PendingFull, NoMemory as NoTapeMemory, Note}
use Rattle.recovery.specs.declared.tape.Tape.{Tape as OpenTape}
use Rattle.sections.specs.Tapes.{TapePast}
use Rattle.world_core.specs.Past.{Life, PeerPast}
use Rattle.world_core.specs.Sound.{NamesRise}
use Rattle.world_core.specs.Stands.{IsFreshOf, IsFreshPeer, PeerStands, TapeStands, WorldStands}
use Rattle.world_core.specs.declared.fault.TapesFault.{TapesFault}
use Rattle.world_core.specs.declared.fault.TapesFault.TheVariants.{NoMemory, Tape}
use Rattle.world_core.specs.declared.peer.Peer.{Peer}
use Rattle.world_core.specs.declared.world.World.{World}
use Rattle.peer_queue.specs.Words.{tape_of}

-- the settings of a peer, and what lies on the two disks of its tape
abbrev pub GivenTape : Type 0
GivenTape = PeerConf × Octets

-- the names of such peers, in order
abbrev pub tape_names : List GivenTape → List (List ℕ)
tape_names given = map (λ (peer : GivenTape). peer.0.name) given

-- the settings of a peer, and the octets of both disks of its tape, as `World::with_disks` is given them
abbrev pub GivenDisks : Type 0
GivenDisks = PeerConf × Vec ℕ Global × Vec ℕ Global

abbrev pub both_disks : GivenDisks → GivenTape
both_disks given = (given.0, (given.1.items, given.2.items))

abbrev pub disks_names : List GivenDisks → List (List ℕ)
disks_names given = map (λ (peer : GivenDisks). peer.0.name) given

-- the octets of both disks of a tape
abbrev pub octets_of : Vec ℕ Global × Vec ℕ Global → Octets
octets_of disks = (disks.0.items, disks.1.items)

-- the settings of a peer, and the octets of the first disk of its tape, as `World::with_tapes` is given them: the
-- second is empty
abbrev pub GivenPeer : Type 0
GivenPeer = PeerConf × Vec ℕ Global

abbrev pub first_alone : GivenPeer → GivenTape
first_alone given = (given.0, (given.1.items, []))

abbrev pub given_names : List GivenPeer → List (List ℕ)
given_names given = map (λ (peer : GivenPeer). peer.0.name) given

-- ---- a world begins

-- the peer of this tape, whose history begins from the ledger that was read there
pub record IsGivenPeer (given : GivenTape) (peer : PeerPast) : Type 0 where
  pub state : State
  pub was : IsTape given.1 state
  pub fresh : IsFreshPeer given.0 state peer

-- a world of these peers, in this order, and with this tape of the intake, that begins from their tapes
pub record IsGiven (given : List GivenTape) (intake : Octets) (life : Life) : Type 0 where
  pub state : State
  pub was : IsTape intake state
  pub fresh : IsFreshOf IsGivenPeer given state life

-- a world of these peers, in byte order of their names, and with this tape of the intake was made
pub record BeginsFromTapes (given : List GivenTape) (intake : Octets) (world : World) : Type 0 where
  pub ordered : List GivenTape
  pub permuted : IsPermutation given ordered
  pub rises : NamesRise (tape_names ordered)
  pub life : Life
  pub fresh : IsGiven ordered intake life
  pub stands : WorldStands world life

abbrev pub BeginsFromDisks : List GivenDisks → Vec ℕ Global × Vec ℕ Global → World → Type 0
BeginsFromDisks given intake world = BeginsFromTapes (map both_disks given) (octets_of intake) world

-- the same of first disks alone; the intake's are empty, too
abbrev pub BeginsFrom : List GivenPeer → World → Type 0
BeginsFrom given world = BeginsFromTapes (map first_alone given) ([], []) world

-- ---- a tape is refused

-- these octets are refused for this fault: they are no tape, or memory was refused to a disk in memory
abbrev pub RefusesTape : Octets → TapeFault → Type 0
RefusesTape octets (Damaged segment at) = IsNoTapeAt octets segment at
RefusesTape octets Disk = Unit {0}
RefusesTape octets Broken = ⊥
RefusesTape octets TapeFull = ⊥
RefusesTape octets GenerationFull = ⊥
RefusesTape octets PendingFull = ⊥
RefusesTape octets NoTapeMemory = ⊥
RefusesTape octets (Note fault) = ⊥

-- the peer of this name is the first that is refused: the octets of all before it are tapes
pub record StopsAt (given : List GivenTape) (name : List ℕ) (fault : TapeFault) : Type 0 where
  pub rank : ℕ
  pub peer : GivenTape
  pub here : slice_get given rank ≡ Some peer
  pub named : peer.0.name ≡ name
  pub before : AllByRecursion (λ (other : GivenTape). IsSomeTape other.1) (take rank given)
  pub why : RefusesTape peer.1 fault

-- the same, in byte order of the names
pub record RefusesFirst (given : List GivenTape) (name : List ℕ) (fault : TapeFault) : Type 0 where
  pub ordered : List GivenTape
  pub permuted : IsPermutation given ordered
  pub rises : NamesRise (tape_names ordered)
  pub stops : StopsAt ordered name fault

-- the intake's tape is refused: the octets of all peers are tapes
pub record RefusesIntake (given : List GivenTape) (intake : Octets) (fault : TapeFault) : Type 0 where
  pub before : All (λ (other : GivenTape). IsSomeTape other.1) given
  pub why : RefusesTape intake fault

-- no world was made of them: the tape of a peer was refused, or the intake's was, or memory was
abbrev pub RefusesDisks : List GivenDisks → Vec ℕ Global × Vec ℕ Global → TapesFault → Type 0
RefusesDisks given intake (Tape (Some name) fault) = RefusesFirst (map both_disks given) name fault
RefusesDisks given intake (Tape None fault) = RefusesIntake (map both_disks given) (octets_of intake) fault
RefusesDisks given intake NoMemory = Unit {0}

-- the same of first disks alone: what may refuse the intake's empty disks is want of memory
abbrev pub RefusesTapes : List GivenPeer → TapesFault → Type 0
RefusesTapes given (Tape (Some name) fault) = RefusesFirst (map first_alone given) name fault
RefusesTapes given (Tape None fault) = ⊥
RefusesTapes given NoMemory = Unit {0}

-- ---- the openings under way

-- the openings of these, in this order, came to this fault
abbrev pub StopsFor : List GivenTape → TapesFault → Type 0
StopsFor given (Tape (Some name) fault) = StopsAt given name fault
StopsFor given (Tape None fault) = ⊥
StopsFor given NoMemory = Unit {0}

-- the opening of one came to this fault
abbrev pub RefusesPeer : GivenTape → TapesFault → Type 0
RefusesPeer given (Tape (Some name) fault) = (given.0.name ≡ name) × RefusesTape given.1 fault
RefusesPeer given (Tape None fault) = ⊥
RefusesPeer given NoMemory = Unit {0}

-- the opening of the intake's tape came to this fault
abbrev pub RefusesGivenIntake : Octets → TapesFault → Type 0
RefusesGivenIntake intake (Tape (Some name) fault) = ⊥
RefusesGivenIntake intake (Tape None fault) = RefusesTape intake fault
RefusesGivenIntake intake NoMemory = Unit {0}

-- a tape of this ledger, on disks to which this has happened, as it was opened
abbrev pub found_tape : State → Log → TapePast
found_tape state log = record { history = found state; log = log; faults = (0, 0); broken = false }

-- the peer of these settings on that tape
abbrev pub found_peer : PeerConf → State → Log → PeerPast
found_peer conf state log =
    record { conf = conf; tape = found_tape state log; places = all_ready (keys state); parted = false }

module _ {D : Type 0} {g : Ghosts D} where
  -- the tape has this ledger, as it was opened
  abbrev pub IsFound : State → OpenTape D g → Type 0
  IsFound state tape = TapeStands (found_tape state (log_of tape)) tape

  -- the peer was opened on what was given
  pub record OpensGiven (given : GivenTape) (peer : Peer D g) : Type 0 where
    pub state : State
    pub was : IsTape given.1 state
    pub stands : PeerStands (found_peer given.0 state (log_of (tape_of peer.station))) peer

  -- the intake's tape was opened on what was given
  pub record OpensGivenIntake (intake : Octets) (tape : OpenTape D g) : Type 0 where
    pub state : State
    pub was : IsTape intake state
    pub stands : IsFound state tape
