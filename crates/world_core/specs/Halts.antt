-- Stops and restarts (docs/FORMATS.md): what a stop makes of a world, how a stop is armed, and how all is opened again.
use Rattle.std.specs.Prelude.{◌≡◌, ◌⊎◌, ℕ, zero, suc, true, false, Option, None, Some, List, [], ◌∷◌, ◌++◌, length, map}
use Rattle.disk_model.specs.declared.choice.Choice.{Choice}
use Rattle.recovery.specs.Leaving.{left_by}
use Rattle.sections.specs.Tapes.{TapePast}
use Rattle.world_core.specs.Past.{Armed, Life, Past, PeerPast, rank_of, with_past}
use Rattle.world_core.specs.Events.{Event, Opens, OpensIntake, each_rank}
use Rattle.world_core.specs.Output.{View, Stopped}
use Rattle.world_core.specs.declared.fault.Fault.{Fault}
use Rattle.world_core.specs.declared.fault.Fault.TheVariants.{NoMemory, NoPeer, Stopped as HasStopped}

-- ---- what a stop makes of a world

-- A stop at rest leaves what has happened to each disk as it is. Any other puts what its choice leaves of each disk on
-- a new one.
pub data Manner : Type 0 where
  AtRest : Manner
  ByChoice : (choice : Choice) → Manner

-- a tape that has stopped: its pending notes may or may not be on its disks
abbrev pub left_tape : Manner → TapePast → TapePast
left_tape AtRest tape = record tape { broken = false }
left_tape (ByChoice choice) tape =
    record { history = tape.history; log = left_by choice tape.log; faults = (0, 0); broken = false }

abbrev pub left_peer : Manner → PeerPast → PeerPast
left_peer manner peer = record { conf = peer.conf; tape = left_tape manner peer.tape; places = []; parted = false }

-- all tapes after a stop; no number is kept
abbrev pub left : Manner → Past → Past
left manner past = record {
  peers = map (left_peer manner) past.peers;
  intake = left_tape manner past.intake;
  last = past.last;
  begun = None;
}

-- A world that has stopped, and all of whose tapes are these now: connections are gone and no stop is armed; the
-- numbers of connections and the moment go on.
abbrev pub stopped_at : Past → Life → Life
stopped_at past life = record {
  past = past;
  conns = [];
  connected = life.connected;
  now = life.now;
  armed = None;
  running = false;
}

-- the same, of a world that has stopped while its tapes were these
abbrev pub halted : Manner → Past → Life → Life
halted manner under_way life = stopped_at (left manner under_way) life

-- What a refused step leaves of a world whose tapes were then these: it runs on, or stays stopped.
abbrev pub GoesOn : Life → Past → Life → Type 0
GoesOn life under_way now =
    ((life.running ≡ true) × (now ≡ with_past life under_way))
    ⊎ ((life.running ≡ false) × (now ≡ with_past life (left AtRest under_way)))

-- ---- a stop is armed

-- the tape that a stop names: a peer's, which has this rank, or the intake's
abbrev pub IsTapeOf : Past → Option (List ℕ) → Option ℕ → Type 0
IsTapeOf past None None = Unit {0}
IsTapeOf past None (Some rank) = ⊥
IsTapeOf past (Some name) None = ⊥
IsTapeOf past (Some name) (Some rank) = rank_of past name ≡ Some rank

-- in place of any that was; all else stays
abbrev pub armed_with : Armed → Life → Life
armed_with stop life = record life { armed = Some stop }

-- at call 0 all stops at rest; else a stop is armed
abbrev pub TakesStop : Option (List ℕ) → ℕ → Choice → Life → List View → Life → Type 0
TakesStop peer zero choice life outputs later =
    (life.running ≡ true) × (outputs ≡ Stopped ∷ []) × (later ≡ halted AtRest life.past life)
TakesStop peer (suc calls) choice life outputs later =
    (rank : Option ℕ) × IsTapeOf life.past peer rank × (outputs ≡ [])
    × (later ≡ armed_with (record { rank = rank; call = suc calls; choice = choice }) life)

-- at call 0 all has stopped already, or memory was refused; at any other no peer has the name
abbrev pub RefusesStop : Option (List ℕ) → ℕ → Life → Fault → Life → Type 0
RefusesStop peer zero life fault later =
    (((fault ≡ HasStopped) × (life.running ≡ false)) ⊎ ((fault ≡ NoMemory) × (life.running ≡ true))) × (later ≡ life)
RefusesStop peer (suc calls) life fault later =
    ((name : List ℕ) × (peer ≡ Some name) × (rank_of life.past name ≡ None)) × (fault ≡ NoPeer) × (later ≡ life)

-- ---- all is opened again

-- the opening of each peer's tape by name, and then of the intake's
abbrev pub restart_events : Past → List Event
restart_events past = each_rank Opens (length past.peers) ++ OpensIntake ∷ []
