-- What happens to a world: events, each on one tape (profile). Each later state is an equation, so that all else stays.
use Rattle.std.specs.Prelude.{◌≡◌, ◌⊎◌, ◌+◌, ◌-◌, ◌<◌, ℕ, zero, suc, true, false, nat_lt, if◌then◌else◌, Option, None}
use Rattle.std.specs.Prelude.{Some, List, [], ◌∷◌, ◌++◌, length, take, slice_get, Contains}
use Rattle.ledger_core.specs.declared.note.Note.{Note}
use Rattle.ledger_core.specs.declared.note.Note.TheVariants.{Closed, Drop, Final, Owe, Seen}
use Rattle.ledger_core.specs.Keys.{key_of}
use Rattle.ledger_core.specs.State.{Overflows, Owing, keys}
use Rattle.recovery.specs.Leaving.{pending_notes}
use Rattle.recovery.specs.Notes.{most_pending, noted_all}
use Rattle.recovery.specs.Words.{OneHasRisen}
use Rattle.recovery.specs.declared.fault.TapeFault.TheVariants.{Broken, Disk}
use Rattle.conn_core.specs.declared.outcome.Outcome.{Outcome}
use Rattle.peer_queue.specs.DebtPlace.{AreUnheld, Held, IsHeldBy, Later as LaterPlace, Ready, all_gone, all_ready, gone}
use Rattle.peer_queue.specs.DebtPlace.{least_candidate, moved, place_at, with_place}
use Rattle.peer_queue.specs.Settled.{IsEnded, key_in, settled_by}
use Rattle.peer_queue.specs.Shed.{IsShedSet, dropped}
use Rattle.peer_queue.specs.declared.limits.Owed.{Owed}
use Rattle.peer_queue.specs.declared.limits.Owed.TheVariants.{Already, New}
use Rattle.peer_queue.specs.declared.settled.Settled.{Settled}
use Rattle.peer_queue.specs.declared.settled.Settled.TheVariants.{Answered, Dropped, Later, Ready as Back}
use Rattle.sections.specs.Tapes.{TapePast, ledger_at, mark_at, IsReadTape}
use Rattle.world_core.specs.Past.{Past, PeerPast, limits_of, with_intake, with_peer}
use Rattle.world_core.specs.Past.{with_places, with_tape}
use Rattle.world_core.specs.Safe.{IsSafe, KeepsLines, KeepsNotes}
use Rattle.world_core.specs.Tapes.{IsFlushed, HasRoom, IsReopened, RefusesClose, RefusesFlush, RefusesNote}
use Rattle.world_core.specs.Tapes.{RefusesOpen, RefusesOwe, RefusesRotate, IsRotated, noted_at}
use Rattle.world_core.specs.declared.fault.Fault.{Fault}
use Rattle.world_core.specs.declared.fault.Fault.TheVariants.{NoMemory, Tape}

-- One event.
pub data Event : Type 0 where
  Owes : (rank : ℕ) (token id : List ℕ) → Event  -- the next line of the funnel is owed at a peer that it names
  -- a line of a backlog file, of this number, is owed at its peer
  Imports : (rank number : ℕ) (token id : List ℕ) → Event
  Closes : (rank : ℕ) → Event  -- the source that is open at a peer is closed
  Spills : (rank : ℕ) → Event  -- a peer is flushed during an import
  Parts : (rank : ℕ) → Event  -- a peer is flushed
  Rotates : (rank generation : ℕ) → Event  -- a peer's tape is rewritten with what it is owed
  Sheds : (rank : ℕ) (numbers : List ℕ) → Event  -- these numbers of a peer's backlog are dropped
  Claims : (rank id now : ℕ) → Event  -- a connection claims a peer's least candidate
  Returns : (rank id number : ℕ) → Event  -- it gives the debt back
  Settles : (rank id now : ℕ) (outcome : Outcome) → Event  -- an outcome of a connection goes to its peer
  Sees : (number : ℕ) → Event  -- a number is noted on the intake's tape
  Acknowledges : Event  -- the intake's tape is flushed
  Opens : (rank : ℕ) → Event  -- a peer's tape is opened
  OpensIntake : Event  -- the intake's tape is opened

-- ---- what an event makes of a peer

-- what a line of this number is at a peer that it names: new if the number is above the peer's mark
abbrev pub owed_as : ℕ → PeerPast → Owed
owed_as number peer = if nat_lt (mark_at peer.tape) number then New else Already

-- the greatest number noted of the source that is open
abbrev pub import_mark_at : PeerPast → ℕ
import_mark_at peer = (ledger_at peer.tape).import_mark

-- the source that is open at a peer
abbrev pub open_source : PeerPast → ℕ
open_source peer = (ledger_at peer.tape).closed + 1

-- what a line of this number of the open source is there: new if the number is above the source's mark
abbrev pub imported_as : ℕ → PeerPast → Owed
imported_as number peer = if nat_lt (import_mark_at peer) number then New else Already

-- the key of such a line
abbrev pub import_key : ℕ → PeerPast → ℕ
import_key number peer = key_of (open_source peer) number

-- the note that closes the source that is open
abbrev pub closing : PeerPast → Note
closing peer = Closed (open_source peer)

-- if the line is new, there is one more note, and the debt is ready, in its place by its key; otherwise nothing changes
abbrev pub owing_as : Owed → ℕ → List ℕ → List ℕ → PeerPast → PeerPast
owing_as New number token id peer = record peer {
  tape = noted_at peer.tape (Owe number token id);
  places = with_place peer.places number Ready;
}
owing_as Already number token id peer = peer

-- a peer that was flushed
abbrev pub parted : PeerPast → TapePast → PeerPast
parted peer tape = record peer { tape = tape; parted = true }

-- a peer whose tape was opened: all that it owes is ready
abbrev pub opened_peer : PeerPast → TapePast → PeerPast
opened_peer peer tape = record {
  conf = peer.conf;
  tape = tape;
  places =
      all_ready (keys (ledger_at tape));
  parted = false;
}

-- a peer whose tape was read, and one of whose numbers this connection now holds
abbrev pub claimed_peer : (id number : ℕ) → TapePast → PeerPast → PeerPast
claimed_peer id number tape peer =
    record { conf = peer.conf; tape = tape; places = moved peer.places number (Held id); parted = peer.parted }

-- a peer without these debts, each dropped by a note
abbrev pub shed_peer : List ℕ → PeerPast → PeerPast
shed_peer numbers peer = record peer {
  tape = record peer.tape { history = noted_all peer.tape.history (dropped numbers) };
  places = all_gone peer.places numbers;
}

-- what becomes of the peer as a debt of this number is settled: the debt ends by a note, or has another place
abbrev pub settled_as : Settled → ℕ → PeerPast → PeerPast
settled_as (Answered code) number peer =
    record peer { tape = noted_at peer.tape (Final number code); places = gone peer.places number }
settled_as (Dropped cause) number peer =
    record peer { tape = noted_at peer.tape (Drop number cause); places = gone peer.places number }
settled_as (Later moment) number peer = with_places peer (moved peer.places number (LaterPlace moment))
settled_as Back number peer = with_places peer (moved peer.places number Ready)

-- what becomes of the debt of an outcome that goes to its peer at this moment
abbrev pub settling : PeerPast → ℕ → Outcome → Settled
settling peer now outcome = settled_by (limits_of peer.conf) now outcome

-- what an outcome makes of its peer
abbrev pub settled : ℕ → Outcome → PeerPast → PeerPast
settled now outcome peer = settled_as (settling peer now outcome) (key_in outcome) peer

-- the mark of the intake rises to a number, if that is above it
abbrev pub seen : ℕ → TapePast → TapePast
seen number tape = if nat_lt (mark_at tape) number then noted_at tape (Seen number) else tape

-- the debt that may be claimed at this moment
pub record IsCandidate (now : ℕ) (peer : PeerPast) (debt : Owing) : Type 0 where
  pub least : least_candidate now peer.places ≡ Some debt.0
  pub owed : Contains (ledger_at peer.tape).debts debt

-- what of a peer's backlog is dropped: the shed set, or the prefix of it for which there is room; no connection holds
-- any of it
pub record IsShedAt (peer : PeerPast) (numbers : List ℕ) : Type 0 where
  pub set : List ℕ
  pub is_set : IsShedSet (limits_of peer.conf) (ledger_at peer.tape) peer.places set
  pub numbers_are : numbers ≡ take (most_pending - length (pending_notes peer.tape.history)) set
  pub free : AreUnheld peer.places numbers

-- ---- events

-- A line is owed at the peer of this rank under a key, which has no place yet if the line is new.
pub record OwesAs (owed : PeerPast → Owed) (key : PeerPast → ℕ) (rank : ℕ) (token id : List ℕ) (past later : Past) :
    Type 0 where
  pub peer : PeerPast
  pub here : slice_get past.peers rank ≡ Some peer
  pub works : peer.tape.broken ≡ false
  pub apart : owed peer ≡ New → place_at peer.places (key peer) ≡ None
  pub room : owed peer ≡ New → HasRoom peer.tape × (Overflows (ledger_at peer.tape) (Owe (key peer) token id) → ⊥)
  pub changed : later ≡ with_peer past rank (owing_as (owed peer) (key peer) token id peer)

-- the next line of the funnel, under its number
abbrev pub DoesOwe : ℕ → List ℕ → List ℕ → Past → Past → Type 0
DoesOwe rank token id past later =
    OwesAs (owed_as (past.last + 1)) (λ (peer : PeerPast). past.last + 1) rank token id past later

-- the line of this number of the source that is open
abbrev pub DoesImport : ℕ → ℕ → List ℕ → List ℕ → Past → Past → Type 0
DoesImport rank number token id past later =
    OwesAs (imported_as number) (import_key number) rank token id past later

pub record DoesClose (rank : ℕ) (past later : Past) : Type 0 where
  pub peer : PeerPast
  pub here : slice_get past.peers rank ≡ Some peer
  pub works : peer.tape.broken ≡ false
  pub room : HasRoom peer.tape
  pub fits : Overflows (ledger_at peer.tape) (closing peer) → ⊥
  pub changed : later ≡ with_peer past rank (with_tape peer (noted_at peer.tape (closing peer)))

-- during an import; this is not the flush since a number was kept
pub record DoesSpill (rank : ℕ) (past later : Past) : Type 0 where
  pub peer : PeerPast
  pub tape : TapePast
  pub here : slice_get past.peers rank ≡ Some peer
  pub flushes : IsFlushed (KeepsNotes peer) peer.tape tape
  pub changed : later ≡ with_peer past rank (with_tape peer tape)

pub record DoesPart (rank : ℕ) (past later : Past) : Type 0 where
  pub peer : PeerPast
  pub tape : TapePast
  pub here : slice_get past.peers rank ≡ Some peer
  pub flushes : IsFlushed (KeepsNotes peer) peer.tape tape
  pub changed : later ≡ with_peer past rank (parted peer tape)

pub record DoesRotate (rank generation : ℕ) (past later : Past) : Type 0 where
  pub peer : PeerPast
  pub tape : TapePast
  pub here : slice_get past.peers rank ≡ Some peer
  pub rotates : IsRotated (KeepsNotes peer) generation peer.tape tape
  pub changed : later ≡ with_peer past rank (with_tape peer tape)

pub record DoesShed (rank : ℕ) (numbers : List ℕ) (past later : Past) : Type 0 where
  pub peer : PeerPast
  pub here : slice_get past.peers rank ≡ Some peer
  pub works : peer.tape.broken ≡ false
  pub sheds : IsShedAt peer numbers
  pub changed : later ≡ with_peer past rank (shed_peer numbers peer)

-- the texts of the debt are read from the tape
pub record DoesClaim (rank id now : ℕ) (past later : Past) : Type 0 where
  pub peer : PeerPast
  pub debt : Owing
  pub tape : TapePast
  pub here : slice_get past.peers rank ≡ Some peer
  pub works : peer.tape.broken ≡ false
  pub candidate : IsCandidate now peer debt
  pub reads : IsReadTape peer.tape tape
  pub changed : later ≡ with_peer past rank (claimed_peer id debt.0 tape peer)

pub record DoesReturn (rank id number : ℕ) (past later : Past) : Type 0 where
  pub peer : PeerPast
  pub here : slice_get past.peers rank ≡ Some peer
  pub works : peer.tape.broken ≡ false
  pub held : IsHeldBy peer.places id number
  pub changed : later ≡ with_peer past rank (with_places peer (moved peer.places number Ready))

pub record DoesSettle (rank id now : ℕ) (outcome : Outcome) (past later : Past) : Type 0 where
  pub peer : PeerPast
  pub here : slice_get past.peers rank ≡ Some peer
  pub works : peer.tape.broken ≡ false
  pub held : IsHeldBy peer.places id (key_in outcome)
  pub room : IsEnded (settling peer now outcome) → HasRoom peer.tape
  pub changed : later ≡ with_peer past rank (settled now outcome peer)

pub record DoesSee (number : ℕ) (past later : Past) : Type 0 where
  pub room : mark_at past.intake < number → (past.intake.broken ≡ false) × HasRoom past.intake
  pub changed : later ≡ with_intake past (seen number past.intake)

pub record DoesAcknowledge (past later : Past) : Type 0 where
  pub tape : TapePast
  pub flushes : IsFlushed (KeepsLines past.intake.history past.peers) past.intake tape
  pub changed : later ≡ with_intake past tape

pub record DoesOpen (rank : ℕ) (past later : Past) : Type 0 where
  pub peer : PeerPast
  pub tape : TapePast
  pub here : slice_get past.peers rank ≡ Some peer
  pub opens : IsReopened (KeepsNotes peer) peer.tape tape
  pub changed : later ≡ with_peer past rank (opened_peer peer tape)

-- the number of the last line goes on from the tape's mark
pub record DoesOpenIntake (past later : Past) : Type 0 where
  pub tape : TapePast
  pub opens : IsReopened (KeepsLines past.intake.history past.peers) past.intake tape
  pub changed : later ≡ record { peers = past.peers; intake = tape; last = mark_at tape; begun = None }

-- what an event makes of all tapes
abbrev pub Does : Event → Past → Past → Type 0
Does (Owes rank token id) past later = DoesOwe rank token id past later
Does (Imports rank number token id) past later = DoesImport rank number token id past later
Does (Closes rank) past later = DoesClose rank past later
Does (Spills rank) past later = DoesSpill rank past later
Does (Parts rank) past later = DoesPart rank past later
Does (Rotates rank generation) past later = DoesRotate rank generation past later
Does (Sheds rank numbers) past later = DoesShed rank numbers past later
Does (Claims rank id now) past later = DoesClaim rank id now past later
Does (Returns rank id number) past later = DoesReturn rank id number past later
Does (Settles rank id now outcome) past later = DoesSettle rank id now outcome past later
Does (Sees number) past later = DoesSee number past later
Does Acknowledges past later = DoesAcknowledge past later
Does (Opens rank) past later = DoesOpen rank past later
Does OpensIntake past later = DoesOpenIntake past later

-- Events one after another, in this order; after each of them whatever a stop leaves is safe. If all are taken, this
-- shows only what each tape has been through. The order in which a step comes to two tapes shows in how it is refused
-- (`Fails`): any event may be refused, and then those before it stand, and none after it.
pub data AllDo (begun : Past) : List Event → Past → Type 0 where
  Start : AllDo begun [] begun
  Next : (events : List Event) (event : Event) (past later : Past) → AllDo begun events past → Does event past later
      → IsSafe later
      → AllDo begun (events ++ event ∷ []) later

-- ---- refusals

-- the event at the peer of this rank is refused, for this fault and with this tape left of the peer
pub record RefusesAt (R : PeerPast → Fault → TapePast
    → Type 0) (rank : ℕ) (past : Past) (fault : Fault) (later : Past) : Type 0 where
  pub peer : PeerPast
  pub tape : TapePast
  pub here : slice_get past.peers rank ≡ Some peer
  pub refused : R peer fault tape
  pub changed : later ≡ with_peer past rank (with_tape peer tape)

-- the event at the intake's tape is refused, for this fault and with this tape left
pub record RefusesIntake (R : TapePast → Fault → TapePast → Type 0) (past : Past) (fault : Fault) (later : Past) :
    Type 0 where
  pub tape : TapePast
  pub refused : R past.intake fault tape
  pub changed : later ≡ with_intake past tape

-- a line that is new to a peer under this key is refused; a broken tape refuses any line
abbrev pub RefusesLineAt : (PeerPast → Owed) → (PeerPast → ℕ) → List ℕ → List ℕ → PeerPast → Fault → TapePast → Type 0
RefusesLineAt owed key token id peer fault tape =
    (peer.tape.broken ≡ false → owed peer ≡ New) × RefusesOwe peer.tape (Owe (key peer) token id) fault
    × (tape ≡ peer.tape)

-- an outcome: the tape is broken, or the debt would end, and its note is refused
abbrev pub RefusesEnd : Settled → TapePast → Fault → Type 0
RefusesEnd settled tape fault = ((fault ≡ Tape Broken) × (tape.broken ≡ true))
    ⊎ (IsEnded settled × RefusesNote tape fault)

-- a call that changes no tape is refused: the tape is broken, or memory was refused
abbrev pub RefusesCall : Type 0 → PeerPast → Fault → TapePast → Type 0
RefusesCall Wants peer fault tape =
    (((fault ≡ Tape Broken) × (peer.tape.broken ≡ true)) ⊎ ((fault ≡ NoMemory) × (peer.tape.broken ≡ false) × Wants))
    × (tape ≡ peer.tape)

-- a claim is refused: the tape is broken; or there is a candidate, and memory was refused, or a disk failed as its
-- texts were read
abbrev pub RefusesClaim : ℕ → PeerPast → Fault → TapePast → Type 0
RefusesClaim now peer fault tape =
    (((fault ≡ Tape Broken) × (peer.tape.broken ≡ true))
    ⊎ ((peer.tape.broken ≡ false) × ((number : ℕ) × (least_candidate now peer.places ≡ Some number))
    × ((fault ≡ NoMemory) ⊎ ((fault ≡ Tape Disk) × OneHasRisen peer.tape.faults tape.faults))))
    × IsReadTape peer.tape tape

-- An event is refused for this fault. Nothing of it has happened, except that a failing disk breaks its tape.
abbrev pub Refuses : Event → Past → Fault → Past → Type 0
Refuses (Owes rank token id) past fault later =
    RefusesAt (RefusesLineAt (owed_as (past.last + 1)) (λ (peer : PeerPast). past.last + 1) token id) rank past fault
    later
Refuses (Imports rank number token id) past fault later =
    RefusesAt (RefusesLineAt (imported_as number) (import_key number) token id) rank past fault later
Refuses (Closes rank) past fault later =
    RefusesAt (λ (peer : PeerPast) (f : Fault) (tape : TapePast). RefusesClose peer.tape (closing peer) f
    × (tape ≡ peer.tape)) rank past fault later
Refuses (Spills rank) past fault later =
    RefusesAt (λ (peer : PeerPast) (f : Fault) (tape : TapePast). RefusesFlush (KeepsNotes peer) peer.tape f tape)
    rank past fault later
Refuses (Parts rank) past fault later =
    RefusesAt (λ (peer : PeerPast) (f : Fault) (tape : TapePast). RefusesFlush (KeepsNotes peer) peer.tape f tape)
    rank past fault later
Refuses (Rotates rank generation) past fault later =
    RefusesAt (λ (peer : PeerPast) (f : Fault) (tape : TapePast). RefusesRotate (KeepsNotes peer) peer.tape f tape)
    rank past fault later
Refuses (Sheds rank numbers) past fault later = RefusesAt (RefusesCall (Unit {0})) rank past fault later
Refuses (Claims rank id now) past fault later = RefusesAt (RefusesClaim now) rank past fault later
Refuses (Returns rank id number) past fault later = RefusesAt (RefusesCall ⊥) rank past fault later
Refuses (Settles rank id now outcome) past fault later =
    RefusesAt (λ (peer : PeerPast) (f : Fault) (tape : TapePast).
    RefusesEnd (settling peer now outcome) peer.tape f × (tape ≡ peer.tape)) rank past fault later
Refuses (Sees number) past fault later =
    RefusesIntake (λ (old : TapePast) (f : Fault) (new : TapePast). (mark_at old < number) × RefusesNote old f
    × (new ≡ old)) past fault later
Refuses Acknowledges past fault later =
    RefusesIntake (RefusesFlush (KeepsLines past.intake.history past.peers)) past fault later
Refuses (Opens rank) past fault later =
    RefusesAt (λ (peer : PeerPast). RefusesOpen (KeepsNotes peer) peer.tape) rank past fault later
Refuses OpensIntake past fault later =
    RefusesIntake (RefusesOpen (KeepsLines past.intake.history past.peers)) past fault later

-- some of these events were taken, from the first on, and the next was refused
pub record Fails (begun : Past) (events : List Event) (fault : Fault) (later : Past) : Type 0 where
  pub count : ℕ
  pub mid : Past
  pub event : Event
  pub prefix : AllDo begun (take count events) mid
  pub here : slice_get events count ≡ Some event
  pub refused : Refuses event mid fault later
  pub safe : IsSafe later

-- ---- lists of events

-- the event at each rank below this one, in order
abbrev pub each_rank : (ℕ → Event) → ℕ → List Event
each_rank event zero = []
each_rank event (suc n) = each_rank event n ++ event n ∷ []

-- the tape whose disks an event calls: a peer's by its rank, or the intake's
abbrev pub calls_disk : Event → Option (Option ℕ)
calls_disk (Owes rank token id) = None
calls_disk (Imports rank number token id) = None
calls_disk (Closes rank) = None
calls_disk (Spills rank) = Some (Some rank)
calls_disk (Parts rank) = Some (Some rank)
calls_disk (Rotates rank generation) = Some (Some rank)
calls_disk (Sheds rank numbers) = None
calls_disk (Claims rank id now) = None
calls_disk (Returns rank id number) = None
calls_disk (Settles rank id now outcome) = None
calls_disk (Sees number) = None
calls_disk Acknowledges = Some None
calls_disk (Opens rank) = Some (Some rank)
calls_disk OpensIntake = Some None
