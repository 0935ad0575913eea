-- What a flush answers of a tape or a station, and what comes of it.
use Rattle.std.specs.Prelude.{◌≡◌, ◌≢◌, ◌↔◌, Result, IfErr, IsErrOf, OnErr, OnOk}
use Rattle.disk_model.specs.declared.Disk.{Ghosts}
use Rattle.flusher.specs.Room.{HasNoRoom}
use Rattle.flusher.specs.declared.tape_desk.Flush.{Flush}
use Rattle.ledger_core.specs.Ledger.{totals_of}
use Rattle.note_queue.specs.Ends.{IsOnDisks}
use Rattle.note_queue.specs.Words.{tape_of}
use Rattle.note_queue.specs.declared.side.Side.{Side}
use Rattle.peer_queue.specs.Faults.{IsFlushFault as IsStationFlushFault}
use Rattle.peer_queue.specs.Words.{IsBroken as IsBrokenStation, IsRead as IsReadStation, IsSame}
use Rattle.peer_queue.specs.declared.fault.StationFault.{StationFault}
use Rattle.peer_queue.specs.declared.fault.StationFault.TheVariants.{Broken as BrokenStation, Tape as OfTape}
use Rattle.peer_queue.specs.declared.station.Station.{Station}
use Rattle.recovery.specs.Image.{Survives, TapeLeaves}
use Rattle.recovery.specs.Notes.{History, flushed}
use Rattle.recovery.specs.Tape.{IsRead, StandsFor}
use Rattle.recovery.specs.Words.{IsBroken, IsFlushFault, OneHasRisen, faults_of, flushed_of, ledger_of, log_of}
use Rattle.recovery.specs.Words.{pending_of, place_of}
use Rattle.recovery.specs.declared.fault.TapeFault.{TapeFault}
use Rattle.recovery.specs.declared.fault.TapeFault.TheVariants.{Broken, Disk, TapeFull}
use Rattle.recovery.specs.declared.tape.Tape.{Tape}

module _ {D : Type 0} {g : Ghosts D} where
  -- Nothing pends at a side's tape, and this is its place, how many of its notes are on the disks, and what it counts.
  pub record IsFlushOf (side : Side D g) (flush : Flush) : Type 0 where
    pub place : flush.flushed.place ≡ place_of (tape_of side)
    pub count : flush.flushed.count ≡ flushed_of (tape_of side)
    pub totals : flush.totals ≡ totals_of (ledger_of (tape_of side))
    pub none_pends : pending_of (tape_of side) ≡ 0
    -- so many notes are on the disks: those before the split, and each that the side has put on the tape
    pub on_disks : IsOnDisks side flush.flushed.count

  -- What comes of the flush of a tape that stood for this history, be it rewritten or not; a caller has its own name
  -- for a disk's fault.
  pub record AcknowledgesOr {T E : Type 0} (disk_fault : E) (h : History) (old new : Tape D g) (result : Result T E)
      : Type 0 where
    -- all its notes are acknowledged
    pub ok : OnOk result (StandsFor new (flushed h))
    pub stays : OnErr result (StandsFor new h)
    -- a stop at any moment of the call leaves a tape of a prefix of the notes, with every acknowledged one
    pub moments : TapeLeaves (Survives h) (log_of old) (log_of new)
    pub cause : IsErrOf result disk_fault → OneHasRisen (faults_of old) (faults_of new)

  -- the same, in the tape's own words
  abbrev pub Acknowledges : {T : Type 0} → History → Tape D g → Tape D g → Result T TapeFault → Type 0
  Acknowledges h old new result = AcknowledgesOr Disk h old new result

  -- When a flush is refused that rewrites the tape if there is no room, in the order in which it is tried, and what it
  -- leaves. `NoRoom` says when it is refused for want of room.
  pub record RefusesOrRewrites (NoRoom : Type 0) (old new : Tape D g) (result : Result Flush TapeFault) : Type 0 where
    pub broken : IsErrOf result Broken ↔ IsBroken old
    pub full : IsErrOf result TapeFull ↔ ((IsBroken old → ⊥) × NoRoom)
    -- all but Disk change nothing
    pub unchanged : IfErr result (λ e. e ≢ Disk → IsRead old new)
    pub breaks : IsErrOf result Disk → IsBroken new
    pub works : OnOk result (IsBroken new → ⊥)
    -- one that succeeds has met no fault of a disk: it has tried nothing again that failed
    pub quiet : OnOk result (faults_of new ≡ faults_of old)
    pub kinds : IfErr result IsFlushFault

  -- Nothing changed: the flush that was refused left the station as it was, and the rotation did no more than read it.
  pub record IsLeftAlone (old new : Station D g) : Type 0 where
    pub left : Station D g
    pub same : IsSame old left
    pub reads : IsReadStation left new

  -- When the flush of a station is refused that rewrites its tape if there is no room, and what it leaves.
  pub record RefusesOrRotates {T : Type 0} (old new : Station D g) (result : Result T StationFault) : Type 0 where
    pub broken : IsErrOf result BrokenStation ↔ IsBrokenStation old
    pub full : IsErrOf result (OfTape TapeFull) → HasNoRoom old
    -- all but Tape(Disk) change nothing
    pub unchanged : IfErr result (λ e. e ≢ OfTape Disk → IsLeftAlone old new)
    pub breaks : IsErrOf result (OfTape Disk) → IsBrokenStation new
    pub kinds : IfErr result IsStationFlushFault
