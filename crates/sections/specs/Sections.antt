-- The sections of a run of the threads: what is done under one lock, or by one atomic step of a queue or of the number
-- that is shown. Each later state is an equation, so that all else stays.
use Rattle.std.specs.Prelude.{◌≡◌, ◌+◌, ◌≤◌, ℕ, true, false, max, Bool, Some, List, [], ◌∷◌, ◌++◌, length}
use Rattle.std.specs.Prelude.{replicate, slice_get}
use Rattle.std.specs.List.{AllByRecursion, AllZip}
use Rattle.disk_model.specs.Disk.{Event, Image}
use Rattle.disk_model.specs.Disk.Event.{Made}
use Rattle.ledger_core.specs.declared.note.Note.{Note}
use Rattle.ledger_core.specs.declared.note.Note.TheVariants.{Seen}
use Rattle.ledger_core.specs.State.{IsLegal, State}
use Rattle.recovery.specs.Image.{Log}
use Rattle.recovery.specs.Leaving.{EachLedger, IsPrefix, LedgersLeave, LiesOn}
use Rattle.recovery.specs.Notes.{flushed, noted, recovered}
use Rattle.sections.specs.Tapes.{Breaks as BreaksTape, IsAbove, IsReadTape, TapePast, ledger_at, mark_at}
use Rattle.sections.specs.Post.{PostPast, Progress, SealingPast, StationPast, notes_of, with_intake, with_progress}
use Rattle.sections.specs.Post.{with_sealing, with_station, with_tape}
use Rattle.sections.specs.Post.Progress.{Counted, Due, Waits}

-- what is done to a tape under its lock
pub data Call : Type 0 where
  Puts : Call  -- a flush or a rotation answers Ok
  Breaks : Call  -- a flush or a rotation fails on a disk
  Reads : Call  -- texts are read, or a rotation is refused once it has read
  Tries : Call  -- an opening is refused

pub data Section : Type 0 where
  Notes : (rank : ℕ) (note : Note) → Section  -- a front's lock: one more note, of a line, an answer, a drop ..
  Shows : Section  -- the number: the intake shows that of the next line
  Sends : (rank : ℕ) → Section  -- a front's lock, its queue: a note is pushed
  Pulls : (rank : ℕ) → Section  -- a tape's lock, its queue: a note is popped, and is on the tape
  Calls : (rank : ℕ) (call : Call) → Section  -- a tape's lock
  Learns : (rank count : ℕ) → Section  -- a front's lock: so many notes are on the disks
  Cuts_off : (rank : ℕ) → Section  -- a front's lock: its tape broke
  Begins : Section  -- the number: a flush of all begins, and reads it
  Dues : (id rank : ℕ) → Section  -- a front's lock: how much is noted there
  Counts : (id rank : ℕ) → Section  -- a front's lock: so much is settled there
  Seals : (id : ℕ) → Section  -- the intake's lock: the sealing's number is noted
  Calls_intake : (call : Call) → Section  -- the intake's lock
  Stops : Section  -- the machine stops, or the process ends
  Opens : (rank : ℕ) → Section  -- a tape is opened, and its station split
  Opens_intake : Section  -- the intake's tape is opened

-- ---- at a tape

-- All its notes are on the disks now; whatever a stop leaves at each moment is the tape of a prefix of them, with every
-- acknowledged one in it.
pub record IsPut (old new : TapePast) : Type 0 where
  pub worked : old.broken ≡ false
  pub moments : LedgersLeave (IsPrefix old.history) old.log new.log
  pub left : EachLedger (IsPrefix new.history) new.log
  pub all : new ≡ record { history = flushed old.history; log = new.log; faults = old.faults; broken = false }

-- The opening was refused, and the tape stays as it was but for what has happened to its disks.
pub record IsTried (old new : TapePast) : Type 0 where
  pub moments : LedgersLeave (IsPrefix old.history) old.log new.log
  pub all : new ≡ record { history = old.history; log = new.log; faults = new.faults; broken = false }

-- The opening found on the disks the ledger of a prefix of its notes, with every acknowledged one in it. That prefix is
-- its notes now, all of them acknowledged.
pub record IsReopened (old new : TapePast) : Type 0 where
  pub state : State
  pub prefix : IsPrefix old.history state
  pub found : LiesOn old.log state
  pub moments : LedgersLeave (IsPrefix old.history) old.log new.log
  pub left : EachLedger (IsPrefix new.history) new.log
  pub all : new ≡ record {
    history = recovered old.history prefix.count;
    log = new.log;
    faults = old.faults;
    broken = false;
  }

-- what a call makes of a tape that runs, or of one that does not
pub data OfTape (was : TapePast) : Bool → Call → TapePast → Type 0 where
  Is_put : (tape : TapePast) → IsPut was tape → OfTape was true Puts tape
  Is_cut : (tape : TapePast) → BreaksTape (IsPrefix was.history) was tape → OfTape was true Breaks tape
  Is_read : (tape : TapePast) → IsReadTape was tape → OfTape was true Reads tape
  Is_tried : (tape : TapePast) → IsTried was tape → OfTape was false Tries tape

-- What a stop leaves of a disk to which this has happened. If the power failed, it is one of the images, whichever, and
-- nothing has happened since. If only the process ended, it is all that has happened: that syncs nothing, so that a
-- later stop may still leave any image.
pub data LeftOf (log : List Event) : List Event → Type 0 where
  Lost_power : (octets : List ℕ) → Image log octets → LeftOf log (Made octets ∷ [])
  Was_killed : LeftOf log log

-- what a stop leaves of the two disks of a tape, of each by itself
pub record WasLeft (old new : Log) : Type 0 where
  pub first : LeftOf old.0 new.0
  pub second : LeftOf old.1 new.1

-- a tape that has stopped: any of its pending notes may be on its disks
pub record IsStopped (old new : TapePast) : Type 0 where
  pub left : WasLeft old.log new.log
  pub all : new ≡ record { history = old.history; log = new.log; faults = (0, 0); broken = false }

-- ---- at a station

-- what its front has not sent, and the queue, are gone
pub record IsStoppedStation (old new : StationPast) : Type 0 where
  pub tape : IsStopped old.tape new.tape
  pub all : new ≡ record {
    tape = new.tape;
    queue = [];
    unsent = [];
    settled = old.settled;
    cut_off = false;
    runs = false;
  }

-- a front of which nothing pends
abbrev pub opened : TapePast → StationPast
opened tape =
    record { tape = tape; queue = []; unsent = []; settled = tape.history.kept; cut_off = false; runs = true }

-- What a section makes of the station at its rank, if this is the number that was shown last. A note that a line makes
-- is of a line above that number.
pub data OfStation (last : ℕ) (was : StationPast) : Section → ℕ → StationPast → Type 0 where
  Is_noted : (rank : ℕ) (note : Note) → was.runs ≡ true → was.cut_off ≡ false → IsAbove last note
      → OfStation last was (Notes rank note) rank (record was { unsent = was.unsent ++ note ∷ [] })
  Is_sent : (rank : ℕ) (note : Note) (rest : List Note) → was.unsent ≡ note ∷ rest
      → OfStation last was (Sends rank) rank (record was { queue = was.queue ++ note ∷ []; unsent = rest })
  Is_pulled : (rank : ℕ) (note : Note) (rest : List Note) → was.tape.broken ≡ false → was.queue ≡ note ∷ rest
      → OfStation last was (Pulls rank) rank
      (record was { tape = record was.tape { history = noted was.tape.history note }; queue = rest })
  Is_called : (rank : ℕ) (call : Call) (tape : TapePast) → OfTape was.tape was.runs call tape
      → OfStation last was (Calls rank call) rank (with_tape was tape)
  Is_learnt : (rank count : ℕ) → was.runs ≡ true → count ≤ was.tape.history.kept
      → OfStation last was (Learns rank count) rank (record was { settled = max was.settled count })
  Is_cut_off : (rank : ℕ) → was.tape.broken ≡ true
      → OfStation last was (Cuts_off rank) rank (record was { cut_off = true })
  Is_opened : (rank : ℕ) (tape : TapePast) → was.runs ≡ false → IsReopened was.tape tape
      → OfStation last was (Opens rank) rank (opened tape)

-- ---- at a post

-- a sealing that begins while this number is shown, of as many stations as this
abbrev pub begun_at : ℕ → ℕ → SealingPast
begun_at number count = record { number = number; progress = replicate count Waits }

-- each station is counted
abbrev pub HasCountedAll : SealingPast → Type 0
HasCountedAll sealing = AllByRecursion (λ (one : Progress). one ≡ Counted) sealing.progress

-- the intake's tape, on which this number is noted
abbrev pub seen : ℕ → TapePast → TapePast
seen number tape = record tape { history = noted tape.history (Seen number) }

pub data Does (past : PostPast) : Section → PostPast → Type 0 where
  At_station : (section : Section) (rank : ℕ) (was now : StationPast) → slice_get past.stations rank ≡ Some was
      → OfStation past.last was section rank now → Does past section (with_station past rank now)
  Is_shown : past.intake_runs ≡ true → Does past Shows (record past { last = past.last + 1 })
  Is_begun : past.intake_runs ≡ true
      → Does past Begins (record past { sealings = past.sealings ++ begun_at past.last (length past.stations) ∷ [] })
  Is_due : (id rank : ℕ) (sealing : SealingPast) (station : StationPast) → slice_get past.sealings id ≡ Some sealing
      → slice_get past.stations rank ≡ Some station
      → Does past (Dues id rank)
      (with_sealing past id (with_progress sealing rank (Due (length (notes_of station)))))
  Is_counted : (id rank count : ℕ) (sealing : SealingPast) (station : StationPast)
      → slice_get past.sealings id ≡ Some sealing → slice_get past.stations rank ≡ Some station
      → slice_get sealing.progress rank ≡ Some (Due count) → count ≤ station.settled
      → Does past (Counts id rank) (with_sealing past id (with_progress sealing rank Counted))
  Is_sealed : (id : ℕ) (sealing : SealingPast) → slice_get past.sealings id ≡ Some sealing → HasCountedAll sealing
      → past.intake.broken ≡ false
      → IsLegal (ledger_at past.intake) (Seen sealing.number)
      → Does past (Seals id) (with_intake past (seen sealing.number past.intake))
  -- a number that is not above the mark is not noted again
  Was_sealed : (id : ℕ) (sealing : SealingPast) → slice_get past.sealings id ≡ Some sealing → HasCountedAll sealing
      → sealing.number ≤ mark_at past.intake
      → Does past (Seals id) past
  Is_called_at_intake : (call : Call) (tape : TapePast) → OfTape past.intake past.intake_runs call tape
      → Does past (Calls_intake call) (with_intake past tape)
  Is_stopped : (stations : List StationPast) (intake : TapePast) → AllZip IsStoppedStation past.stations stations
      → IsStopped past.intake intake
      → Does past Stops (record {
        stations = stations;
        intake = intake;
        intake_runs = false;
        last = past.last;
        sealings = [];
      })
  -- the numbers of lines go on from the tape's mark
  Intake_is_opened : (tape : TapePast) → past.intake_runs ≡ false → IsReopened past.intake tape
      → Does past Opens_intake (record {
        stations = past.stations;
        intake = tape;
        intake_runs = true;
        last = mark_at tape;
        sealings = [];
      })

-- A run of the threads: any sections, in any order in which each finds what it needs.
pub data Runs (begun : PostPast) : List Section → PostPast → Type 0 where
  Start : Runs begun [] begun
  Next : (sections : List Section) (section : Section) (past later : PostPast) → Runs begun sections past
      → Does past section later → Runs begun (sections ++ section ∷ []) later
