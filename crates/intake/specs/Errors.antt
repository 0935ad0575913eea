-- What goes wrong in a run, and what that adds to how the run ended.
use Rattle.std.specs.Prelude.{◌≡◌, ◌≢◌, ◌⊎◌, ◌++◌, ◌∷◌, [], ℕ, true, false, List, Option, None, Some, codes, option_map}
use Rattle.std.specs.Prelude.{Vec, slice_get}
use Rattle.std.specs.IoError.{error_kind}
use Rattle.std.specs.declared.io.Error.{Error}
use Rattle.std.specs.declared.io.ErrorKind.TheVariants.{OutOfMemory}
use Rattle.std.specs.declared.alloc.Global.{Global}
use Rattle.feed_ends.specs.declared.feed_end.FeedEnd.{FeedEnd}
use Rattle.feed_ends.specs.declared.feed_end.FileError.{FileError}
use Rattle.feed_ends.specs.declared.feed_end.FileError.TheVariants.{Unread}
use Rattle.feed_ends.specs.declared.feed_end.TapeError.{TapeError}
use Rattle.feed_ends.specs.declared.feed_end.TapeError.TheVariants.{Failed}
use Rattle.flusher.specs.declared.fault.PostFault.{PostFault}
use Rattle.flusher.specs.declared.fault.PostFault.TheVariants.{Station, Intake, CountFull, Stranger, Busy}
use Rattle.flusher.specs.declared.fault.PostFault.TheVariants.{NoMemory as PostNoMemory}
use Rattle.ledger_core.specs.declared.ledger.LedgerFault.TheVariants.{CountFull as LedgerFull}
use Rattle.peer_queue.specs.declared.fault.StationFault.{StationFault}
use Rattle.peer_queue.specs.declared.fault.StationFault.TheVariants.{NotHeld, Broken as StationBroken}
use Rattle.peer_queue.specs.declared.fault.StationFault.TheVariants.{Tape as TapeRefused, NoMemory as StationNoMemory}
use Rattle.recovery.specs.declared.fault.TapeFault.{TapeFault}
use Rattle.recovery.specs.declared.fault.TapeFault.TheVariants.{Broken, Disk, NoMemory, Note}
use Rattle.intake.specs.declared.run_error.RunError.{RunError}
use Rattle.intake.specs.declared.run_error.RunError.TheVariants.{OutOfResources, Tape, Unopened, File}

-- the fault of a station's tape that is reported for a station's fault
abbrev pub tape_fault_of : StationFault → TapeFault
tape_fault_of NotHeld = Broken
tape_fault_of StationBroken = Broken
tape_fault_of (TapeRefused fault) = fault
tape_fault_of StationNoMemory = NoMemory

-- which tape is reported for a fault of a post whose peers have these names, and with which fault; none if no tape is
abbrev pub failed_tape : List (List ℕ) → PostFault → Option (List ℕ × TapeFault)
failed_tape names (Station peer fault) = option_map (λ name. (name, tape_fault_of fault)) (slice_get names peer)
failed_tape names (Intake fault) = Some (codes "~intake", fault)
failed_tape names CountFull = Some (codes "~intake", Note LedgerFull)
failed_tape names (Stranger peer) = option_map (λ name. (name, Broken)) (slice_get names peer)
failed_tape names PostNoMemory = None
failed_tape names (Busy peer) = None

-- The error that the tape of this name has this fault. If memory was refused, then or now, it is that.
abbrev pub IsTapeError : List ℕ → TapeFault → RunError → Type 0
IsTapeError name fault error = (error ≡ OutOfResources)
    ⊎ ((fault ≢ NoMemory) × ((held : Vec ℕ Global) × (held.items ≡ name) × (error ≡ Tape (Failed held fault))))

-- the same for a tape and its fault, if there is one
abbrev pub IsErrorOf : Option (List ℕ × TapeFault) → RunError → Type 0
IsErrorOf None error = error ≡ OutOfResources
IsErrorOf (Some tape) error = IsTapeError tape.0 tape.1 error

-- The error that the file at this path cannot be read, for the system's reason. If memory was refused, then or now, it
-- is that.
abbrev pub IsUnread : List ℕ → Error → RunError → Type 0
IsUnread path reason error = (error ≡ OutOfResources)
    ⊎ ((error_kind reason ≢ OutOfMemory) × ((held : Vec ℕ Global) × (held.items ≡ path) × (error ≡ File (Unread held))))

-- An error of a tape is added if it is the first one: later ones follow from it. If memory is refused for it, resources
-- lack.
pub record AddsTape (error : TapeError) (old new : FeedEnd) : Type 0 where
  pub files : new.files ≡ old.files
  pub owing : new.owing ≡ old.owing
  pub tapes : ((old.tapes.items ≢ []) × (new ≡ old))
      ⊎ ((old.tapes.items ≡ []) × (new.tapes.items ≡ error ∷ []) × (new.lacks_resources ≡ old.lacks_resources))
      ⊎ ((new.tapes.items ≡ old.tapes.items) × (new.lacks_resources ≡ true))

-- An error of another file is added, after the others. If memory is refused for it, resources lack.
pub record AddsFile (error : FileError) (old new : FeedEnd) : Type 0 where
  pub tapes : new.tapes ≡ old.tapes
  pub owing : new.owing ≡ old.owing
  pub files : ((new.files.items ≡ old.files.items ++ error ∷ []) × (new.lacks_resources ≡ old.lacks_resources))
      ⊎ ((new.files.items ≡ old.files.items) × (new.lacks_resources ≡ true))

-- What an error adds to how a run ended.
abbrev pub Adds : RunError → FeedEnd → FeedEnd → Type 0
Adds OutOfResources old new = new ≡ record old { lacks_resources = true }
Adds (Tape error) old new = AddsTape error old new
Adds (Unopened name path reason) old new = AddsTape (Failed name Disk) old new
Adds (File error) old new = AddsFile error old new

-- the errors of tapes that are kept, once these come after those: the first alone
abbrev pub with_first : List TapeError → List TapeError → List TapeError
with_first [] [] = []
with_first [] (error ∷ more) = error ∷ []
with_first (error ∷ rest) more = error ∷ rest

-- Errors of tapes are added, one after another, unless resources lack.
pub record AddsTapes (errors : List TapeError) (old new : FeedEnd) : Type 0 where
  pub files : new.files ≡ old.files
  pub owing : new.owing ≡ old.owing
  pub tapes : new.lacks_resources ≡ false
      → (old.lacks_resources ≡ false) × (new.tapes.items ≡ with_first old.tapes.items errors)

-- Errors of other files are added, one after another, unless resources lack.
pub record AddsFiles (errors : List FileError) (old new : FeedEnd) : Type 0 where
  pub tapes : new.tapes ≡ old.tapes
  pub owing : new.owing ≡ old.owing
  pub files : new.lacks_resources ≡ false
      → (old.lacks_resources ≡ false) × (new.files.items ≡ old.files.items ++ errors)

-- All that went wrong in a part of a run is added, unless resources lack.
pub record AddsAll (part old new : FeedEnd) : Type 0 where
  pub owing : new.owing ≡ old.owing
  pub all : new.lacks_resources ≡ false
      → (part.lacks_resources ≡ false) × (old.lacks_resources ≡ false)
      × (new.tapes.items ≡ with_first old.tapes.items part.tapes.items)
      × (new.files.items ≡ old.files.items ++ part.files.items)
