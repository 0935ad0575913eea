-- Why a post refuses its calls.
use Rattle.std.specs.Prelude.{◌≡◌, ◌≢◌, ◌⊎◌, ◌<◌, ℕ, List, [], slice_index_or, length, Contains}
use Rattle.funnel.specs.Line.{IsFunnelLine}
use Rattle.peer_queue.specs.Faults.{IsFlushTapeFault, IsOweFault}
use Rattle.peer_queue.specs.declared.fault.StationFault.{StationFault}
use Rattle.peer_queue.specs.declared.fault.StationFault.TheVariants.{Broken as BrokenStation, NotHeld, Tape}
use Rattle.peer_queue.specs.declared.fault.StationFault.TheVariants.{NoMemory as NoStationMemory}
use Rattle.recovery.specs.declared.fault.TapeFault.{TapeFault}
use Rattle.recovery.specs.declared.fault.TapeFault.TheVariants.{Disk, Broken, TapeFull}
use Rattle.recovery.specs.declared.fault.TapeFault.TheVariants.{PendingFull, Note as RefusedNote}
use Rattle.recovery.specs.declared.fault.TapeFault.TheVariants.{NoMemory as NoTapeMemory}
use Rattle.flusher.specs.declared.fault.PostFault.{PostFault}
use Rattle.flusher.specs.declared.fault.PostFault.TheVariants.{Station, Intake, CountFull, Stranger, NoMemory}
use Rattle.flusher.specs.declared.fault.TakeFault.{TakeFault}
use Rattle.flusher.specs.declared.fault.TakeFault.TheVariants.{Stranger as OtherMark, Station as OfStation}

-- the station of this peer refused, with a fault of this kind
abbrev pub IsOfStation : ℕ → (StationFault → Type 0) → PostFault → Type 0
IsOfStation peer Kind (Station at fault) = (at ≡ peer) × Kind fault
IsOfStation peer Kind fault = ⊥

-- the same, or a lock of this peer held what is another peer's
abbrev pub IsOfPeer : ℕ → (StationFault → Type 0) → PostFault → Type 0
IsOfPeer peer Kind (Station at fault) = (at ≡ peer) × Kind fault
IsOfPeer peer Kind (Stranger at) = at ≡ peer
IsOfPeer peer Kind fault = ⊥

-- the faults that a front's `shed` returns
abbrev pub IsShedFault : StationFault → Type 0
IsShedFault fault = (fault ≡ BrokenStation) ⊎ (fault ≡ NoStationMemory)

-- the faults that a front returns which takes a line
abbrev pub IsTakeFault : TakeFault → Type 0
IsTakeFault OtherMark = Unit {0}
IsTakeFault (OfStation fault) = IsOweFault fault

-- the line is valid and names this peer, which is one of these
pub record IsNamedBy (line : List ℕ) (names : List (List ℕ)) (peer : ℕ) : Type 0 where
  pub token : List ℕ
  pub id : List ℕ
  pub named : List (List ℕ)
  pub good : IsFunnelLine line token id named
  pub within : peer < length names
  pub names_it : Contains named (slice_index_or names peer [])

-- the faults that `take_line` returns, if only fronts of such peers are asked
abbrev pub IsLineFault : (ℕ → Type 0) → PostFault → Type 0
IsLineFault IsAsked (Station at fault) = IsAsked at × IsOweFault fault
IsLineFault IsAsked CountFull = Unit {0}
IsLineFault IsAsked (Stranger at) = IsAsked at
IsLineFault IsAsked NoMemory = Unit {0}
IsLineFault IsAsked fault = ⊥

-- the faults of the intake tape that `flush_all` returns
abbrev pub IsSealFault : TapeFault → Type 0
IsSealFault Disk = Unit {0}
IsSealFault Broken = Unit {0}
IsSealFault TapeFull = Unit {0}
IsSealFault PendingFull = Unit {0}
IsSealFault NoTapeMemory = Unit {0}
IsSealFault fault = ⊥

-- the faults of a tape that takes what its peer's front has noted, and is flushed: no run meets a note that it refuses
abbrev pub IsRoundTapeFault : TapeFault → Type 0
IsRoundTapeFault (RefusedNote fault) = Unit {0}
IsRoundTapeFault fault = IsFlushTapeFault fault

-- the faults of a station that a round of flushing returns
abbrev pub IsRoundFault : StationFault → Type 0
IsRoundFault BrokenStation = Unit {0}
IsRoundFault (Tape fault) = IsRoundTapeFault fault
IsRoundFault NoStationMemory = Unit {0}
IsRoundFault fault = ⊥

-- the faults that the flush of one peer returns, if a station returns these
abbrev pub IsPartFault : ℕ → (StationFault → Type 0) → PostFault → Type 0
IsPartFault peer Kind (Station at fault) = (at ≡ peer) × Kind fault
IsPartFault peer Kind (Stranger at) = at ≡ peer
IsPartFault peer Kind NoMemory = Unit {0}
IsPartFault peer Kind fault = ⊥

-- the faults that `flush_all` returns, at a post of `peers` peers
abbrev pub IsFlushAllFault : ℕ → PostFault → Type 0
IsFlushAllFault peers (Station at fault) = (at < peers) × IsRoundFault fault
IsFlushAllFault peers (Stranger at) = at < peers
IsFlushAllFault peers NoMemory = Unit {0}
IsFlushAllFault peers (Intake fault) = IsSealFault fault
IsFlushAllFault peers fault = ⊥

-- the faults that a round of flushing returns of a station that is not broken
abbrev pub IsWorkingFlushFault : StationFault → Type 0
IsWorkingFlushFault fault = IsRoundFault fault × (fault ≢ BrokenStation)

-- the faults that `flush_working` returns, at a post of `peers` peers
abbrev pub IsFlushWorkingFault : ℕ → PostFault → Type 0
IsFlushWorkingFault peers (Station at fault) = (at < peers) × IsWorkingFlushFault fault
IsFlushWorkingFault peers (Stranger at) = at < peers
IsFlushWorkingFault peers NoMemory = Unit {0}
IsFlushWorkingFault peers fault = ⊥

-- the faults that a front's `put_off` returns
abbrev pub IsPutOffFault : StationFault → Type 0
IsPutOffFault fault = (fault ≡ BrokenStation) ⊎ (fault ≡ NotHeld)

-- a disk of the station failed, now or before
abbrev pub IsDiskFault : StationFault → Type 0
IsDiskFault fault = (fault ≡ Tape Disk) ⊎ (fault ≡ BrokenStation)

-- the faults that `rotate_all` returns, at a post of `peers` peers
abbrev pub IsRotateAllFault : ℕ → PostFault → Type 0
IsRotateAllFault peers (Station at fault) = (at < peers) × IsDiskFault fault
IsRotateAllFault peers (Stranger at) = at < peers
IsRotateAllFault peers (Intake fault) = (fault ≡ Disk) ⊎ (fault ≡ Broken)
IsRotateAllFault peers fault = ⊥

-- the faults that `end` returns, at a post of `peers` peers
abbrev pub IsPostEndFault : ℕ → PostFault → Type 0
IsPostEndFault peers (Stranger at) = at < peers
IsPostEndFault peers NoMemory = Unit {0}
IsPostEndFault peers fault = ⊥

-- a tape failed, now or before, or has no room: the tape of a station, or the intake's
abbrev pub IsOfTape : PostFault → Type 0
IsOfTape (Station at BrokenStation) = Unit {0}
IsOfTape (Station at (Tape fault)) = Unit {0}
IsOfTape (Intake fault) = fault ≢ NoTapeMemory
IsOfTape fault = ⊥

-- a disk of a peer's tape failed, now or before
abbrev pub HasBroken : PostFault → Type 0
HasBroken (Station at BrokenStation) = Unit {0}
HasBroken (Station at (Tape fault)) = fault ≡ Disk
HasBroken fault = ⊥
