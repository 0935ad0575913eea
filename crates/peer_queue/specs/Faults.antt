-- Why a station refuses its calls.
use Rattle.std.specs.Prelude.{◌≡◌, ◌⊎◌}
use Rattle.ledger_core.specs.declared.ledger.LedgerFault.TheVariants.{CountFull}
use Rattle.recovery.specs.declared.fault.TapeFault.{TapeFault}
use Rattle.recovery.specs.declared.fault.TapeFault.TheVariants.{Damaged, Disk, Broken as BrokenTape, TapeFull, GenerationFull, PendingFull, NoMemory as NoTapeMemory, Note as RefusedNote}
use Rattle.peer_queue.specs.declared.fault.StationFault.{StationFault}
use Rattle.peer_queue.specs.declared.fault.StationFault.TheVariants.{NotHeld, Broken, Tape as TapeRefused, NoMemory}

-- a tape's fault, as a station reports it
abbrev pub station_fault : TapeFault → StationFault
station_fault (Damaged segment at) = TapeRefused (Damaged segment at)
station_fault Disk = TapeRefused Disk
station_fault BrokenTape = Broken
station_fault TapeFull = TapeRefused TapeFull
station_fault GenerationFull = TapeRefused GenerationFull
station_fault PendingFull = TapeRefused PendingFull
station_fault NoTapeMemory = NoMemory
station_fault (RefusedNote fault) = TapeRefused (RefusedNote fault)

-- the faults of a tape that `owe` returns
abbrev pub IsOweTapeFault : TapeFault → Type 0
IsOweTapeFault PendingFull = Unit {0}
IsOweTapeFault (RefusedNote fault) = fault ≡ CountFull
IsOweTapeFault fault = ⊥

-- the faults that `owe` returns
abbrev pub IsOweFault : StationFault → Type 0
IsOweFault Broken = Unit {0}
IsOweFault (TapeRefused fault) = IsOweTapeFault fault
IsOweFault NoMemory = Unit {0}
IsOweFault fault = ⊥

-- the faults that `claim` and `debt` return
abbrev pub IsClaimFault : StationFault → Type 0
IsClaimFault Broken = Unit {0}
IsClaimFault (TapeRefused fault) = fault ≡ Disk
IsClaimFault NoMemory = Unit {0}
IsClaimFault fault = ⊥

-- the faults of a tape that `flush` returns
abbrev pub IsFlushTapeFault : TapeFault → Type 0
IsFlushTapeFault fault = (fault ≡ TapeFull) ⊎ (fault ≡ Disk)

-- the faults that `flush` returns
abbrev pub IsFlushFault : StationFault → Type 0
IsFlushFault Broken = Unit {0}
IsFlushFault (TapeRefused fault) = IsFlushTapeFault fault
IsFlushFault NoMemory = Unit {0}
IsFlushFault fault = ⊥

-- the faults of a tape that `rotate` returns
abbrev pub IsRotateTapeFault : TapeFault → Type 0
IsRotateTapeFault fault = (fault ≡ GenerationFull) ⊎ (fault ≡ TapeFull) ⊎ (fault ≡ Disk)

-- the faults that `rotate` returns
abbrev pub IsRotateFault : StationFault → Type 0
IsRotateFault Broken = Unit {0}
IsRotateFault (TapeRefused fault) = IsRotateTapeFault fault
IsRotateFault NoMemory = Unit {0}
IsRotateFault fault = ⊥

-- the faults that a call returns which ends a debt
abbrev pub IsEndFault : StationFault → Type 0
IsEndFault NotHeld = Unit {0}
IsEndFault Broken = Unit {0}
IsEndFault (TapeRefused fault) = fault ≡ PendingFull
IsEndFault NoMemory = Unit {0}
