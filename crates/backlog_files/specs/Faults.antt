-- Why a peer's station refuses a line, or to close a source.
use Rattle.std.specs.Prelude.{◌≢◌, ◌⊎◌}
use Rattle.peer_queue.specs.Faults.{IsFlushFault, IsOweFault}
use Rattle.peer_queue.specs.declared.fault.StationFault.{StationFault}
use Rattle.peer_queue.specs.declared.fault.StationFault.TheVariants.{Tape}
use Rattle.recovery.specs.declared.fault.TapeFault.TheVariants.{PendingFull}

-- as a debt is refused, except for want of room among the pending notes, because a flush makes room; or as a flush is
abbrev pub IsImportFault : StationFault → Type 0
IsImportFault fault = (IsOweFault fault × (fault ≢ Tape PendingFull)) ⊎ IsFlushFault fault
