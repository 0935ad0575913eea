-- How the fault of a tape or a station is reported as a step's, and the words for it (docs/FORMATS.md).
use Rattle.std.specs.Prelude.{ℕ, List, ◌++◌, codes}
use Rattle.recovery.specs.Faults.{tape_fault_name}
use Rattle.recovery.specs.declared.fault.TapeFault.{TapeFault}
use Rattle.recovery.specs.declared.fault.TapeFault.TheVariants.{Damaged, Disk, Broken, TapeFull, GenerationFull}
use Rattle.recovery.specs.declared.fault.TapeFault.TheVariants.{PendingFull, NoMemory, Note}
use Rattle.peer_queue.specs.declared.fault.StationFault.{StationFault}
use Rattle.peer_queue.specs.declared.fault.StationFault.TheVariants.{NotHeld, Broken as BrokenStation}
use Rattle.peer_queue.specs.declared.fault.StationFault.TheVariants.{Tape as StationTape, NoMemory as NoStationMemory}
use Rattle.world_core.specs.declared.fault.Fault.{Fault}
use Rattle.world_core.specs.declared.fault.Fault.TheVariants.{NoPeer, NoConnection, Stopped, Running, NotNeeded, Tape}
use Rattle.world_core.specs.declared.fault.Fault.TheVariants.{CountFull, NoMemory as NoStepMemory, NotFlushed}

-- want of memory is the step's own fault, and any other is a tape's
abbrev pub fault_of : TapeFault → Fault
fault_of (Damaged segment at) = Tape (Damaged segment at)
fault_of Disk = Tape Disk
fault_of Broken = Tape Broken
fault_of TapeFull = Tape TapeFull
fault_of GenerationFull = Tape GenerationFull
fault_of PendingFull = Tape PendingFull
fault_of NoMemory = NoStepMemory
fault_of (Note fault) = Tape (Note fault)

-- A broken station is reported as a broken tape. No step makes a station settle what it does not hold, so any value
-- will do for that fault.
abbrev pub fault_of_station : StationFault → Fault
fault_of_station NotHeld = NoConnection
fault_of_station BrokenStation = Tape Broken
fault_of_station (StationTape fault) = fault_of fault
fault_of_station NoStationMemory = NoStepMemory

-- the words for why a step is refused; `Tape` is followed by the tape's fault
abbrev pub fault_name : Fault → List ℕ
fault_name NoPeer = codes "NoPeer"
fault_name NoConnection = codes "NoConnection"
fault_name Stopped = codes "Stopped"
fault_name Running = codes "Running"
fault_name NotNeeded = codes "NotNeeded"
fault_name (Tape fault) = codes "Tape " ++ tape_fault_name fault
fault_name CountFull = codes "CountFull"
fault_name NoStepMemory = codes "NoMemory"
fault_name NotFlushed = codes "NotFlushed"
