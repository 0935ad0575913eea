-- Why a line of a script was refused, in words (docs/MANUAL.md).
use Rattle.std.specs.Prelude.{ℕ, List, codes}
use Rattle.recovery.specs.declared.fault.TapeFault.{TapeFault}
use Rattle.recovery.specs.declared.fault.TapeFault.TheVariants.{Damaged, Disk, Broken, TapeFull, GenerationFull}
use Rattle.recovery.specs.declared.fault.TapeFault.TheVariants.{PendingFull}
use Rattle.recovery.specs.declared.fault.TapeFault.TheVariants.{NoMemory as NoTapeMemory, Note}
use Rattle.drill_script.specs.Faults.{reason_words}
use Rattle.world_core.specs.declared.fault.Fault.{Fault}
use Rattle.world_core.specs.declared.fault.Fault.TheVariants.{NoPeer, NoConnection, Stopped, Running, NotNeeded, Tape}
use Rattle.world_core.specs.declared.fault.Fault.TheVariants.{CountFull}
use Rattle.world_core.specs.declared.fault.Fault.TheVariants.{NoMemory, NotFlushed}
use Rattle.drill.specs.declared.ending.Why.{Why}
use Rattle.drill.specs.declared.ending.Why.TheVariants.{Script, Step}

-- why a tape refused
abbrev pub tape_words : TapeFault → List ℕ
tape_words (Damaged segment at) = codes "a tape is damaged"
tape_words Disk = codes "a disk failed"
tape_words Broken = codes "a tape broke earlier"
tape_words TapeFull = codes "a tape would become too long"
tape_words GenerationFull = codes "a tape has the largest possible generation"
tape_words PendingFull = codes "too many notes are pending: flush before this step"
tape_words NoTapeMemory = codes "out of memory"
tape_words (Note fault) = codes "the ledger refused the note"

-- why a step was refused
abbrev pub step_words : Fault → List ℕ
step_words NoPeer = codes "no peer of this name is declared"
step_words NoConnection = codes "no connection has this number, or a stop ended it"
step_words Stopped = codes "everything has stopped: only `restart` and `stop` are allowed"
step_words Running = codes "nothing has stopped"
step_words NotNeeded = codes "the connection wants no article"
step_words (Tape fault) = tape_words fault
step_words CountFull = codes "the number would exceed the largest possible"
step_words NoMemory = codes "out of memory"
step_words NotFlushed = codes "no number is kept, or a peer has not been flushed since"

abbrev pub why_words : Why → List ℕ
why_words (Script reason) = reason_words reason
why_words (Step fault) = step_words fault
