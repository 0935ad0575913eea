-- Which faults come, and of which peers.
use Rattle.std.proofs.Common.{◌≡◌, ◌<◌, ℕ, refl, arith}
use Rattle.ledger_core.specs.State.{State}
use Rattle.ledger_core.specs.declared.ledger.LedgerFault.{LedgerFault}
use Rattle.ledger_core.specs.declared.ledger.LedgerFault.TheVariants.{OldNumber, NotOwed, CountFull as LedgerFull}
use Rattle.ledger_core.specs.declared.ledger.LedgerFault.TheVariants.{NoMemory as NoLedgerMemory}
use Rattle.ledger_core.specs.declared.note.Note.TheVariants.{Seen}
use Rattle.recovery.specs.Words.{IsNoteFault, RefusesNote}
use Rattle.recovery.specs.declared.fault.TapeFault.{TapeFault}
use Rattle.recovery.specs.declared.fault.TapeFault.TheVariants.{Damaged, Disk, Broken, TapeFull}
use Rattle.recovery.specs.declared.fault.TapeFault.TheVariants.{GenerationFull, PendingFull}
use Rattle.recovery.specs.declared.fault.TapeFault.TheVariants.{NoMemory as NoTapeMemory, Note as RefusedNote}
use Rattle.flusher.specs.declared.fault.PostFault.{PostFault}
use Rattle.flusher.specs.declared.fault.PostFault.TheVariants.{Station, Intake, CountFull, Stranger, NoMemory, Busy}
use Rattle.flusher.specs.Faults.{IsLineFault, IsSealFault}

-- a fault of these peers is one of those
pub line_fault_of : (P Q : ℕ → Type 0) (fault : PostFault) → ((at : ℕ) → P at → Q at) → IsLineFault P fault
    → IsLineFault Q fault
line_fault_of P Q (Station at fault) along is = (along at is.0, is.1)
line_fault_of P Q (Intake fault) along is = is
line_fault_of P Q CountFull along is = is
line_fault_of P Q (Stranger at) along is = along at is
line_fault_of P Q NoMemory along is = is
line_fault_of P Q (Busy at) along is = is

-- a ledger refuses no number above its mark that was seen
pub seen_taken : (state : State) (number : ℕ) (fault : LedgerFault) → state.mark < number
    → RefusesNote state (Seen number) fault → ⊥
seen_taken state number OldNumber above old = omega (arith, above, old)
seen_taken state number NotOwed above none = none
seen_taken state number LedgerFull above none = none
seen_taken state number NoLedgerMemory above none = none

pub seal_fault_of : (fault : TapeFault) → ((refused : LedgerFault) → fault ≡ RefusedNote refused → ⊥)
    → IsNoteFault fault → IsSealFault fault
seal_fault_of (Damaged segment at) taken is = is
seal_fault_of Disk taken is = tt
seal_fault_of Broken taken is = tt
seal_fault_of TapeFull taken is = tt
seal_fault_of GenerationFull taken is = is
seal_fault_of PendingFull taken is = tt
seal_fault_of NoTapeMemory taken is = tt
seal_fault_of (RefusedNote fault) taken is = taken fault refl
