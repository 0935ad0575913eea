-- A debt that is owed, read back.
use Rattle.std.proofs.Common.{◌≡◌, ◌⊎◌, inl, inr, is_some, refl, sym, ap, ◌∙◌, subst}
use Rattle.std.proofs.lemmas.Bool.{false≢true}
use Rattle.recovery.specs.Words.{IsDebtFault, ledger_of as tape_ledger}
use Rattle.recovery.specs.Texts.{HasLengths}
use Rattle.recovery.specs.declared.fault.TapeFault.{TapeFault}
use Rattle.recovery.specs.declared.fault.TapeFault.TheVariants.{Damaged, Disk, Broken, TapeFull, GenerationFull, PendingFull, NoMemory as NoTapeMemory, Note as RefusedNote}
use Rattle.peer_queue.specs.Faults.{station_fault}
use Rattle.peer_queue.specs.declared.fault.StationFault.TheVariants.{NoMemory, Tape as TapeRefused}
use Rattle.peer_queue.proofs.Claims.{found_debt, read_number}
use Rattle.peer_queue.proofs.station.Station.owed_debt.Goals as goal

pub unreachable-requires : goal.unreachable-requires
unreachable-requires g c =
    false≢true (sym (ap is_some c.in-Ok-None.field-0-is) ∙ c.in-Ok-None.ensures.owed.0.1 c.requires.owed)

pub returns-in-Ok-Some-clause-key : goal.returns-in-Ok-Some-clause-key
returns-in-Ok-Some-clause-key g c =
    let state = tape_ledger c.args.self.now.tape in
    read_number state c.args.key c.in-Ok-Some.debt
    (subst (HasLengths state c.args.key) c.in-Ok-Some.field-0-is c.in-Ok-Some.ensures.owed.1)

pub returns-in-Ok-Some-clause-debt : goal.returns-in-Ok-Some-clause-debt
returns-in-Ok-Some-clause-debt g c = λ h stands.
    (found_debt c.args.key (tape_ledger c.args.self.now.tape).debts c.in-Ok-Some.debt
    (sym (c.in-Ok-Some.ensures.debt h stands) ∙ c.in-Ok-Some.field-0-is)).1

-- of a tape that works a debt is refused for the disk or for want of memory
debt_fault : (fault : TapeFault) → IsDebtFault fault → (fault ≡ Broken → ⊥)
    → (station_fault fault ≡ TapeRefused Disk) ⊎ (station_fault fault ≡ NoMemory)
debt_fault (Damaged segment at) kind works = absurd kind
debt_fault Disk kind works = inl refl
debt_fault Broken kind works = absurd (works refl)
debt_fault TapeFull kind works = absurd kind
debt_fault GenerationFull kind works = absurd kind
debt_fault PendingFull kind works = absurd kind
debt_fault NoTapeMemory kind works = inr refl
debt_fault (RefusedNote fault) kind works = absurd kind
