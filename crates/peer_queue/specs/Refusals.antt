-- When calls of a station or of a front are refused.
use Rattle.std.specs.Prelude.{◌≡◌, ◌⊎◌, ◌<◌, ◌↔◌, ℕ, IfErr, IsErr, IsErrAnd, IsErrOf, OnErr, Result}
use Rattle.ledger_core.specs.declared.ledger.LedgerFault.TheVariants.{CountFull}
use Rattle.recovery.specs.Notes.{most_pending}
use Rattle.recovery.specs.declared.fault.TapeFault.TheVariants.{PendingFull, Note as RefusedNote}
use Rattle.peer_queue.specs.Faults.{IsOweFault}
use Rattle.peer_queue.specs.declared.fault.StationFault.{StationFault}
use Rattle.peer_queue.specs.declared.fault.StationFault.TheVariants.{Broken, NoMemory, NotHeld, Tape}

-- the call was refused for this fault, and handed something back with it
abbrev pub Tells : {A B : Type 0} → Result A (B × StationFault) → StationFault → Type 0
Tells result fault = IsErrAnd result (λ e. e.1 ≡ fault)

-- When owing the line of this number is refused, in the order in which it is tried; its source was noted up to this
-- mark, and `pending` notes pend. Nothing has changed then.
pub record RefusesLine {T : Type 0} (IsBroken Overflows IsSame : Type 0) (mark number pending : ℕ)
    (result : Result T StationFault) : Type 0 where
  pub broken : IsErrOf result Broken ↔ IsBroken
  -- these two only one way, since memory may be refused before either is looked at
  pub count_full : IsErrOf result (Tape (RefusedNote CountFull)) → Overflows
  pub pending_full : IsErrOf result (Tape PendingFull)
      → (mark < number) × (pending ≡ most_pending) × (Overflows → ⊥)
  pub no_memory : IsErrOf result NoMemory → (IsBroken → ⊥) × (mark < number)
  -- if a count would overflow, or if the number is new and no more may pend, it is never Ok
  pub never : Overflows ⊎ (mark < number) × (pending ≡ most_pending) → IsErr result
  pub kinds : IfErr result IsOweFault
  pub unchanged : OnErr result IsSame

-- When closing the open source is refused, in the order in which it is tried, if `pending` notes pend. Nothing has
-- changed then.
pub record RefusesEnd (IsBroken Overflows IsLegal IsSame : Type 0) (pending : ℕ) (result : Result ℕ StationFault)
    : Type 0 where
  pub broken : IsErrOf result Broken ↔ IsBroken
  pub count_full : IsErrOf result (Tape (RefusedNote CountFull)) ↔ ((IsBroken → ⊥) × Overflows)
  pub pending_full : IsErrOf result (Tape PendingFull)
      ↔ ((IsBroken → ⊥) × (Overflows → ⊥) × (pending ≡ most_pending))
  pub no_memory : IsErrOf result NoMemory → (IsBroken → ⊥) × IsLegal × (pending < most_pending)
  pub kinds : IfErr result IsOweFault
  pub unchanged : OnErr result IsSame

-- Broken comes exactly if it is broken, NotHeld exactly if it is not and the connection doesn't hold the debt
pub record RefusesHeld {A B : Type 0} (IsBroken IsHeld : Type 0) (result : Result A (B × StationFault)) : Type 0 where
  pub broken : Tells result Broken ↔ IsBroken
  pub not_held : Tells result NotHeld ↔ ((IsBroken → ⊥) × (IsHeld → ⊥))
