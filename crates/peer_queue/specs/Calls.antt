-- What the calls of a station do, and when they are refused.
use Rattle.std.specs.Prelude.{◌≡◌, ◌≢◌, ◌+◌, ◌-◌, ◌^◌, ◌↔◌, ℕ, true, false, length, IsErrOf, IsSome, IfErr, OnErr}
use Rattle.std.specs.Prelude.{OnOk, Result}
use Rattle.disk_model.specs.declared.Disk.{Ghosts}
use Rattle.ledger_core.specs.State.{IsLegal, IsOwed, Overflows, after, keys}
use Rattle.ledger_core.specs.declared.note.Cause.TheVariants.{Deferred}
use Rattle.ledger_core.specs.declared.note.Note.{Note}
use Rattle.ledger_core.specs.declared.note.Note.TheVariants.{Drop}
use Rattle.recovery.specs.Notes.{History, noted_all}
use Rattle.recovery.specs.Words.{IsFull, RotatesTooLong}
use Rattle.recovery.specs.declared.flushed.Flushed.{Flushed}
use Rattle.recovery.specs.declared.fault.TapeFault.TheVariants.{Disk, GenerationFull, TapeFull}
use Rattle.conn_core.specs.declared.deferral.Deferral.{Deferral}
use Rattle.peer_queue.specs.Faults.{IsClaimFault, IsFlushFault, IsRotateFault}
use Rattle.peer_queue.specs.DebtPlace.{IsHeldBy, Later, all_gone, all_ready, deferred_until, gone, least_candidate}
use Rattle.peer_queue.specs.DebtPlace.{moved}
use Rattle.peer_queue.specs.Refusals.{RefusesEnd, RefusesLine}
use Rattle.peer_queue.specs.Shed.{dropped}
use Rattle.peer_queue.specs.Station.{IsShed}
use Rattle.peer_queue.specs.Words.{IsBroken, IsRead, IsSame, IsSameTape, Notes, StandsFor}
use Rattle.peer_queue.specs.Words.{closing, deferred_key, generation_of, ledger_of, limits_of, pending_of, places_of}
use Rattle.peer_queue.specs.declared.fault.StationFault.{StationFault}
use Rattle.peer_queue.specs.declared.fault.StationFault.TheVariants.{Broken, Tape}
use Rattle.peer_queue.specs.declared.limits.Limits.{Limits}
use Rattle.peer_queue.specs.declared.limits.Shed.{Shed}
use Rattle.peer_queue.specs.declared.station.Station.{Station}

module _ {D : Type 0} {g : Ghosts D} where
  -- a station just opened: all that it owes is ready, it works, nothing pends, and it has the given limits
  pub record IsFresh (given : Limits) (station : Station D g) : Type 0 where
    pub ready : places_of station ≡ all_ready (keys (ledger_of station))
    pub works : IsBroken station → ⊥
    pub none_pends : pending_of station ≡ 0
    pub limits : limits_of station ≡ given

  -- each debt is owed as before, at its place, under the same limits
  pub record KeepsDebts (old new : Station D g) : Type 0 where
    pub places : places_of new ≡ places_of old
    pub ledger : ledger_of new ≡ ledger_of old
    pub limits : limits_of new ≡ limits_of old

  -- When a flush is refused, in the order in which it is tried, and what it leaves.
  pub record RefusesFlush (old new : Station D g) (result : Result Flushed StationFault) : Type 0 where
    pub broken : IsErrOf result Broken ↔ IsBroken old
    pub full : IsErrOf result (Tape TapeFull) ↔ ((IsBroken old → ⊥) × IsFull old.tape)
    -- all but Tape(Disk) change nothing
    pub unchanged : IfErr result (λ e. e ≢ Tape Disk → IsSame old new)
    pub breaks : IsErrOf result (Tape Disk) → IsBroken new
    pub works : OnOk result (IsBroken new → ⊥)
    pub kinds : IfErr result IsFlushFault

  -- When a rotation is refused, in the order in which it is tried, and what it leaves.
  pub record RefusesRotation (old new : Station D g) (result : Result ℕ StationFault) : Type 0 where
    pub broken : IsErrOf result Broken ↔ IsBroken old
    pub generation_full : IsErrOf result (Tape GenerationFull)
        ↔ ((IsBroken old → ⊥) × (generation_of old ≡ 2 ^ 64 - 1))
    pub full : IsErrOf result (Tape TapeFull)
        ↔ ((IsBroken old → ⊥) × (generation_of old ≢ 2 ^ 64 - 1) × RotatesTooLong old.tape)
    -- all but Tape(Disk) change nothing
    pub unchanged : IfErr result (λ e. e ≢ Tape Disk → IsRead old new)
    pub breaks : IsErrOf result (Tape Disk) → IsBroken new
    pub works : OnOk result (IsBroken new → ⊥)
    pub kinds : IfErr result IsRotateFault

  -- when owing the line of this number by this note is refused; its source was noted up to this mark
  abbrev pub RefusesOwe : {T : Type 0} → ℕ → ℕ → Note → Station D g → Station D g → Result T StationFault → Type 0
  RefusesOwe mark number note old new result =
      RefusesLine (IsBroken old) (Overflows (ledger_of old) note) (IsSame old new) mark number (pending_of old) result

  -- when closing the open source is refused
  abbrev pub RefusesClose : Station D g → Station D g → Result ℕ StationFault → Type 0
  RefusesClose old new result =
      RefusesEnd (IsBroken old) (Overflows (ledger_of old) (closing old)) (IsLegal (ledger_of old) (closing old))
      (IsSame old new) (pending_of old) result

  -- When a claim at this moment is refused; each debt keeps its place.
  pub record RefusesClaim {T : Type 0} (now : ℕ) (old new : Station D g) (result : Result T StationFault) : Type 0 where
    pub broken : IsErrOf result Broken ↔ IsBroken old
    -- except for Broken, there was a debt to claim
    pub refused : IfErr result (λ e. e ≢ Broken → IsSome (least_candidate now (places_of old)))
    pub kinds : IfErr result IsClaimFault
    pub places : OnErr result (places_of new ≡ places_of old)

  -- When reading the debt of this number is refused.
  pub record RefusesDebt {T : Type 0} (number : ℕ) (old : Station D g) (result : Result T StationFault) : Type 0 where
    pub broken : IsErrOf result Broken ↔ IsBroken old
    -- except for Broken, the number is owed
    pub owed : IfErr result (λ e. e ≢ Broken → IsOwed (ledger_of old) number)
    pub kinds : IfErr result IsClaimFault

  -- a debt that the connection held was deferred at this moment: it waits, or is dropped if deferred debts are
  pub record Defers (connection : ℕ) (deferral : Deferral) (now : ℕ) (old new : Station D g) : Type 0 where
    pub held : IsHeldBy (places_of old) connection (deferred_key deferral)
    pub later : (limits_of old).drop_deferred ≡ false → IsSameTape old new
        × (places_of new ≡ moved (places_of old) (deferred_key deferral) (Later (deferred_until now)))
    pub dropped : (limits_of old).drop_deferred ≡ true → Notes old new (Drop (deferred_key deferral) Deferred)
        × (places_of new ≡ gone (places_of old) (deferred_key deferral))

  -- these debts were shed: each is dropped by a note, which pends, and has no place any more
  pub record Sheds (old new : Station D g) (shed : Shed) : Type 0 where
    pub set : IsShed (limits_of old) (ledger_of old) (places_of old) (pending_of old) shed
    pub notes : (h : History) → StandsFor old h → StandsFor new (noted_all h (dropped shed.keys.items))
    pub ledger : ledger_of new ≡ after (ledger_of old) (dropped shed.keys.items)
    pub places : places_of new ≡ all_gone (places_of old) shed.keys.items
    pub pends : pending_of new ≡ pending_of old + length shed.keys.items
