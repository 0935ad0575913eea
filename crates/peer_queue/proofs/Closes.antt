-- A station closes the source that is open.
use Rattle.std.proofs.Common.{◌≡◌, ◌+◌, ◌^◌, ℕ, inl, inr, Ok, Err, refl, sym, ap, ◌∙◌, subst, arith}
use Rattle.std.specs.Prelude.{◌<◌, ◌↔◌, IsErrOf}
use Rattle.std.proofs.lemmas.Bool.{cases_lt}
use Rattle.disk_model.specs.declared.Disk.{Ghosts}
use Rattle.ledger_core.specs.Shape.{FitsShape, OverflowsShape, Shape}
use Rattle.ledger_core.specs.ShapeLaws.{overflows-fits}
use Rattle.ledger_core.specs.declared.ledger.LedgerFault.{LedgerFault}
use Rattle.ledger_core.specs.declared.ledger.LedgerFault.TheVariants.{CountFull}
use Rattle.ledger_core.specs.declared.note.Note.{Note}
use Rattle.ledger_core.specs.declared.note.Note.TheVariants.{Closed}
use Rattle.ledger_core.specs.State.{State, IsLegal, Overflows}
use Rattle.ledger_core.specs.StateLaws.{full-legal}
use Rattle.recovery.specs.Notes.{most_pending}
use Rattle.recovery.specs.Takes.{RefusesNoting}
use Rattle.recovery.specs.Words.{IsNoteFault}
use Rattle.recovery.specs.declared.fault.TapeFault.{TapeFault}
use Rattle.recovery.specs.declared.fault.TapeFault.TheVariants.{Damaged, Disk, Broken as BrokenTape, TapeFull}
use Rattle.recovery.specs.declared.fault.TapeFault.TheVariants.{GenerationFull, PendingFull}
use Rattle.recovery.specs.declared.fault.TapeFault.TheVariants.{NoMemory as NoTapeMemory, Note as RefusedNote}
use Rattle.recovery.specs.declared.tape.Tape.{Tape}
use Rattle.peer_queue.specs.Calls.{RefusesClose}
use Rattle.peer_queue.specs.Faults.{IsOweFault, station_fault}
use Rattle.peer_queue.specs.Front.{IsBroken as IsBrokenFront, IsSame as IsSameFront, closing as front_closing}
use Rattle.peer_queue.specs.Front.{front_shape}
use Rattle.peer_queue.specs.Front.{pending_of as front_pending}
use Rattle.peer_queue.specs.FrontCalls.{RefusesClose as RefusesFrontClose}
use Rattle.peer_queue.specs.Refusals.{RefusesEnd}
use Rattle.peer_queue.specs.Shapes.{RefusesByShape}
use Rattle.peer_queue.specs.Words.{IsBroken, IsSame, closing, ledger_of, pending_of}
use Rattle.peer_queue.specs.declared.fault.StationFault.{StationFault}
use Rattle.peer_queue.specs.declared.fault.StationFault.TheVariants.{Broken, NoMemory, Tape as TapeRefused}
use Rattle.peer_queue.specs.declared.front.Front.{Front}
use Rattle.peer_queue.specs.declared.station.Station.{Station}
use Rattle.peer_queue.proofs.Owes.{note_fault, told_fault}
use Rattle.peer_queue.proofs.Shaped.{shape_fault}

told_broken : (fault : TapeFault) → station_fault fault ≡ Broken → fault ≡ BrokenTape
told_broken (Damaged segment at) e = cc
told_broken Disk e = cc
told_broken BrokenTape e = refl
told_broken TapeFull e = cc
told_broken GenerationFull e = cc
told_broken PendingFull e = cc
told_broken NoTapeMemory e = cc
told_broken (RefusedNote refused) e = cc

told_memory : (fault : TapeFault) → station_fault fault ≡ NoMemory → fault ≡ NoTapeMemory
told_memory (Damaged segment at) e = cc
told_memory Disk e = cc
told_memory BrokenTape e = cc
told_memory TapeFull e = cc
told_memory GenerationFull e = cc
told_memory PendingFull e = cc
told_memory NoTapeMemory e = refl
told_memory (RefusedNote refused) e = cc

-- ---- by what refuses the note

-- nothing refused it
pub end_ok : (IsBroken Overflows IsLegal IsSame : Type 0) (pending source : ℕ) → (IsBroken → ⊥)
    → ((IsBroken → ⊥) × Overflows → ⊥) → ((IsBroken → ⊥) × IsLegal × (pending ≡ most_pending) → ⊥)
    → ((Overflows → ⊥) → IsLegal) → RefusesEnd IsBroken Overflows IsLegal IsSame pending (Ok source)
end_ok IsBroken Overflows IsLegal IsSame pending source works counts room legal = record {
  broken = (λ e. absurd (cc), λ broken. absurd (works broken));
  count_full = (λ e. absurd (cc), λ full. absurd (counts full));
  pending_full = (λ e. absurd (cc), λ full. absurd (room (full.0, legal full.1, full.2)));
  no_memory = λ e. absurd (cc);
  kinds = tt;
  unchanged = tt;
}

-- it was refused for this fault of a tape
pub end_err : (IsBroken Overflows IsLegal IsSame : Type 0) (pending : ℕ) (fault : TapeFault) (told : StationFault)
    → told ≡ station_fault fault → (fault ≡ BrokenTape) ↔ IsBroken
    → (fault ≡ RefusedNote CountFull) ↔ ((IsBroken → ⊥) × Overflows)
    → (fault ≡ PendingFull) ↔ ((IsBroken → ⊥) × IsLegal × (pending ≡ most_pending))
    → (fault ≡ NoTapeMemory → (IsBroken → ⊥) × IsLegal × (pending < most_pending)) → IsOweFault (station_fault fault)
    → ((Overflows → ⊥) → IsLegal) → (Overflows → IsLegal → ⊥) → IsSame
    → RefusesEnd IsBroken Overflows IsLegal IsSame pending (Err told)
end_err IsBroken Overflows IsLegal IsSame pending fault told tells broken counts room memory kind legal apart same =
    let of : (other : StationFault) → IsErrOf {T = ℕ} (Err told) other → station_fault fault ≡ other =
    λ other e. sym tells ∙ (cc) in
    record {
      broken = (
        λ e. broken.0 (told_broken fault (of Broken e)),
        λ is. ap Err (tells ∙ ap station_fault (broken.1 is)),
      );
      count_full = (
        λ e. counts.0 (told_fault fault (RefusedNote CountFull) (of (TapeRefused (RefusedNote CountFull)) e)),
        λ full. ap Err (tells ∙ ap station_fault (counts.1 full)),
      );
      pending_full = (
        λ e.
            let full = room.0 (told_fault fault PendingFull (of (TapeRefused PendingFull) e)) in
            (full.0, λ over. apart over full.1, full.2),
        λ full. ap Err (tells ∙ ap station_fault (room.1 (full.0, legal full.1, full.2))),
      );
      no_memory = λ e. memory (told_memory fault (of NoMemory e));
      kinds = subst IsOweFault (sym tells) kind;
      unchanged = same;
    }

-- ---- of a station

-- the open source is closed if it is not the last
legal_close : (state : State) → (Overflows state (Closed (state.closed + 1)) → ⊥)
    → IsLegal state (Closed (state.closed + 1))
legal_close state fits = elim (cases_lt (state.closed + 1 + 1) (2 ^ 32)) [
  | inl less ↦ (refl, less)
  | inr more ↦ absurd (fits (refl, λ less. omega (arith, less, more)))
]

module _ {D : Type 0} {g : Ghosts D} where
  pub close_ok : (old new : Station D g) (tape : Tape D g) (source : ℕ)
      → RefusesNoting {B = Note} (closing old) old.tape tape (Ok tt) → RefusesClose old new (Ok source)
  close_ok old new tape source is =
      end_ok (IsBroken old) (Overflows (ledger_of old) (closing old)) (IsLegal (ledger_of old) (closing old))
      (IsSame old new) (pending_of old) source (λ broken. absurd (is.broken.1 broken))
      (λ full. absurd ((is.note CountFull).1 full)) (λ full. absurd (is.pending_full.1 full)) (legal_close
      (ledger_of old))

  pub close_err : (old new : Station D g) (tape : Tape D g) (kept : Note) (fault : TapeFault) (told : StationFault)
      → told ≡ station_fault fault → RefusesNoting {B = Note} (closing old) old.tape tape (Err (kept, fault))
      → IsSame old new → RefusesClose old new (Err told)
  close_err old new tape kept fault told tells is same =
      end_err (IsBroken old) (Overflows (ledger_of old) (closing old)) (IsLegal (ledger_of old) (closing old))
      (IsSame old new) (pending_of old) fault told tells is.broken (is.note CountFull) is.pending_full is.no_memory
      (note_fault (ledger_of old) (closing old) (λ old_source. old_source refl) (λ lacks. lacks) fault is.kinds
      (λ other e. ((is.note other).0 e).1))
      (legal_close (ledger_of old)) (λ over legal. full-legal (ledger_of old) (closing old) over legal) same

-- ---- of a front

fits_close : (shape : Shape) → (OverflowsShape shape (Closed (shape.closed + 1)) → ⊥)
    → FitsShape shape (Closed (shape.closed + 1))
fits_close shape fits = elim (cases_lt (shape.closed + 1 + 1) (2 ^ 32)) [
  | inl less ↦ (refl, less)
  | inr more ↦ absurd (fits (refl, λ less. omega (arith, less, more)))
]

-- why a note was refused
pub record IsRefusal (note : Note) (front : Front) (fault : TapeFault) : Type 0 where
  pub broken : (fault ≡ BrokenTape) ↔ IsBrokenFront front
  pub refused : (cause : LedgerFault) → (fault ≡ RefusedNote cause)
      ↔ ((IsBrokenFront front → ⊥) × RefusesByShape (front_shape front) note cause)
  pub pending_full : (fault ≡ PendingFull)
      ↔ ((IsBrokenFront front → ⊥) × FitsShape (front_shape front) note × (front_pending front ≡ most_pending))
  pub no_memory : fault ≡ NoTapeMemory
      → (IsBrokenFront front → ⊥) × FitsShape (front_shape front) note × (front_pending front < most_pending)
  pub kind : IsNoteFault fault

pub front_err : (old new : Front) (note : Note) (fault : TapeFault) (told : StationFault) → told ≡ station_fault fault
    → note ≡ front_closing old → IsRefusal note old fault → IsSameFront old new → RefusesFrontClose old new (Err told)
front_err old new note fault told tells closes refusal same =
    let shape = front_shape old in
    let closing_note = front_closing old in
    let is : IsRefusal closing_note old fault = subst (λ (n : Note). IsRefusal n old fault) closes refusal in
    end_err (IsBrokenFront old) (OverflowsShape shape closing_note) (FitsShape shape closing_note) (IsSameFront old new)
    (front_pending old) fault told tells is.broken (is.refused CountFull) is.pending_full is.no_memory
    (shape_fault shape closing_note (λ old_source. old_source refl) (λ lacks. lacks) fault is.kind
    (λ other e. ((is.refused other).0 e).1))
    (fits_close shape) (λ over fits. overflows-fits shape closing_note over fits) same

-- and if none was
pub front_ok : (old new : Front) (note : Note) (source : ℕ) → note ≡ front_closing old
    → ((cause : LedgerFault) → (IsBrokenFront old → ⊥) × RefusesByShape (front_shape old) note cause → ⊥)
    → (IsBrokenFront old → ⊥)
    → ((IsBrokenFront old → ⊥) × FitsShape (front_shape old) note × (front_pending old ≡ most_pending) → ⊥)
    → RefusesFrontClose old new (Ok source)
front_ok old new note source closes counts works room =
    end_ok (IsBrokenFront old) (OverflowsShape (front_shape old) (front_closing old))
    (FitsShape (front_shape old) (front_closing old)) (IsSameFront old new) (front_pending old) source works
    (λ full. counts CountFull (full.0, subst (OverflowsShape (front_shape old)) (sym closes) full.1))
    (λ full. room (full.0, subst (FitsShape (front_shape old)) (sym closes) full.1, full.2)) (fits_close
    (front_shape old))
