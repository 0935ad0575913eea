-- Why a tape refuses a note.
use Rattle.std.proofs.Common.{refl, sym, subst, ◌∙◌}
use Rattle.std.specs.Prelude.{Err, ◌↔◌}
use Rattle.disk_model.specs.declared.Disk.{Ghosts}
use Rattle.ledger_core.specs.declared.note.Note.{Note}
use Rattle.ledger_core.specs.State.{IsLegal}
use Rattle.recovery.specs.Takes.{RefusesNoting}
use Rattle.recovery.specs.Words.{IsBroken, RefusesNote}
use Rattle.recovery.specs.declared.fault.TapeFault.{TapeFault}
use Rattle.recovery.specs.declared.fault.TapeFault.TheVariants.{Broken, Damaged, Disk, GenerationFull, NoMemory}
use Rattle.recovery.specs.declared.fault.TapeFault.TheVariants.{PendingFull, TapeFull, Note as RefusedNote}
use Rattle.recovery.specs.declared.tape.Tape.{Tape}
use Rattle.std.proofs.Common.{ℕ, ◌<◌}
use Rattle.recovery.specs.Notes.{most_pending}
use Rattle.note_queue.specs.Calls.{IsRefusedFor}

-- the tape, which a refusal left as it was, refuses the note still
pub refused_for : {D : Type 0} {g : Ghosts D} (old new : Tape D g) (note returned : Note) (fault : TapeFault)
    → RefusesNoting note old new (Err (returned, fault)) → (IsBroken old ↔ IsBroken new) → IsRefusedFor new note fault
refused_for old new note returned Broken r same = same.0 (r.broken.0 refl)
refused_for old new note returned (RefusedNote fault) r same =
    let why = (r.note fault).0 refl in
    ((λ b. why.0 (same.1 b)), subst (λ s. RefusesNote s note fault) (sym r.unchanged.ledger) why.1)
refused_for old new note returned PendingFull r same =
    let why = r.pending_full.0 refl in (
      (λ b. why.0 (same.1 b)),
      subst (λ s. IsLegal s note) (sym r.unchanged.ledger) why.1,
      r.unchanged.count ∙ why.2,
    )
refused_for old new note returned NoMemory r same =
    let why = r.no_memory refl in (
      (λ b. why.0 (same.1 b)),
      subst (λ s. IsLegal s note) (sym r.unchanged.ledger) why.1,
      subst (λ (n : ℕ). n < most_pending) (sym r.unchanged.count) why.2,
    )
refused_for old new note returned (Damaged segment at) r same = absurd r.kinds
refused_for old new note returned Disk r same = absurd r.kinds
refused_for old new note returned TapeFull r same = absurd r.kinds
refused_for old new note returned GenerationFull r same = absurd r.kinds
