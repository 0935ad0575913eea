-- A number that is refused on the intake's tape.
use Rattle.std.proofs.Common.{◌≡◌, ℕ, subst, inl}
use Rattle.std.specs.Prelude.{Err, IsErrOf}
use Rattle.disk_model.specs.declared.Disk.{Ghosts}
use Rattle.flusher.specs.Sees.{Sees, seeing, seen_notes}
use Rattle.recovery.specs.Image.{Log, Survives, TapeLeaves}
use Rattle.recovery.specs.LeavingLaws.{same_disks}
use Rattle.recovery.specs.Notes.{History}
use Rattle.recovery.specs.Pairs.LeavesPair.{at_start}
use Rattle.recovery.specs.Tape.{StandsFor}
use Rattle.recovery.specs.TapeLaws.{Survives-noted_all}
use Rattle.recovery.specs.Words.{IsNoteFault, disks_of, ledger_of, log_of}
use Rattle.recovery.specs.declared.fault.TapeFault.{TapeFault}
use Rattle.recovery.specs.declared.fault.TapeFault.TheVariants.{Disk}
use Rattle.recovery.specs.declared.tape.Tape.{Tape}

no_disk : (fault : TapeFault) → IsNoteFault fault → fault ≡ Disk → ⊥
no_disk fault is same = subst IsNoteFault same is

fault_is : {T : Type 0} (fault other : TapeFault) → IsErrOf {T = T} (Err fault) other → fault ≡ other
fault_is fault other is = cc

-- it was refused to note it, and no disk was called
pub sees_refused : {D T : Type 0} {g : Ghosts D} (number : ℕ) (h : History) (old new : Tape D g) (fault : TapeFault)
    → disks_of new ≡ disks_of old → StandsFor new h → IsNoteFault fault
    → Sees {T = T} number h old new (Err fault)
sees_refused number h old new fault disks stands kind = record {
  ok = tt;
  stays = inl stands;
  moments = subst (λ (l : Log). TapeLeaves (Survives (seeing number old h)) l (log_of new))
      (same_disks new old disks).0
      (at_start (λ one other is is'. Survives-noted_all h (seen_notes (ledger_of old).mark number) (one, other)
      (stands.images one other is is')));
  cause = λ disk. absurd (no_disk fault kind (fault_is fault Disk disk));
}
