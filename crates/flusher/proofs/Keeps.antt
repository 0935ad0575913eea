-- What a station's lock keeps is kept by the station's calls.
use Rattle.std.proofs.Common.{◌≡◌, ℕ, ◌+◌, refl, sym, ◌∙◌, subst, arith, length, length-drop}
use Rattle.std.specs.Prelude.{Result, IfOk, ◌≢◌, OnOk, OnErr, Ok, Err, ◌↔◌}
use Rattle.std.proofs.Math.Logic.{∥∥₁_map}
use Rattle.disk_model.specs.declared.Disk.{Ghosts}
use Rattle.ledger_core.specs.declared.note.Note.{Note}
use Rattle.ledger_core.specs.declared.note.Note.TheVariants.{Closed}
use Rattle.recovery.specs.Notes.{History, noted, flushed}
use Rattle.recovery.specs.DiskLaws.{honest-along}
use Rattle.peer_queue.specs.declared.station.Station.{Station}
use Rattle.peer_queue.specs.Words.{AreHonest, IsSame, Notes, StandsFor, ledger_of, tape_of}
use Rattle.peer_queue.specs.declared.fault.StationFault.{StationFault}
use Rattle.peer_queue.specs.declared.fault.StationFault.TheVariants.{Tape as OfTape}
use Rattle.recovery.specs.declared.fault.TapeFault.TheVariants.{Disk, TapeFull}
use Rattle.peer_queue.specs.declared.limits.Owed.{Owed}
use Rattle.peer_queue.specs.declared.limits.Owed.TheVariants.{Already, New}
use Rattle.flusher.specs.Kept.{HasAllOnDisks, IsKept}
use Rattle.flusher.specs.Sealed.{IsFlushed}
use Rattle.note_queue.specs.OwnsLaws.{all_on_disks}

full_or_disk : OfTape TapeFull ≡ OfTape Disk → ⊥
full_or_disk same = cc

module _ {D : Type 0} {g : Ghosts D} where
  noted_kept : (old new : Station D g) (note : Note) → Notes old new note → IsKept old → IsKept new
  noted_kept old new note took kept honest = let k =
      kept (honest-along (tape_of new) (tape_of old) took.disks honest) in (noted k.0 note, took.stands k.0 k.1)

  same_kept : (old new : Station D g) → IsSame old new → IsKept old → IsKept new
  same_kept old new same kept honest = let k = kept (honest-along (tape_of new) (tape_of old) same.disks honest) in
      (k.0, same.stands k.0 k.1)

  pub keeps_noted : (old new : Station D g) (note : Note) → Notes old new note → ∥ IsKept old ∥₁ → ∥ IsKept new ∥₁
  keeps_noted old new note took kept = ∥∥₁_map kept (noted_kept old new note took)

  pub keeps_same : (old new : Station D g) → IsSame old new → ∥ IsKept old ∥₁ → ∥ IsKept new ∥₁
  keeps_same old new same kept = ∥∥₁_map kept (same_kept old new same)

  -- a line was owed, or was before, or was refused
  pub keeps_owed : {E : Type 0} (old new : Station D g) (note : Note) (result : Result Owed E)
      → (result ≡ Ok New → Notes old new note) → (result ≡ Ok Already → new ≡ old) → OnErr result (IsSame old new)
      → ∥ IsKept old ∥₁ → ∥ IsKept new ∥₁
  keeps_owed old new note (Ok New) took same refused kept = keeps_noted old new note (took refl) kept
  keeps_owed old new note (Ok Already) took same refused kept = subst (λ s. ∥ IsKept s ∥₁) (sym (same refl)) kept
  keeps_owed old new note (Err e) took same refused kept = keeps_same old new refused kept

  -- a source was closed, or that was refused
  pub keeps_closed : {E : Type 0} (old new : Station D g) (result : Result ℕ E)
      → IfOk result (λ source. (source ≡ (ledger_of old).closed + 1) × Notes old new (Closed source))
      → OnErr result (IsSame old new) → ∥ IsKept old ∥₁ → ∥ IsKept new ∥₁
  keeps_closed old new (Ok source) took refused kept = keeps_noted old new (Closed source) took.1 kept
  keeps_closed old new (Err e) took refused kept = keeps_same old new refused kept

  -- a flush for which there is no room changes nothing
  pub same_if_full : (old new : Station D g) (fault : StationFault) → (fault ≢ OfTape Disk → IsSame old new)
      → fault ≡ OfTape TapeFull → IsSame old new
  same_if_full old new fault unchanged full = unchanged (λ disk. full_or_disk (sym full ∙ disk))

  flushed_kept : {A E : Type 0} (old new : Station D g) (result : Result A E)
      → (AreHonest old ↔ AreHonest new)
      → ((h : History) → StandsFor old h → OnOk result (StandsFor new (flushed h)))
      → ((h : History) → StandsFor old h → OnErr result (StandsFor new h)) → IsKept old → IsKept new
  flushed_kept old new (Ok a) honest ok err kept is = let k = kept (honest.1 is) in (flushed k.0, ok k.0 k.1)
  flushed_kept old new (Err e) honest ok err kept is = let k = kept (honest.1 is) in (k.0, err k.0 k.1)

  pub keeps_flushed : {A E : Type 0} (old new : Station D g) (result : Result A E)
      → (AreHonest old ↔ AreHonest new)
      → ((h : History) → StandsFor old h → OnOk result (StandsFor new (flushed h)))
      → ((h : History) → StandsFor old h → OnErr result (StandsFor new h)) → ∥ IsKept old ∥₁ → ∥ IsKept new ∥₁
  keeps_flushed old new result honest ok err kept = ∥∥₁_map kept (flushed_kept old new result honest ok err)

  all_kept : (station : Station D g) (h : History) → StandsFor station h → IsFlushed station → h.kept ≡ length h.notes
  all_kept station h stands is =
      omega (
        arith,
        (stands.working is.works).pending_count,
        length-drop h.kept h.notes,
        is.none_pends,
        stands.kept_within,
      )

  -- what a station has noted and flushed is on its disks
  pub kept_flushed : (station : Station D g) → ∥ IsKept station ∥₁ → HasAllOnDisks station
  kept_flushed station kept is honest =
      ∥∥₁_map kept (λ has. let k = has honest in
      all_on_disks (tape_of station) k.0 k.1 (all_kept station k.0 k.1 is))
