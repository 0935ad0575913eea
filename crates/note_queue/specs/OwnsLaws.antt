-- Laws of what is on a tape's disks, for the crates above.
use Rattle.std.proofs.Common.{◌≡◌, ℕ, List, [], ◌∷◌, length, take, refl, sym, ap, ◌∙◌, arith}
use Rattle.disk_model.specs.declared.Disk.{Ghosts}
use Rattle.ledger_core.specs.State.{State, after}
use Rattle.ledger_core.specs.declared.note.Note.{Note}
use Rattle.recovery.specs.Leaving.{EachLedger, IsPrefix}
use Rattle.recovery.specs.LeavingLaws.{prefix_of_survives}
use Rattle.recovery.specs.Notes.{History}
use Rattle.recovery.specs.Tape.{StandsFor}
use Rattle.recovery.specs.Words.{ledger_of, log_of}
use Rattle.recovery.specs.declared.tape.Tape.{Tape}

take_whole : (notes : List Note) → take (length notes) notes ≡ notes
take_whole [] = refl
take_whole (note ∷ notes) = ap (λ (l : List Note). note ∷ l) (take_whole notes)

module _ {D : Type 0} {g : Ghosts D} where
  whole_prefix : (tape : Tape D g) (h : History) → StandsFor tape h → h.kept ≡ length h.notes → (state : State)
      → IsPrefix h state → state ≡ ledger_of tape
  whole_prefix tape h stands all state prefix =
      let whole : prefix.count ≡ length h.notes = omega (arith, prefix.enough, prefix.within, all) in
      prefix.is
      ∙ (ap (λ (n : ℕ). after h.base (take n h.notes)) whole
      ∙ (ap (after h.base) (take_whole h.notes) ∙ sym stands.ledger))

  -- all notes of its history are acknowledged: whatever a stop leaves now is a tape of its ledger
  pub all_on_disks : (tape : Tape D g) (h : History) → StandsFor tape h → h.kept ≡ length h.notes
      → EachLedger (λ state. state ≡ ledger_of tape) (log_of tape)
  all_on_disks tape h stands all = λ one other is is'.
      let has = prefix_of_survives h (one, other) (stands.images one other is is') in
      (has.0, has.1, whole_prefix tape h stands all has.0 has.2)
