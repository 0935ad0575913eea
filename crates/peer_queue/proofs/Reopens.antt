-- What a tape stands for that was opened again once all of its notes were acknowledged.
use Rattle.std.proofs.Common.{◌≡◌, ◌≤◌, ℕ, length, take, sym, ap, ◌∙◌, subst, arith}
use Rattle.std.proofs.lemmas.List.{take_all}
use Rattle.disk_model.specs.declared.Disk.{Ghosts}
use Rattle.ledger_core.specs.State.{after}
use Rattle.recovery.specs.declared.tape.Tape.{Tape}
use Rattle.recovery.specs.Image.{EachTape, Log, Octets, Survives, TapeLeaves}
use Rattle.recovery.specs.Notes.{History, flushed, recovered}
use Rattle.recovery.specs.PairLaws.{pairs-now}
use Rattle.recovery.specs.Tape.{Recovers, StandsFor}
use Rattle.recovery.specs.Words.{ledger_of}

-- a tape of a front with every note, once all are acknowledged, is one with those that were before
pub Survives-flushed : (h : History) (octets : Octets) → h.kept ≤ length h.notes → Survives (flushed h) octets → Survives h octets
Survives-flushed h octets within is = record {
  count = is.count;
  enough = omega (arith, within, is.enough);
  within =
      is.within;
  legal = is.legal;
  tape = is.tape;
}

-- it holds now, if it held at each moment
pub survives_now : (h : History) (old new : Log) → h.kept ≤ length h.notes → TapeLeaves (Survives (flushed h)) old new → EachTape (Survives h) new
survives_now h old new within moments = λ one other is is'.
    Survives-flushed h (one, other) within (pairs-now (Survives (flushed h)) old new moments one other is is')

module _ {D : Type 0} {g : Ghosts D} where
  -- a front that holds each acknowledged note is all of them
  pub stands_whole : (h : History) (old : Log) (tape : Tape D g) → Recovers (flushed h) old tape → StandsFor tape
      (recovered h (length h.notes))
  stands_whole h old tape is =
      let whole : is.count ≡ length h.notes = omega (arith, is.enough, is.within) in
      subst (λ (count : ℕ). StandsFor tape (recovered h count)) whole is.stands

  -- the ledger is the notes' alone
  pub same_ledger : (h : History) (one other : Tape D g) → StandsFor one (recovered h (length h.notes)) → StandsFor
      other h → ledger_of one ≡ ledger_of other
  same_ledger h one other first second =
      let all : take (length h.notes) h.notes ≡ h.notes = take_all (length h.notes) h.notes (omega arith) in
      first.ledger ∙ (ap (after h.base) all ∙ sym second.ledger)
