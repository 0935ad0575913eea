-- A side puts more notes on its tape, and then on the disks.
use Rattle.std.proofs.Common.{◌≡◌, ℕ, List, [], ◌∷◌, ◌++◌, Option, Some, None, refl, sym, ap, ◌∙◌, subst, append_assoc}
use Rattle.std.specs.Prelude.{◌≢◌, Result, Ok, Err, IfOk, OnErr, OnOk}
use Rattle.crossbeam_queue.specs.Passes.{Pass, view}
use Rattle.disk_model.specs.declared.Disk.{Ghosts}
use Rattle.ledger_core.specs.declared.note.Note.{Note}
use Rattle.recovery.specs.DiskLaws.{honest-along}
use Rattle.recovery.specs.Flushes.{HasFlushed}
use Rattle.recovery.specs.Notes.{History, flushed, noted_all}
use Rattle.recovery.specs.Takes.{Takes}
use Rattle.recovery.specs.Tape.{StandsFor}
use Rattle.recovery.specs.Words.{AreHonest, IsBroken, flushed_of}
use Rattle.recovery.specs.declared.flushed.Flushed.{Flushed}
use Rattle.recovery.specs.declared.tape.Tape.{Tape}
use Rattle.note_queue.proofs.Owning.{append_none, but_last, count_flushed, count_stays, whole_flushed}
use Rattle.note_queue.specs.Calls.{IsNotCalled, TakesMore}
use Rattle.note_queue.specs.Ends.{IsOnDisks, PutsMore, put_by}
use Rattle.note_queue.specs.Owns.{IsOwner, put_on}
use Rattle.note_queue.specs.declared.rule.PassLog.{PassLog}
use Rattle.note_queue.specs.declared.side.Side.{Side}

not_none : (note : Note) (notes : List Note) → note ∷ notes ≢ []
not_none note notes none = cc

-- a tape that took one of these notes, or of the others, worked before
some_worked : {A B : Type 0} → (one other : List Note) → (A → B) → (one ≢ [] → A → ⊥) → (other ≢ [] → B → ⊥)
    → one ++ other ≢ [] → A → ⊥
some_worked [] other along first then some broken = then some (along broken)
some_worked (note ∷ one) other along first then some broken = first (not_none note one) broken

module _ {D : Type 0} {g : Ghosts D} where
  -- what was put on the tape is more than before, and the tape stands for each history with these notes after it
  abbrev pub PutsOn : Tape D g → Tape D g → List Note → List Note → Type 0
  PutsOn old new before after =
      (more : List Note) × (after ≡ before ++ more)
      × ((h : History) → StandsFor old h → StandsFor new (noted_all h more)) × (more ≢ [] → IsBroken old → ⊥)

  -- nothing was put on it
  pub puts_none : (old new : Tape D g) (notes : List Note) → ((h : History) → StandsFor old h → StandsFor new h)
      → PutsOn old new notes notes
  puts_none old new notes stands = (
    [],
    sym (append_none notes),
    λ h is. subst (λ (l : List Note). StandsFor new (record h { notes = l })) (sym (append_none h.notes)) (stands h is),
    λ some broken. some refl,
  )

  -- one note was put on it, or refused and kept
  pub puts_note : {E : Type 0} (old new : Tape D g) (notes : List Note) (note : Note) (kept : Option Note)
      (result : Result (Unit {0}) E) → ((h : History) → StandsFor old h → Takes (note ∷ []) h new result)
      → OnOk result (kept ≡ None) → OnOk result (IsBroken old → ⊥) → OnErr result (kept ≡ Some note)
      → PutsOn old new notes (put_on (notes ++ note ∷ []) kept)
  puts_note old new notes note kept (Ok a) takes none works some = (
    note ∷ [],
    ap (λ k. put_on (notes ++ note ∷ []) k) none,
    λ h is. (takes h is).ok,
    λ one. works,
  )
  puts_note old new notes note kept (Err e) takes none works some =
      let nothing = puts_none old new notes (λ h is. (takes h is).stays) in (
        nothing.0,
        ap (λ k. put_on (notes ++ note ∷ []) k) some ∙ (but_last notes note ∙ nothing.1),
        nothing.2,
        nothing.3,
      )

  -- a side put a note on its tape that came after all others, or kept it
  pub puts_one : {E : Type 0} (old new : Side D g) (note : Note) (result : Result (Unit {0}) E)
      → ((h : History) → StandsFor old.tape h → Takes (note ∷ []) h new.tape result)
      → OnOk result (new.kept ≡ None) → OnOk result (IsBroken old.tape → ⊥) → OnErr result (new.kept ≡ Some note)
      → (view new.pass).got ≡ put_by old ++ note ∷ [] → new.since ≡ old.since → PutsMore old new
  puts_one old new note result takes none works some got since =
      let p = puts_note old.tape new.tape (put_by old) note new.kept result takes none works some in
      record {
        more = p.0;
        put = ap (λ l. put_on l new.kept) got ∙ p.1;
        stands = p.2;
        worked = p.3;
        since = since;
        flushed = count_stays old.tape new.tape (view old.pass).got_on old.since (put_by old) p.0 p.2 old.owner;
      }

  -- first some, and then others
  pub puts_then : (old mid new : Side D g) → IsNotCalled old.tape mid.tape → PutsMore old mid → PutsMore mid new
      → PutsMore old new
  puts_then old mid new still one other =
      record {
        more = one.more ++ other.more;
        put = other.put ∙ (ap (λ l. l ++ other.more) one.put ∙ append_assoc _ one.more other.more);
        stands = λ h is. subst (λ (l : List Note). StandsFor new.tape (record h { notes = l }))
            (append_assoc h.notes one.more other.more)
            (other.stands (noted_all h one.more) (one.stands h is));
        worked = some_worked one.more other.more still.works.0 one.worked other.worked;
        since = other.since ∙ one.since;
        flushed = λ honest.
            other.flushed (honest-along old.tape mid.tape (sym still.disks) honest) ∙ one.flushed honest;
      }

  -- what was put on a tape that was flushed is on its disks, and counted
  pub put_on_disks : (old : Tape D g) (side : Side D g) (count : ℕ) → (AreHonest side.tape → AreHonest old)
      → ((h : History) → StandsFor old h → StandsFor side.tape (flushed h))
      → ∥ IsOwner old (view side.pass).got_on side.since (put_by side) ∥₁ → count ≡ flushed_of side.tape
      → IsOnDisks side count
  put_on_disks old side count back ok owner is =
      let base = (view side.pass).got_on in
      record {
        counted = λ honest. is ∙ count_flushed old side.tape base side.since (put_by side) back ok owner honest;
        all = whole_flushed old side.tape base side.since (put_by side) back ok owner;
      }

  -- as a flush says
  pub flush_on_disks : {E : Type 0} (old : Tape D g) (side : Side D g) (place : Option ℕ) (result : Result Flushed E)
      → (AreHonest side.tape → AreHonest old)
      → ((h : History) → StandsFor old h → OnOk result (StandsFor side.tape (flushed h)))
      → ∥ IsOwner old (view side.pass).got_on side.since (put_by side) ∥₁
      → IfOk result (HasFlushed place old side.tape) → IfOk result (λ answer. IsOnDisks side answer.count)
  flush_on_disks old side place (Ok answer) back ok owner has =
      put_on_disks old side answer.count back ok owner has.count
  flush_on_disks old side place (Err fault) back ok owner has = tt

  -- and a rotation
  pub rotate_on_disks : {A E : Type 0} (old : Tape D g) (side : Side D g) (result : Result A E)
      → (AreHonest side.tape → AreHonest old)
      → ((h : History) → StandsFor old h → OnOk result (StandsFor side.tape (flushed h)))
      → ∥ IsOwner old (view side.pass).got_on side.since (put_by side) ∥₁
      → OnOk result (IsOnDisks side (flushed_of side.tape))
  rotate_on_disks old side (Ok value) back ok owner = put_on_disks old side (flushed_of side.tape) back ok owner refl
  rotate_on_disks old side (Err fault) back ok owner = tt

-- a pass took some, and then others
pub takes_then : (old mid new : Pass Note PassLog) → TakesMore old mid → TakesMore mid new → TakesMore old new
takes_then old mid new one other =
    record {
      queue = (
        other.queue.0 ∙ one.queue.0,
        other.queue.1 ∙ one.queue.1,
        other.queue.2 ∙ one.queue.2,
      );
      base = other.base ∙ one.base;
      more = one.more ++ other.more;
      got = other.got ∙ (ap (λ l. l ++ other.more) one.got ∙ append_assoc _ one.more other.more);
    }
