-- What the calls of a side come to.
use Rattle.std.proofs.Common.{◌≡◌, ◌≢◌, ℕ, List, [], ◌∷◌, ◌++◌}
use Rattle.std.proofs.Common.{map, refl, sym, ap, ◌∙◌, subst, arith, append_assoc}
use Rattle.std.specs.Prelude.{Result, Ok, Err, IfErr, OnOk}
use Rattle.crossbeam_queue.specs.Passes.{view}
use Rattle.disk_model.specs.declared.Disk.{Ghosts}
use Rattle.ledger_core.specs.declared.note.Note.{Note}
use Rattle.note_queue.specs.Calls.{IsNotCalled}
use Rattle.note_queue.specs.Ends.{IsSameEnd, PutsMore, put_by}
use Rattle.note_queue.specs.Owns.{kept_list, put_on}
use Rattle.note_queue.specs.Words.{kept_of, taking, tape_of}
use Rattle.note_queue.specs.declared.side.Side.{Side}
use Rattle.recovery.specs.Flushes.{Flushes, RefusesFlush}
use Rattle.recovery.specs.Leaving.{broken_of}
use Rattle.recovery.specs.Notes.{History}
use Rattle.recovery.specs.Rotates.{RefusesRotation, Rotates}
use Rattle.recovery.specs.Tape.{IsRead}
use Rattle.recovery.specs.Words.{faults_of}
use Rattle.recovery.specs.declared.fault.TapeFault.{TapeFault}
use Rattle.recovery.specs.declared.fault.TapeFault.TheVariants.{Disk}
use Rattle.recovery.specs.declared.flushed.Flushed.{Flushed}
use Rattle.recovery.specs.declared.tape.Tape.{Tape}
use Rattle.sections.specs.Post.{StationPast}
use Rattle.sections.specs.Sections.Call.{Reads}
use Rattle.sections.specs.Sections.Section.{Calls, Pulls}
use Rattle.section_steps.proofs.AtSides.{cancel, does_call, does_pull}
use Rattle.section_steps.proofs.Tapes.{puts_tape, reads_tape, same_bool}
use Rattle.section_steps.specs.Ends.{EndStands, side_seen}
use Rattle.section_steps.specs.Steps.{SideDoes}
use Rattle.section_steps.specs.TapeSteps.{PutsAll, RefusesPut, call_of}

module _ {D : Type 0} {g : Ghosts D} where
  -- a tape that nothing happened to was read, in a way
  reads_itself : (tape : Tape D g) → IsRead tape tape
  reads_itself tape = record {
    stands = λ h is. is;
    ledger = refl;
    pending = refl;
    second = refl;
    generation = refl;
    other = refl;
    end = refl;
    log = λ honest. refl;
    works = ((λ is. is), λ is. is);
    continues = record {
      honest = ((λ is. is), λ is. is);
      first = omega arith;
      second = omega arith;
      place = refl;
    };
  }

  reads_same : (old new : Tape D g) → new ≡ old → IsRead old new
  reads_same old new same = subst (λ (t : Tape D g). IsRead old t) (sym same) (reads_itself old)

  unchanged_read : {T : Type 0} (old new : Tape D g) (result : Result T TapeFault)
      → IfErr result (λ e. e ≢ Disk → new ≡ old) → IfErr result (λ e. e ≢ Disk → IsRead old new)
  unchanged_read old new (Ok answer) same = tt
  unchanged_read old new (Err fault) same = λ other. reads_same old new (same other)

  -- ---- what the records of a tape's own calls say

  pub flush_puts : (h : History) (old new : Tape D g) (result : Result Flushed TapeFault)
      → Flushes Disk h old new result → PutsAll h old new result
  flush_puts h old new result is =
      record { ok = is.ok; stays = is.stays; moments = is.moments; cause = is.cause }

  pub flush_refuses : (old new : Tape D g) (result : Result Flushed TapeFault) → RefusesFlush old new result
      → OnOk result (faults_of new ≡ faults_of old) → RefusesPut old new result
  flush_refuses old new result is quiet = record {
    broken = is.broken;
    unchanged = unchanged_read old new result is.unchanged;
    breaks = is.breaks;
    works = is.works;
    quiet = quiet;
  }

  pub rotation_puts : (h : History) (old new : Tape D g) (result : Result ℕ TapeFault)
      → Rotates Disk h old new result → PutsAll h old new result
  rotation_puts h old new result is =
      record { ok = is.ok; stays = is.stays; moments = is.moments; cause = is.cause }

  pub rotation_refuses : {T : Type 0} (old new : Tape D g) (result : Result T TapeFault)
      → RefusesRotation old new result
      → OnOk result (faults_of new ≡ faults_of old) → RefusesPut old new result
  rotation_refuses old new result is quiet = record {
    broken = is.broken;
    unchanged = is.unchanged;
    breaks = is.breaks;
    works = is.works;
    quiet = quiet;
  }

  -- ---- at a side

  same_put : (old new : Side D g) → IsSameEnd old new → put_by new ≡ put_by old
  same_put old new same = (λ i. put_on (view (same.pass i)).got (same.kept i))

  module _ (before : List Note) (last rank : ℕ) (was : StationPast) (old new : Side D g) (items : List Note)
      (stands : EndStands before old items was) (same : IsSameEnd old new) where
    pub side_reads : IsRead (tape_of old) (tape_of new)
        → SideDoes before last rank was (Calls rank Reads ∷ []) (side_seen new) items
    side_reads reads =
        does_call before last rank was (side_seen old) (side_seen new) items stands Reads
        (reads_tape was.tape (tape_of old) (tape_of new) stands.tape reads) (same_put old new same)
        (ap kept_list same.kept)

    pub side_puts : {T : Type 0} (result : Result T TapeFault)
        → PutsAll was.tape.history (tape_of old) (tape_of new) result
        → RefusesPut (tape_of old) (tape_of new) result
        → SideDoes before last rank was (Calls rank (call_of result) ∷ []) (side_seen new) items
    side_puts result puts refuses =
        does_call before last rank was (side_seen old) (side_seen new) items stands (call_of result)
        (puts_tape was.tape (tape_of old) (tape_of new) stands.tape result puts refuses) (same_put old new same)
        (ap kept_list same.kept)

  -- ---- notes are pulled

  module _ (before : List Note) (last rank : ℕ) (was : StationPast) (old new : Side D g) (items left : List Note)
      (stands : EndStands before old items was) where
    -- what was popped were the first notes of the queue, so what is not on the tape is in order
    in_order : (puts : PutsMore old new) → (view (taking old)).got ++ items ≡ (view (taking new)).got ++ left
        → kept_list (kept_of old) ++ items ≡ puts.more ++ (kept_list (kept_of new) ++ left)
    in_order puts order =
        let kept = kept_list (kept_of old) in
        let kept' = kept_list (kept_of new) in
        cancel (put_by old) (kept ++ items) (puts.more ++ (kept' ++ left))
        (sym (append_assoc (put_by old) kept items)
        ∙ (ap (λ (l : List Note). l ++ items) (sym old.last)
        ∙ (order
        ∙ (ap (λ (l : List Note). l ++ left) new.last
        ∙ (append_assoc (put_by new) kept' left
        ∙ (ap (λ (l : List Note). l ++ (kept' ++ left)) puts.put
        ∙ append_assoc (put_by old) puts.more (kept' ++ left)))))))

    pub side_pulls : (puts : PutsMore old new) → IsNotCalled (tape_of old) (tape_of new)
        → (view (taking old)).got ++ items ≡ (view (taking new)).got ++ left
        → SideDoes before last rank was (map (λ (note : Note). Pulls rank) puts.more) (side_seen new) left
    side_pulls puts keeps order =
        does_pull before last rank was (side_seen old) (side_seen new) items left stands puts.more
        puts.worked puts.put (in_order puts order) (puts.stands was.tape.history stands.tape.stands) keeps.disks
        (same_bool (broken_of (tape_of old)) (broken_of (tape_of new)) keeps.works.0 keeps.works.1)
