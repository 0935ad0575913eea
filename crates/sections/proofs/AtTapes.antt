-- What each call, a stop and an opening make of a tape.
use Rattle.std.proofs.Common.{◌≡◌, ◌≤◌, Bool, [], ◌∷◌, length}
use Rattle.std.proofs.Common.{refl, sym, ap, subst, inl, inr, arith}
use Rattle.ledger_core.specs.declared.note.Note.{Note}
use Rattle.ledger_core.specs.State.{State}
use Rattle.recovery.specs.Image.{Log}
use Rattle.recovery.specs.Leaving.{EachLedger, HasLedger, IsPrefix, LedgersLeave}
use Rattle.recovery.specs.LeavingLaws.{EachLedger-weaker, LedgersLeave-weaker}
use Rattle.recovery.specs.Notes.{History, flushed, noted, recovered}
use Rattle.recovery.specs.PairLaws.{pairs-now}
use Rattle.recovery.specs.Pairs.LeavesPair.{at_start}
use Rattle.sections.specs.Laws.{LeavesOver}
use Rattle.sections.specs.ListLaws.{length_more, length_taken}
use Rattle.sections.specs.Sections.{Call, IsReopened, IsStopped, OfTape}
use Rattle.sections.specs.Sections.OfTape.{Is_cut, Is_put, Is_read, Is_tried}
use Rattle.sections.specs.TapeLaws.{left_safe, prefix_more, tape_flushed, tape_noted, tape_opened, tape_same}
use Rattle.sections.specs.Tapes.{StaysAcknowledged, TapePast}

abbrev pub IsWithin : TapePast → Type 0
IsWithin tape = tape.history.kept ≤ length tape.history.notes

abbrev pub IsSafeTape : TapePast → Type 0
IsSafeTape tape = EachLedger (IsPrefix tape.history) tape.log

-- what a section keeps of a tape
pub record KeepsTape (was now : TapePast) : Type 0 where
  pub kept : was.history.kept ≤ now.history.kept
  pub within : IsWithin now
  pub stays : StaysAcknowledged was now
  pub safe : IsSafeTape was → IsSafeTape now
  pub moments : IsSafeTape was → LeavesOver (IsPrefix was.history) was.log now.log

-- its notes and what they began from are the same, too
pub record KeepsNotesOf (was now : TapePast) : Type 0 where
  pub base : now.history.base ≡ was.history.base
  pub notes : now.history.notes ≡ was.history.notes
  pub keeps : KeepsTape was now

-- a weaker claim at each moment
pub over_weaker : (P Q : State → Type 0) → ((state : State) → P state → Q state) → (old new : Log)
    → LeavesOver P old new → LeavesOver Q old new
over_weaker P Q weaker old new (inl leaves) = inl (LedgersLeave-weaker P Q weaker old new leaves)
over_weaker P Q weaker old new (inr (each, left)) = inr (EachLedger-weaker P Q weaker old each, left)

-- ---- the same notes, and as many of them acknowledged

same_history : (was now : TapePast) → now.history ≡ was.history → IsWithin was
    → (IsSafeTape was → EachLedger (IsPrefix was.history) now.log)
    → (IsSafeTape was → LeavesOver (IsPrefix was.history) was.log now.log) → KeepsNotesOf was now
same_history was now same within left moments = record {
  base = ap (λ (h : History). h.base) same;
  notes = ap (λ (h : History). h.notes) same;
  keeps = record {
    kept = omega (arith, ap (λ (h : History). h.kept) same);
    within = subst (λ (h : History). h.kept ≤ length h.notes) (sym same) within;
    stays = tape_same was now same;
    safe = λ safe. subst (λ (h : History). EachLedger (IsPrefix h) now.log) (sym same) (left safe);
    moments = moments;
  };
}

-- what a stop leaves at each moment of a call is safe
called_so : (was now : TapePast) → now.history ≡ was.history → IsWithin was
    → (IsSafeTape was → LedgersLeave (IsPrefix was.history) was.log now.log) → KeepsNotesOf was now
called_so was now same within moments =
    same_history was now same within
    (λ safe. pairs-now (HasLedger (IsPrefix was.history)) was.log now.log (moments safe)) (λ safe. inl (moments safe))

history_of : (was now : TapePast) → was ≡ now → was.history ≡ now.history
history_of was now same = ap (λ (t : TapePast). t.history) same

-- nothing has happened to its disks
pub same_tape : (tape : TapePast) → IsWithin tape → KeepsTape tape tape
same_tape tape within = (called_so tape tape refl within (λ safe. at_start safe)).keeps

pub call_keeps : (was : TapePast) (runs : Bool) (call : Call) (now : TapePast) → IsWithin was → OfTape was runs call now
    → KeepsNotesOf was now
call_keeps was _ _ _ within (Is_put now put) =
    let is : now.history ≡ flushed was.history = history_of now _ put.all in
    record {
      base = ap (λ (h : History). h.base) is;
      notes = ap (λ (h : History). h.notes) is;
      keeps = record {
        kept = omega (arith, ap (λ (h : History). h.kept) is, within);
        within = subst (λ (h : History). h.kept ≤ length h.notes) (sym is) (omega arith);
        stays = tape_flushed was now is;
        safe = λ safe. put.left;
        moments = λ safe. inl put.moments;
      };
    }
call_keeps was _ _ _ within (Is_cut now cut) =
    called_so was now (history_of now _ cut.all) within (λ safe. cut.moments)
call_keeps was _ _ _ within (Is_read now read) =
    called_so was now (history_of now _ read.all) within
    (λ safe. subst (λ (log : Log). LedgersLeave (IsPrefix was.history) was.log log)
    (sym (ap (λ (t : TapePast). t.log) read.all)) (at_start safe))
call_keeps was _ _ _ within (Is_tried now tried) =
    called_so was now (history_of now _ tried.all) within (λ safe. tried.moments)

-- ---- one more note

pub noted_keeps : (was : TapePast) (note : Note) → IsWithin was
    → KeepsTape was (record was { history = noted was.history note })
noted_keeps was note within = record {
  kept = omega arith;
  within = omega (arith, within, length_more was.history.notes (note ∷ []));
  stays = tape_noted was _ (note ∷ []) refl;
  safe = λ safe. EachLedger-weaker (IsPrefix was.history) (IsPrefix (noted was.history note))
      (prefix_more was.history (note ∷ [])) was.log safe;
  moments = λ safe. inl (at_start safe);
}

-- ---- a stop, and an opening

pub stopped_keeps : (was now : TapePast) → IsWithin was → IsStopped was now → KeepsNotesOf was now
stopped_keeps was now within stops =
    same_history was now (history_of now _ stops.all) within
    (λ safe. left_safe (IsPrefix was.history) was.log now.log stops.left safe) (λ safe. inr (safe, stops.left))

pub opened_history : (was now : TapePast) (opens : IsReopened was now)
    → now.history ≡ recovered was.history opens.prefix.count
opened_history was now opens = history_of now _ opens.all

-- all that it has is acknowledged
pub opened_kept : (was now : TapePast) → IsReopened was now → now.history.kept ≡ length now.history.notes
opened_kept was now opens =
    subst (λ (h : History). h.kept ≡ length h.notes) (sym (opened_history was now opens))
    (sym (length_taken opens.prefix.count was.history.notes opens.prefix.within))

pub opened_keeps : (was now : TapePast) → IsReopened was now → KeepsTape was now
opened_keeps was now opens =
    let is = opened_history was now opens in
    record {
      kept = omega (arith, ap (λ (h : History). h.kept) is, opens.prefix.enough);
      within = omega (arith, opened_kept was now opens);
      stays = tape_opened was now opens.prefix.count opens.prefix.enough is;
      safe = λ safe. opens.left;
      moments = λ safe. inl opens.moments;
    }
