-- Laws of what a tape has been through, for the proofs of the crates above.
use Rattle.std.proofs.Common.{◌≡◌, ◌⊎◌, ℕ, zero, suc, ◌-◌, ◌≤◌, ◌^◌, Bool, true, false, cond, not, Some, List}
use Rattle.std.proofs.Common.{[], ◌∷◌, ◌++◌, length, take, drop, refl, sym, ap, ◌∙◌, subst, inl, inr, arith}
use Rattle.std.proofs.Common.{append_assoc, append-nil, take-append-drop}
use Rattle.std.specs.Prelude.{◌==◌, Contains, if◌then◌else◌}
use Rattle.std.proofs.lemmas.Bool.{cases_eq, eqb-true, le-ltb, lt-ltb}
use Rattle.std.proofs.Math.Seq.{take-length}
use Rattle.std.specs.List.{AllByRecursion, slice_get}
use Rattle.disk_model.specs.Disk.{Event, Image}
use Rattle.ledger_core.specs.declared.note.Note.{Note}
use Rattle.ledger_core.specs.declared.note.Note.TheVariants.{Owe, Final, Drop, Seen, Closed}
use Rattle.ledger_core.specs.State.{AllLegal, IsNext, Owing, State, after, keys, marks_of, start, step, with_debt}
use Rattle.ledger_core.specs.State.{without}
use Rattle.ledger_core.specs.StateLaws.{AllLegal-back, Put, after-append, next-apart, put}
use Rattle.ledger_core.specs.Written.{IsWhole}
use Rattle.ledger_core.specs.WrittenLaws.{whole-start, whole-step}
use Rattle.recovery.specs.Image.{IsTape, Log}
use Rattle.recovery.specs.Leaving.{EachLedger, HasLedger, IsPrefix, mark_of, pending_notes}
use Rattle.recovery.specs.Notes.{AreLegal, History, begun, flushed, noted_all, recovered}
use Rattle.sections.specs.ListLaws.{all_weaker, contains_first, contains_here, contains_more, contains_put}
use Rattle.sections.specs.ListLaws.{contains_taken, get_below, get_left, get_taken, length_more, take_first}
use Rattle.sections.specs.Sections.{LeftOf, Lost_power, Was_killed, WasLeft}
use Rattle.sections.specs.Tapes.{HasEnd, IsAbove, KeepsLinesOf, OwesOrEnded, PendsAbove, StaysAcknowledged, StillOwes}
use Rattle.sections.specs.Tapes.{TapePast}

-- ---- marks

-- a note that owes does not lower the mark: a line of the funnel is above it, and one of another source leaves it
owe_mark : (state : State) (key : ℕ) (token id : List ℕ) → IsNext (marks_of state) key
    → state.mark ≤ (step state (Owe key token id)).mark
owe_mark state key token id (inl (line, above)) =
    omega (arith, above, ap (λ (b : Bool). if b then key else state.mark) (lt-ltb key (2 ^ 64) line))
owe_mark state key token id (inr (above, below)) =
    let far : 2 ^ 64 ≤ key = omega (arith, above) in
    omega (arith, ap (λ (b : Bool). if b then key else state.mark) (le-ltb key (2 ^ 64) far))

step_mark : (state : State) (note : Note) → AllLegal state (note ∷ []) → state.mark ≤ (step state note).mark
step_mark state (Owe key token id) legal = owe_mark state key token id legal.0.0
step_mark state (Final key code) legal = omega arith
step_mark state (Drop key cause) legal = omega arith
step_mark state (Seen number) legal = omega (arith, legal.0.1)
step_mark state (Closed source) legal = omega arith

-- a mark does not fall
pub after_mark : (state : State) (notes : List Note) → AllLegal state notes → state.mark ≤ (after state notes).mark
after_mark state [] legal = omega arith
after_mark state (note ∷ notes) legal =
    omega (arith, step_mark state note (legal.0, tt), after_mark (step state note) notes legal.1)

-- the mark of a prefix of the notes is at most that of all
pub take_mark : (base : State) (notes : List Note) (count : ℕ) → AllLegal base notes
    → (after base (take count notes)).mark ≤ (after base notes).mark
take_mark base notes count legal =
    let parts : take count notes ++ drop count notes ≡ notes = take-append-drop count notes in
    let all : AllLegal base (take count notes ++ drop count notes) = subst (AllLegal base) (sym parts) legal in
    let back = AllLegal-back base (take count notes) (drop count notes) all in
    let rises = after_mark (after base (take count notes)) (drop count notes) back in
    let whole = after-append base (take count notes) (drop count notes) in
    subst (λ (state : State). (after base (take count notes)).mark ≤ state.mark) (sym whole ∙ ap (after base) parts)
    rises

pub prefix_mark : (h : History) (state : State) → AllLegal h.base h.notes → IsPrefix h state → state.mark ≤ mark_of h
prefix_mark h state legal prefix =
    subst (λ (s : State). s.mark ≤ mark_of h) (sym prefix.is) (take_mark h.base h.notes prefix.count legal)

-- ---- the notes that lines made

-- a note above a mark is above any lower mark
pub above_less : (low high : ℕ) → low ≤ high → (note : Note) → IsAbove high note → IsAbove low note
above_less low high less (Owe key token id) above = omega (arith, less, above)
above_less low high less (Final key code) above = tt
above_less low high less (Drop key cause) above = tt
above_less low high less (Seen number) above = tt
above_less low high less (Closed source) above = tt

pub pends_less : (low high : ℕ) → low ≤ high → (h : History) → PendsAbove high h → PendsAbove low h
pends_less low high less h has =
    all_weaker (IsAbove high) (IsAbove low) (above_less low high less) (pending_notes h) has

-- a prefix of the intake's notes keeps the lines, if all lines up to the intake's mark are acknowledged
pub keeps_lines : {A : Type 0} (history_of : A → History) (intake : History) (all : List A) (state : State)
    → AllLegal intake.base intake.notes
    → AllByRecursion (λ (x : A). PendsAbove (mark_of intake) (history_of x)) all → IsPrefix intake state
    → KeepsLinesOf history_of intake all state
keeps_lines {A} history_of intake all state legal has prefix = record {
  prefix = prefix;
  lines = all_weaker (λ (x : A). PendsAbove (mark_of intake) (history_of x))
      (λ (x : A). PendsAbove state.mark (history_of x))
      (λ x one. pends_less state.mark (mark_of intake) (prefix_mark intake state legal prefix) (history_of x) one) all
      has;
}

-- a prefix of the notes is one of more notes
pub prefix_more : (h : History) (more : List Note) (state : State) → IsPrefix h state
    → IsPrefix (noted_all h more) state
prefix_more h more state prefix =
    let same : take prefix.count (h.notes ++ more) ≡ take prefix.count h.notes =
    take_first prefix.count h.notes more prefix.within in
    record {
      count = prefix.count;
      enough = prefix.enough;
      within = omega (arith, prefix.within, length_more h.notes more);
      legal = subst (AreLegal h.base) (sym same) prefix.legal;
      is = prefix.is ∙ ap (after h.base) (sym same);
    }

-- ---- what was acknowledged stays so

none_less : (n : ℕ) → 0 ≡ 0 - n
none_less n = omega arith

whole_less : (n : ℕ) → n ≡ n - 0
whole_less n = omega arith

both_less : (k n : ℕ) → k - n ≡ suc k - suc n
both_less k n = omega arith

take_less : {A : Type 0} (k : ℕ) (xs ys : List A) → take k (xs ++ ys) ≡ take k xs ++ take (k - length xs) ys
take_less zero xs ys = ap (λ (n : ℕ). take n ys) (none_less (length xs))
take_less (suc k) [] ys = ap (λ (n : ℕ). take n ys) (whole_less (suc k))
take_less (suc k) (x ∷ xs) ys =
    ap (λ l. x ∷ l) (take_less k xs ys ∙ ap (λ (n : ℕ). take k xs ++ take n ys) (both_less k (length xs)))

take_twice : {A : Type 0} (k : ℕ) (xs : List A) → take k (take k xs) ≡ take k xs
take_twice zero xs = refl
take_twice (suc k) [] = refl
take_twice (suc k) (x ∷ xs) = ap (λ l. x ∷ l) (take_twice k xs)

take_up : {A : Type 0} (k n : ℕ) (xs : List A) → k ≤ n → take n xs ≡ take k xs ++ drop k (take n xs)
take_up zero n xs le = refl
take_up (suc k) zero xs le = absurd (omega (arith, le))
take_up (suc k) (suc n) [] le = refl
take_up (suc k) (suc n) (x ∷ xs) le = ap (λ l. x ∷ l) (take_up k n xs (omega (arith, le)))

pub tape_same : (was now : TapePast) → now.history ≡ was.history → StaysAcknowledged was now
tape_same was now same = record {
  base = ap (λ (h : History). h.base) same;
  more = [];
  prefix = ap (λ (h : History). take h.kept h.notes) same
      ∙ sym (append-nil (take was.history.kept was.history.notes));
}

pub tape_noted : (was now : TapePast) (notes : List Note) → now.history ≡ noted_all was.history notes
    → StaysAcknowledged was now
tape_noted was now notes is = record {
  base = ap (λ (h : History). h.base) is;
  more = _;
  prefix = ap (λ (h : History). take h.kept h.notes) is ∙ take_less was.history.kept was.history.notes notes;
}

pub tape_flushed : (was now : TapePast) → now.history ≡ flushed was.history → StaysAcknowledged was now
tape_flushed was now is = record {
  base = ap (λ (h : History). h.base) is;
  more = _;
  prefix = ap (λ (h : History). take h.kept h.notes) is ∙ take-length was.history.notes
      ∙ sym (take-append-drop was.history.kept was.history.notes);
}

pub tape_opened : (was now : TapePast) (count : ℕ) → was.history.kept ≤ count
    → now.history ≡ recovered was.history count → StaysAcknowledged was now
tape_opened was now count enough is = record {
  base = ap (λ (h : History). h.base) is;
  more = _;
  prefix = ap (λ (h : History). take h.kept h.notes) is ∙ take_twice count was.history.notes
      ∙ take_up was.history.kept count was.history.notes enough;
}

pub tape_then : (was mid now : TapePast) → StaysAcknowledged was mid → StaysAcknowledged mid now
    → StaysAcknowledged was now
tape_then was mid now first second = record {
  base = second.base ∙ first.base;
  more = first.more ++ second.more;
  prefix = second.prefix ∙ ap (λ l. l ++ second.more) first.prefix
      ∙ append_assoc (take was.history.kept was.history.notes) first.more second.more;
}

-- ---- debts

-- a debt of another number stays
stays_step : (b : Bool) (e d : Owing) (rest : List Owing) → (d ≡ e → b ≡ false) → Contains (e ∷ []) d
    → Contains (cond (not b) (e ∷ rest) rest) d
stays_step true e d rest apart (zero, below, is) = absurd (let no = apart (sym is) in cc)
stays_step true e d rest apart (suc k, below, is) = absurd (omega (arith, below))
stays_step false e d rest apart (zero, below, is) = (zero, omega arith, is)
stays_step false e d rest apart (suc k, below, is) = absurd (omega (arith, below))

goes_step : (b : Bool) (e d : Owing) (rest : List Owing) → Contains rest d → Contains (cond (not b) (e ∷ rest) rest) d
goes_step true e d rest has = has
goes_step false e d rest has = contains_more rest e d has

stays : (number : ℕ) (debts : List Owing) (d : Owing) → (d.0 ≡ number → ⊥) → Contains debts d
    → Contains (without number debts) d
stays number [] d apart has = has
stays number (e ∷ debts) d apart (zero, below, is) =
    stays_step (e.0 == number) e d (without number debts) (λ same. other (e.0 == number) refl same)
    (zero, omega arith, is)
  where
    other : (b : Bool) → (e.0 == number) ≡ b → d ≡ e → b ≡ false
    other true hit same = absurd (apart (ap (λ (x : Owing). x.0) same ∙ eqb-true e.0 number hit))
    other false miss same = refl
stays number (e ∷ debts) d apart (suc k, below, is) =
    goes_step (e.0 == number) e d (without number debts) (stays number debts d apart (k, omega (arith, below), is))

-- one more debt, whose key may be noted next: what was owed still is, and so is this debt
put_here : (state : State) (key : ℕ) (token id : List ℕ) → IsNext (marks_of state) key → IsWhole state
    → Put state.debts key token id
put_here state key token id next whole =
    put state.debts key token id (next-apart (marks_of state) key (keys state) next whole.debts.past)

put_stays : (debts : List Owing) (key : ℕ) (token id : List ℕ) (d : Owing) → Put debts key token id → Contains debts d
    → Contains (with_debt debts key token id) d
put_stays debts key token id d there has =
    subst (λ (ds : List Owing). Contains ds d) (sym there.is)
    (contains_put there.prefix there.behind (key, (token, id)) d
    (subst (λ (ds : List Owing). Contains ds d) there.was has))

put_owes : (debts : List Owing) (key : ℕ) (token id : List ℕ) → Put debts key token id
    → Contains (with_debt debts key token id) (key, (token, id))
put_owes debts key token id there =
    subst (λ (ds : List Owing). Contains ds (key, (token, id))) (sym there.is)
    (contains_here there.prefix there.behind (key, (token, id)))

-- the notes after the first
legal_behind : (state : State) (note : Note) (notes : List Note) → AreLegal state (note ∷ notes)
    → AreLegal (step state note) notes
legal_behind state note notes are = record {
  whole = whole-step state note are.notes_are.0 are.legal.0 are.whole;
  notes_are = are.notes_are.1;
  legal = are.legal.1;
}

ends_more : (note : Note) (notes : List Note) (number : ℕ) → HasEnd notes number → HasEnd (note ∷ notes) number
ends_more note notes number (inl (code, among)) = inl (code, contains_more notes note (Final number code) among)
ends_more note notes number (inr (cause, among)) = inr (cause, contains_more notes note (Drop number cause) among)

behind : (X : Type 0) (note : Note) (notes : List Note) (number : ℕ) → X ⊎ HasEnd notes number
    → X ⊎ HasEnd (note ∷ notes) number
behind X note notes number (inl owed) = inl owed
behind X note notes number (inr ends) = inr (ends_more note notes number ends)

-- a debt that is owed still is after these notes, or one of them ends it
owed_on : (state : State) (notes : List Note) (number : ℕ) (token id : List ℕ) → AreLegal state notes
    → Contains state.debts (number, (token, id)) → OwesOrEnded notes number token id (after state notes)
owed_on state [] number token id are has = inl has
owed_on state (Owe n t i ∷ notes) number token id are has =
    behind _ (Owe n t i) notes number
    (owed_on (step state (Owe n t i)) notes number token id (legal_behind state (Owe n t i) notes are)
    (put_stays state.debts n t i (number, (token, id)) (put_here state n t i are.legal.0.0 are.whole) has))
owed_on state (Final n code ∷ notes) number token id are has = elim (cases_eq number n) [
  | inl same ↦ inr (inl (
    code,
    subst (λ (m : ℕ). Contains (Final n code ∷ notes) (Final m code)) (sym same)
        (contains_first notes (Final n code)),
  ))
  | inr apart ↦ behind _ (Final n code) notes number
      (owed_on (step state (Final n code)) notes number token id (legal_behind state (Final n code) notes are)
      (stays n state.debts (number, (token, id)) apart has))
]
owed_on state (Drop n cause ∷ notes) number token id are has = elim (cases_eq number n) [
  | inl same ↦ inr (inr (
    cause,
    subst (λ (m : ℕ). Contains (Drop n cause ∷ notes) (Drop m cause)) (sym same)
        (contains_first notes (Drop n cause)),
  ))
  | inr apart ↦ behind _ (Drop n cause) notes number
      (owed_on (step state (Drop n cause)) notes number token id (legal_behind state (Drop n cause) notes are)
      (stays n state.debts (number, (token, id)) apart has))
]
owed_on state (Seen n ∷ notes) number token id are has =
    behind _ (Seen n) notes number
    (owed_on (step state (Seen n)) notes number token id (legal_behind state (Seen n) notes are) has)
owed_on state (Closed source ∷ notes) number token id are has =
    behind _ (Closed source) notes number
    (owed_on (step state (Closed source)) notes number token id (legal_behind state (Closed source) notes are) has)

-- the same of a debt that one of the notes owes
pub owed_by : (state : State) (notes : List Note) (index number : ℕ) (token id : List ℕ) → AreLegal state notes
    → slice_get notes index ≡ Some (Owe number token id) → OwesOrEnded notes number token id (after state notes)
owed_by state [] index number token id are here = absurd cc
owed_by state (note ∷ notes) zero number token id are here =
    let same : note ≡ Owe number token id = cc in
    let all : AreLegal state (Owe number token id ∷ notes) =
    subst (λ (n : Note). AreLegal state (n ∷ notes)) same are in
    subst (λ (n : Note). OwesOrEnded (n ∷ notes) number token id (after state (n ∷ notes))) (sym same)
    (behind _ (Owe number token id) notes number
    (owed_on (step state (Owe number token id)) notes number token id
    (legal_behind state (Owe number token id) notes all)
    (put_owes state.debts number token id (put_here state number token id all.legal.0.0 all.whole))))
owed_by state (note ∷ notes) (suc index) number token id are here =
    behind _ note notes number
    (owed_by (step state note) notes index number token id (legal_behind state note notes are) here)

ends_taken : (count : ℕ) (notes : List Note) (number : ℕ) → HasEnd (take count notes) number → HasEnd notes number
ends_taken count notes number (inl (code, among)) = inl (code, contains_taken count notes (Final number code) among)
ends_taken count notes number (inr (cause, among)) = inr (cause, contains_taken count notes (Drop number cause) among)

-- what is owed after a prefix of the notes, or ended in it, is owed there or has ended
at_prefix : (h : History) (state : State) (prefix : IsPrefix h state) (number : ℕ) (token id : List ℕ)
    → OwesOrEnded (take prefix.count h.notes) number token id (after h.base (take prefix.count h.notes))
    → OwesOrEnded h.notes number token id state
at_prefix h state prefix number token id (inl owed) =
    inl (subst (λ (s : State). Contains s.debts (number, (token, id))) (sym prefix.is) owed)
at_prefix h state prefix number token id (inr ends) = inr (ends_taken prefix.count h.notes number ends)

-- a debt that was acknowledged is still owed, or has ended, if what was acknowledged stays so
pub still_owes : (was now : TapePast) → StaysAcknowledged was now → StillOwes was.history now.history
still_owes was now stays = record {
  owed = λ index number token id here below state prefix.
      let note = Owe number token id in
      let first : slice_get (take now.history.kept now.history.notes) index ≡ Some note =
      subst (λ (notes : List Note). slice_get notes index ≡ Some note) (sym stays.prefix)
      (get_left (take was.history.kept was.history.notes) stays.more index note
      (get_below was.history.kept was.history.notes index note below here)) in
      let there = get_taken now.history.kept now.history.notes index note first in
      let among = get_below prefix.count now.history.notes index note (omega (arith, there.0, prefix.enough))
      there.1 in
      at_prefix now.history state prefix number token id
      (owed_by now.history.base (take prefix.count now.history.notes) index number token id prefix.legal among);
  given = λ number token id has state prefix.
      at_prefix now.history state prefix number token id
      (owed_on now.history.base (take prefix.count now.history.notes) number token id prefix.legal
      (subst (λ (base : State). Contains base.debts (number, (token, id))) (sym stays.base) has));
}

-- ---- empty disks

-- two empty disks are an empty tape
pub nothing_lies : IsTape ([], []) start
nothing_lies = record {
  second = false;
  lives = record {
    one = 0;
    other = 0;
    first_has = inl (tt, refl);
    second_has = inl (tt, refl);
    greater = ((λ is. absurd cc), (λ less. absurd (omega (arith, less))));
  };
  generation = 0;
  payloads = [];
  reads = tt;
  restores = inl (tt, refl, ([], tt, refl, tt, refl));
}

-- and so is whatever a stop leaves of them
pub nothing_left : (P : State → Type 0) → P start → EachLedger P ([], [])
nothing_left P holds one other is is' =
    subst (λ (octets : List ℕ). HasLedger P (octets, other)) (sym is)
    (subst (λ (octets : List ℕ). HasLedger P ([], octets)) (sym is') (start, nothing_lies, holds))

pub no_notes : IsPrefix begun start
no_notes = record {
  count = 0;
  enough = omega arith;
  within = omega arith;
  legal = record { whole = whole-start; notes_are = tt; legal = tt };
  is = refl;
}

-- ---- a stop

-- whatever a stop may leave of a disk after a stop, it might have left before
image_back : (old new : List Event) → LeftOf old new → (c : List ℕ) → Image new c → Image old c
image_back old _ (Lost_power octets is) c at = subst (Image old) (sym at) is
image_back old _ Was_killed c at = at

-- so what held of each ledger that it might have left holds of each that it may leave
pub left_safe : (P : State → Type 0) (old new : Log) → WasLeft old new → EachLedger P old → EachLedger P new
left_safe P old new left each = λ one other is is'.
    each one other (image_back old.0 new.0 left.first one is) (image_back old.1 new.1 left.second other is')
