-- A ledger is restored from what it writes of itself, and goes on from there.
use Rattle.std.specs.Prelude.{◌≡◌, ◌==◌, ℕ, zero, suc, ◌+◌, ◌<◌, ◌≤◌, ◌^◌, Bool, true, false, cond}
use Rattle.std.specs.Prelude.{not, List, [], ◌∷◌, ◌++◌, length, drop, filter, refl}
use Rattle.std.proofs.Common.{inl, inr, sym, ◌∙◌, ap, subst, arith, get_or, add-one, length-take}
use Rattle.std.proofs.lemmas.Bool.{cases_lt, lt-ltb, le-ltb}
use Rattle.std.proofs.lemmas.Bool.Decides.{nat_tests}
use Rattle.std.specs.Prelude.{if◌then◌else◌}
use Rattle.std.proofs.lemmas.List.{drop_all, drop-append-le, get_or_default, take_all}
use Rattle.std.proofs.lemmas.List.{take-append-le}
use Rattle.std.proofs.lemmas.List.Elements.{All-weaker}
use Rattle.std.proofs.lemmas.List.Filters.{sum_by-filter_both}
use Rattle.std.proofs.lemmas.List.Kept.{IsStrictlyIncreasing-filter}
use Rattle.std.specs.List.{All, Contains}
use Rattle.std.specs.List.Sorted.{IsStrictlyIncreasing}
use Rattle.ledger_core.specs.declared.note.Note.{Note}
use Rattle.ledger_core.specs.declared.note.Note.TheVariants.{Owe, Final, Drop, Seen, Closed}
use Rattle.ledger_core.specs.declared.marks.Marks.{Marks}
use Rattle.ledger_core.specs.Base.{AreDebts, HasNoBase, Restores, based_on, owe, owes}
use Rattle.ledger_core.specs.BaseLaws.{base-no-batch, length-owes, owes-append}
use Rattle.ledger_core.specs.Batch.{AreBatches, notes_of, payloads_of}
use Rattle.ledger_core.specs.BatchLaws.{AreBatches-append, all-notes-are, notes_of-append, payloads_of-append}
use Rattle.ledger_core.specs.BatchLaws.{singly, singly-are, singly-notes, singly-payloads}
use Rattle.ledger_core.specs.KeyLaws.{key-is}
use Rattle.ledger_core.specs.Keys.{number_of}
use Rattle.ledger_core.specs.StateLaws.{AllLegal-append, after-append, all-with, all-without, import-fits, keys-without}
use Rattle.ledger_core.specs.StateLaws.{length-with, length-without, next-apart, octets-with, past-closed, past-kept}
use Rattle.ledger_core.specs.StateLaws.{past-more, past-new, put, rising-with, step-marks}
use Rattle.ledger_core.specs.Note.{AreNotes, IsNote, IsNumber}
use Rattle.ledger_core.specs.Replay.{LeavesFrom}
use Rattle.ledger_core.specs.Spelling.{spellings}
use Rattle.ledger_core.specs.SpellingLaws.{AreNotes-append, AreNotes-back, AreNotes-prefix}
use Rattle.ledger_core.specs.State.{Owing, State, AllLegal, IsLegal, IsNext, IsPast, after, line_octets, keys, marks_of}
use Rattle.ledger_core.specs.State.{with_debt}
use Rattle.ledger_core.specs.State.{keys_in, octets_of_debts, start, step, without}
use Rattle.ledger_core.specs.Written.{IsWhole, base_of, written}

-- it is restored from what it writes
pub written-restores : (generation : ℕ) (state : State) → 1 ≤ generation → IsNumber generation
    → IsWhole state → Restores (written generation state) generation state
written-restores generation state some number whole =
    let count : length (spellings (owes state.debts)) ≤ length state.debts =
    omega (arith, length-owes state.debts) in
    inr (
      base_of generation state,
      spellings (owes state.debts),
      record {
        is = record {
          generation = number;
          mark = whole.mark;
          taken = whole.taken;
          answered = omega (arith, whole.taken, whole.counted);
          dropped = omega (arith, whole.taken, whole.counted);
          live = omega (arith, whole.taken, whole.counted);
          closed = omega (arith, whole.closed);
          import_mark = whole.import_mark;
        };
        split = refl;
      },
      refl,
      record {
        sound = record { generation = some; closed = whole.closed; counted = whole.counted };
        debts = state.debts;
        live = refl;
        has = record {
          are = whole.debts;
          spelled =
              take_all (length state.debts) (spellings (owes state.debts)) count;
        };
        notes = (
          [],
          tt,
          drop_all (length state.debts) (spellings (owes state.debts)) count,
          tt,
          refl,
        );
      },
    )

-- ---- what each legal note keeps

pub whole-start : IsWhole start
whole-start = record {
  debts = record {
    valid = tt;
    rising = λ k within. absurd (omega arith);
    past = λ k d within. absurd (omega arith);
    octets = omega arith;
  };
  counted = refl;
  mark = omega arith;
  taken = omega arith;
  closed = omega arith;
  import_mark = omega arith;
}

-- one debt more is a note more, among the others
owes-with : (debts : List Owing) (key : ℕ) (token id : List ℕ) → AreNotes (owes debts) → IsNote (Owe key token id)
    → All (λ n. key ≡ n → ⊥) (keys_in debts) → AreNotes (owes (with_debt debts key token id))
owes-with debts key token id valid is_note apart =
    let here = put debts key token id apart in
    let were = subst AreNotes (ap owes here.was ∙ owes-append here.prefix here.behind) valid in
    subst AreNotes (sym (ap owes here.is ∙ owes-append here.prefix ((key, (token, id)) ∷ here.behind)))
    (AreNotes-append (owes here.prefix) (Owe key token id ∷ owes here.behind)
    (AreNotes-prefix (owes here.prefix) (owes here.behind) were)
    (is_note, AreNotes-back (owes here.prefix) (owes here.behind) were))

rising-behind : (ns : List ℕ) → IsStrictlyIncreasing (0 ∷ ns) → IsStrictlyIncreasing ns
rising-behind ns rising = λ k within.
    let next : suc k + 1 ≡ suc (k + 1) = omega arith in
    subst (λ n. get_or ns k 0 < get_or (0 ∷ ns) n 0) next (rising (suc k) (omega arith))

-- rising numbers from 1 up, after 0
rising-zero : (ns : List ℕ) → IsStrictlyIncreasing ns → All (λ n. 0 < n) ns → IsStrictlyIncreasing (0 ∷ ns)
rising-zero ns rising some zero within = some 0 0 (omega (arith, within))
rising-zero ns rising some (suc k) within =
    let next : suc k + 1 ≡ suc (k + 1) = omega arith in
    subst (λ n. get_or ns k 0 < get_or (0 ∷ ns) n 0) (sym next) (rising k (omega (arith, within)))

-- a key that may be owed is above 0
past-some : (marks : Marks) (ns : List ℕ) → All (IsPast marks) ns → All (λ n. 0 < n) ns
past-some marks ns past = All-weaker (IsPast marks) (λ n. 0 < n) (λ n here. some n here.some) ns past
  where
    some : (n : ℕ) → 1 ≤ number_of n → 0 < n
    some n one = omega (arith, one, key-is n)

debts-with : (state : State) (key : ℕ) (token id : List ℕ) → AreDebts (marks_of state) state.debts
    → IsNext (marks_of state) key → IsNote (Owe key token id)
    → octets_of_debts state.debts + line_octets token id < 2 ^ 64
    → AreDebts (marks_of (step state (Owe key token id))) (with_debt state.debts key token id)
debts-with state key token id are next is_note octets =
    let marks = marks_of state in
    let new = marks_of (step state (Owe key token id)) in
    let with = step-marks state key token id in
    let apart = next-apart marks key (keys state) next are.past in
    let past = all-with (IsPast new) state.debts key token id
    (All-weaker (IsPast marks) (IsPast new) (λ n past. past-kept marks new key n next with past) (keys state) are.past)
    (past-new marks new key next with) in
    record {
      valid = owes-with state.debts key token id are.valid is_note apart;
      rising = rising-zero (keys_in (with_debt state.debts key token id))
          (rising-with state.debts key token id apart (rising-behind (keys state) are.rising))
          (past-some new (keys_in (with_debt state.debts key token id)) past);
      past = past;
      octets = omega (arith, octets, octets-with state.debts key token id apart);
    }

valid-step : (b : Bool) (debt : Owing) (debts : List Owing) → IsNote (owe debt)
    → AreNotes (owes debts) → AreNotes (owes (cond (not b) (debt ∷ debts) debts))
valid-step true debt debts is all = all
valid-step false debt debts is all = (is, all)

valid-without : (number : ℕ) (debts : List Owing) → AreNotes (owes debts)
    → AreNotes (owes (without number debts))
valid-without number [] valid = tt
valid-without number (debt ∷ debts) valid = valid-step (debt.0 == number) debt
    (without number debts) valid.0 (valid-without number debts valid.1)

kept-zero : (number : ℕ) (ns : List ℕ) → 0 < number
    → filter (λ n. not (n == number)) (0 ∷ ns) ≡ 0 ∷ filter (λ n. not (n == number)) ns
kept-zero number ns above =
    let apart : (0 == number) ≡ false = grind (arith, nat_tests) in
    ap (λ b. cond (not b) (0 ∷ filter (λ n. not (n == number)) ns)
    (filter (λ n. not (n == number)) ns)) apart

owed-above : (number : ℕ) (ns : List ℕ) → IsStrictlyIncreasing (0 ∷ ns) → Contains ns number
    → 0 < number
owed-above number ns rising (place, within, found) =
    let at : get_or (0 ∷ ns) (suc place) 0 ≡ number = get_or_default ns place 0 number within
    ∙ found in
    let up : get_or (0 ∷ ns) place 0 < get_or (0 ∷ ns) (suc place) 0 =
    subst (λ k. get_or (0 ∷ ns) place 0 < get_or (0 ∷ ns) k 0) (add-one place)
    (rising place (omega arith)) in
    omega (arith, up, at)

debts-without : (marks : Marks) (number : ℕ) (debts : List Owing) → AreDebts marks debts
    → Contains (keys_in debts) number → AreDebts marks (without number debts)
debts-without marks number debts are owed =
    let above = owed-above number (keys_in debts) are.rising owed in
    record {
      valid = valid-without number debts are.valid;
      rising = subst IsStrictlyIncreasing (kept-zero number (keys_in debts) above
          ∙ ap (λ (ns : List ℕ). 0 ∷ ns) (sym (keys-without number debts)))
          (IsStrictlyIncreasing-filter (λ n. not (n == number)) (0 ∷ keys_in debts) are.rising);
      past = all-without (IsPast marks) number debts are.past;
      octets = omega (
        arith,
        are.octets,
        sum_by-filter_both (λ (d : Owing). not (d.0 == number))
            (λ (d : Owing). d.0 == number) (λ d. not-not (d.0 == number))
            (λ (d : Owing). line_octets d.1.0 d.1.1) debts,
      );
    }
  where
    not-not : (b : Bool) → b ≡ not (not b)
    not-not true = refl
    not-not false = refl

-- the same debts under later marks
debts-later : (marks new : Marks) (debts : List Owing) → ((key : ℕ) → IsPast marks key → IsPast new key)
    → AreDebts marks debts → AreDebts new debts
debts-later marks new debts later are = record {
  valid = are.valid;
  rising = are.rising;
  past = All-weaker (IsPast marks) (IsPast new) later (keys_in debts) are.past;
  octets = are.octets;
}

mark-fits : (state : State) (key : ℕ) (token id : List ℕ) → IsNumber state.mark
    → IsNumber (step state (Owe key token id)).mark
mark-fits state key token id fits = elim (cases_lt key (2 ^ 64)) [
  | inl low ↦ omega (arith, low, ap (λ (b : Bool). if b then key else state.mark) (lt-ltb key (2 ^ 64) low))
  | inr high ↦ omega (arith, fits, ap (λ (b : Bool). if b then key else state.mark) (le-ltb key (2 ^ 64) high))
]

pub whole-step : (state : State) (note : Note) → IsNote note → IsLegal state note → IsWhole state
    → IsWhole (step state note)
whole-step state (Owe key token id) is_note legal whole =
    let apart = next-apart (marks_of state) key (keys state) legal.0 whole.debts.past in
    record {
      debts = debts-with state key token id whole.debts legal.0 is_note legal.2;
      counted = omega (arith, length-with state.debts key token id apart, whole.counted);
      mark = mark-fits state key token id whole.mark;
      taken = legal.1;
      closed = whole.closed;
      import_mark = import-fits (marks_of state) (marks_of (step state (Owe key token id))) key
          (step-marks state key token id) whole.import_mark;
    }
whole-step state (Final number code) is_note legal whole = record {
  debts = debts-without (marks_of state) number state.debts whole.debts legal.0;
  counted = omega (
    arith,
    length-without number state.debts
        (rising-behind (keys state) whole.debts.rising) legal.0,
    whole.counted,
  );
  mark = whole.mark;
  taken = whole.taken;
  closed = whole.closed;
  import_mark = whole.import_mark;
}
whole-step state (Drop number cause) is_note legal whole = record {
  debts = debts-without (marks_of state) number state.debts whole.debts legal.0;
  counted = omega (
    arith,
    length-without number state.debts
        (rising-behind (keys state) whole.debts.rising) legal.0,
    whole.counted,
  );
  mark = whole.mark;
  taken = whole.taken;
  closed = whole.closed;
  import_mark = whole.import_mark;
}
whole-step state (Seen number) is_note legal whole = record {
  debts = debts-later (marks_of state) (marks_of (step state (Seen number))) state.debts
      (λ n past. past-more (marks_of state) (marks_of (step state (Seen number))) n past (omega (arith, legal.1)) (omega arith))
      whole.debts;
  counted = whole.counted;
  mark = is_note;
  taken = whole.taken;
  closed = whole.closed;
  import_mark = whole.import_mark;
}
whole-step state (Closed source) is_note legal whole = record {
  debts = debts-later (marks_of state) (marks_of (step state (Closed source))) state.debts
      (λ n past. past-closed (marks_of state) (marks_of (step state (Closed source))) n past refl legal.0 whole.import_mark)
      whole.debts;
  counted = whole.counted;
  mark = whole.mark;
  taken = whole.taken;
  closed = legal.1;
  import_mark = omega arith;
}

pub whole-after : (state : State) (notes : List Note) → AreNotes notes → AllLegal state notes
    → IsWhole state → IsWhole (after state notes)
whole-after state [] are legal whole = whole
whole-after state (note ∷ notes) are legal whole = whole-after (step state note) notes are.1 legal.1
    (whole-step state note are.0 legal.0 whole)

-- each ledger that is restored is whole
pub restored-whole : (payloads : List (List ℕ)) (generation : ℕ) (state : State)
    → Restores payloads generation state → IsWhole state
restored-whole payloads generation state (inl (none, is, (batches, are, spelled, legal, left))) =
    subst IsWhole (sym left) (whole-after start (notes_of batches) (all-notes-are batches are) legal whole-start)
restored-whole payloads generation state (inr (base, behind, begins, is, leaves)) =
    let notes = leaves.notes in
    let whole : IsWhole (based_on base leaves.debts) = record {
      debts = leaves.has.are;
      counted = leaves.sound.counted ∙ ap (λ n. base.answered + base.dropped + n) (sym leaves.live);
      mark = begins.is.mark;
      taken = begins.is.taken;
      closed = leaves.sound.closed;
      import_mark = begins.is.import_mark;
    }
    in
    subst IsWhole (sym notes.4) (whole-after (based_on base leaves.debts) (notes_of notes.0)
    (all-notes-are notes.0 notes.1) notes.3 whole)

-- ---- batches after it

leaves-on : (first : State) (payloads : List (List ℕ)) (state : State) (batches : List (List Note))
    → LeavesFrom first payloads state → AreBatches batches → AllLegal state (notes_of batches)
    → LeavesFrom first (payloads ++ payloads_of batches) (after state (notes_of batches))
leaves-on first payloads state batches (prefix, are, spelled, legal, left) more lawful =
    let notes = notes_of batches in
    let whole = notes_of-append prefix batches in (
      prefix ++ batches,
      AreBatches-append prefix batches are more,
      ap (λ (l : List (List ℕ)). l ++ payloads_of batches) spelled ∙ sym (payloads_of-append prefix batches),
      subst (AllLegal first) (sym whole)
          (AllLegal-append first (notes_of prefix) notes legal (subst (λ (s : State). AllLegal s notes) left lawful)),
      ap (λ (s : State). after s notes) left
          ∙ (sym (after-append first (notes_of prefix) notes) ∙ ap (after first) (sym whole)),
    )

no_base-append : (payloads : List (List ℕ)) (batches : List (List Note)) → HasNoBase payloads → HasNoBase
    (payloads ++ payloads_of batches)
no_base-append [] [] none = tt
no_base-append [] (batch ∷ batches) none = λ base is same. base-no-batch base batch same
no_base-append (first ∷ payloads) batches none = none

-- Batches whose notes are legal after what payloads leave continue these.
pub restores-on : (payloads : List (List ℕ)) (generation : ℕ) (state : State) (batches : List (List Note))
    → Restores payloads generation state → AreBatches batches → AllLegal state (notes_of batches)
    → Restores (payloads ++ payloads_of batches) generation (after state (notes_of batches))
restores-on payloads generation state batches (inl (none, lowest, leaves)) more lawful =
    inl (no_base-append payloads batches none, lowest, leaves-on start payloads state batches leaves more lawful)
restores-on payloads generation state batches (inr (base, behind, begins, is, leaves)) more lawful =
    let from = based_on base leaves.debts in
    let all = payloads_of batches in
    let few : length leaves.debts ≤ length behind =
    omega (arith, length-take (length leaves.debts) behind, ap length leaves.has.spelled, length-owes leaves.debts) in
    inr (
      base,
      behind ++ all,
      record {
        is = begins.is;
        split = ap (λ (l : List (List ℕ)). l ++ all) begins.split;
      },
      is,
      record {
        sound = leaves.sound;
        debts = leaves.debts;
        live = leaves.live;
        has = record {
          are = leaves.has.are;
          spelled = take-append-le (length leaves.debts) behind all few ∙ leaves.has.spelled;
        };
        notes = subst (λ (l : List (List ℕ)). LeavesFrom from l (after state (notes_of batches)))
            (sym (drop-append-le (length leaves.debts) behind all few))
            (leaves-on from (drop (length leaves.debts) behind) state batches leaves.notes more lawful);
      },
    )

-- Notes that are legal after what payloads leave continue these, one by one.
pub restores-on-notes : (payloads : List (List ℕ)) (generation : ℕ) (state : State) (notes : List Note)
    → Restores payloads generation state → AreNotes notes → AllLegal state notes
    → Restores (payloads ++ spellings notes) generation (after state notes)
restores-on-notes payloads generation state notes restores are lawful =
    let same = singly-notes notes in
    subst (λ (l : List (List ℕ)). Restores (payloads ++ l) generation (after state notes)) (singly-payloads notes)
    (subst (λ (l : List Note). Restores (payloads ++ payloads_of (singly notes)) generation (after state l)) same
    (restores-on payloads generation state (singly notes) restores (singly-are notes are)
    (subst (λ (l : List Note). AllLegal state l) (sym same) lawful)))
