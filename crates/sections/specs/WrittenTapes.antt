-- Tapes in octets (profile), for computed runs: what lies on the disks once notes were flushed, and what a stop may
-- leave in each call of a flush and of an opening. The first disk is live, and nothing lies on the second.
use Rattle.std.proofs.Common.{◌≡◌, ℕ, ◌+◌, ◌<◌, ◌≤◌, false, List, [], ◌∷◌}
use Rattle.std.proofs.Common.{◌++◌, length, take, drop, refl, sym, ap, ◌∙◌, subst}
use Rattle.std.proofs.Common.{inl, inr, arith, length-append, length-drop, append_assoc, append-nil, take-append-drop}
use Rattle.std.specs.Prelude.{◌↔◌, IsTrue, min}
use Rattle.std.proofs.lemmas.Bool.{cases_eq}
use Rattle.std.proofs.lemmas.List.{drop-drop, drop_all, drop_at, take_all, take_at}
use Rattle.disk_model.specs.Disk.{Event, Image, IsOnly, Torn, content, overwritten}
use Rattle.disk_model.specs.Disk.Event.{Synced, WasCut, Wrote}
use Rattle.disk_model.specs.TornLaws.{Torn-overwritten}
use Rattle.tape_journal.specs.Journal.{appending, opening}
use Rattle.tape_journal.specs.Segment.{AllShort, Ends, Reads, at_rest}
use Rattle.tape_journal.specs.Segment.{gated, longest_segment, open_gate, records, sized}
use Rattle.tape_journal.specs.SegmentLaws.{reads_on, reads_rest}
use Rattle.tape_journal.specs.Stage.{written_behind}
use Rattle.ledger_core.specs.Base.{HasNoBase}
use Rattle.ledger_core.specs.BaseLaws.{base-no-batch}
use Rattle.ledger_core.specs.Batch.{AreBatches, Cuts, notes_of, payload_of, payloads_of}
use Rattle.ledger_core.specs.BatchLaws.{all-notes-are, payloads_of-append}
use Rattle.ledger_core.specs.State.{AllLegal, State, after, start}
use Rattle.ledger_core.specs.WrittenLaws.{whole-start}
use Rattle.ledger_core.specs.declared.note.Note.{Note}
use Rattle.recovery.specs.Image.{HasGeneration, IsTape, Octets}
use Rattle.recovery.specs.Leaving.{EachLedger, HasLedger, HasSegment, IsFullBy, IsPrefix, LedgersLeave, pending_notes}
use Rattle.recovery.specs.LeavingLaws.{segment_once}
use Rattle.recovery.specs.Notes.{AreLegal, History}
use Rattle.recovery.specs.Pairs.{EachPair}
use Rattle.recovery.specs.Pairs.LeavesPair.{at_start, first_next, second_next}
use Rattle.recovery.specs.TapeLaws.{generation_of_payloads}

-- ---- batches of notes on a tape

-- the record of each batch, and a closed gate
abbrev pub octets_of : List (List Note) → List ℕ
octets_of batches = at_rest (payloads_of batches)

-- where that gate is
abbrev pub end_of : List (List Note) → ℕ
end_of batches = length (records (payloads_of batches))

-- the ledger that they leave
abbrev pub ledger_in : List (List Note) → State
ledger_in batches = after start (notes_of batches)

-- a tape may have them
pub record AreOnTape (batches : List (List Note)) : Type 0 where
  pub are : AreBatches batches
  pub short : AllShort (payloads_of batches)
  pub legal : AllLegal start (notes_of batches)

pub no_base : (batches : List (List Note)) → HasNoBase (payloads_of batches)
no_base [] = tt
no_base (batch ∷ batches) = λ base is same. base-no-batch base batch same

-- of two segments of generation 0 the first is live
pub first_lives : IsTrue false ↔ (0 < 0)
first_lives = (λ is. cc is, λ less. absurd (omega (arith, less)))

-- a segment with them, beside nothing, is a tape of their ledger
abbrev pub tape_with : (batches : List (List Note)) (one other : List ℕ) → AreOnTape batches
    → Reads one (payloads_of batches) → other ≡ [] → IsTape (one, other) (ledger_in batches)
tape_with batches one other are reads none = record {
  second = false;
  lives = record {
    one = 0;
    other = 0;
    first_has = generation_of_payloads one (payloads_of batches) 0 (ledger_in batches) reads
        (inl (no_base batches, refl, (batches, are.are, refl, are.legal, refl)));
    second_has = subst (λ (octets : List ℕ). HasGeneration octets 0) (sym none) (inl (tt, refl));
    greater = first_lives;
  };
  generation = 0;
  payloads = payloads_of batches;
  reads = reads;
  restores = inl (no_base batches, refl, (batches, are.are, refl, are.legal, refl));
}

-- their ledger is that of a prefix of the notes of a history, if they are its first notes, with every acknowledged one
pub prefix_with : (batches : List (List Note)) (h : History) (count : ℕ) → AreOnTape batches → h.base ≡ start
    → take count h.notes ≡ notes_of batches → h.kept ≤ count → count ≤ length h.notes → IsPrefix h (ledger_in batches)
prefix_with batches h count are base first enough within = record {
  count = count;
  enough = enough;
  within = within;
  legal = subst (λ (state : State). AreLegal state (take count h.notes)) (sym base)
      (subst (AreLegal start) (sym first) (record {
        whole = whole-start;
        notes_are = all-notes-are batches are.are;
        legal = are.legal;
      }));
  is = ap (after start) (sym first) ∙ ap (λ (state : State). after state (take count h.notes)) (sym base);
}

-- ---- the calls of a flush and of an opening

-- the first call of a flush of one batch: all but its gate is written behind the end gate
abbrev pub record_written : List (List Note) → List Note → List Event → List Event
record_written batches batch log = Wrote (end_of batches + 1) (written_behind (payload_of batch ∷ [])) ∷ log

-- a sync, and the third call: the gate
abbrev pub gate_written : List (List Note) → List Note → List Event → List Event
gate_written batches batch log = Wrote (end_of batches) (open_gate ∷ []) ∷ Synced ∷ record_written batches batch log

-- all calls: another sync
abbrev pub flushed_by : List (List Note) → List Note → List Event → List Event
flushed_by batches batch log = Synced ∷ gate_written batches batch log

-- they are those that add the record to a journal
pub flush_calls : (batches : List (List Note)) (batch : List Note) (log : List Event)
    → flushed_by batches batch log ≡ appending (end_of batches) (payload_of batch ∷ []) log
flush_calls batches batch log = refl

-- a sync, and what follows the end gate is cut off
abbrev pub shortened_to : List (List Note) → List Event → List Event
shortened_to batches log = WasCut (min (length (content log)) (end_of batches + 1)) ∷ Synced ∷ log

-- a sync, and the end gate
abbrev pub gate_closed : List (List Note) → List Event → List Event
gate_closed batches log = Wrote (end_of batches) (0 ∷ []) ∷ Synced ∷ shortened_to batches log

-- and a sync: all calls on the first disk by which a tape of these batches is opened
abbrev pub opened_by : List (List Note) → List Event → List Event
opened_by batches log = Synced ∷ gate_closed batches log

-- they are those that open a journal
pub opening_calls : (batches : List (List Note)) (log : List Event)
    → opened_by batches log ≡ opening (length (content log)) (end_of batches) log
opening_calls batches log = refl

-- what lies on the first disk between the third call and the sync, if this octet is left of the gate
abbrev pub octets_with : List (List Note) → List Note → ℕ → List ℕ
octets_with batches batch gate = records (payloads_of batches) ++ gate ∷ written_behind (payload_of batch ∷ [])

-- ---- octets

-- what is written after the last octet
written_last : (prefix more : List ℕ) (gate : ℕ)
    → overwritten (prefix ++ gate ∷ []) (length prefix + 1) more ≡ prefix ++ gate ∷ more
written_last prefix more gate =
    let whole = prefix ++ gate ∷ [] in
    let at = length prefix + 1 in
    let long : length whole ≡ length prefix + 1 = length-append prefix (gate ∷ []) in
    let head : take at whole ≡ whole = take_all at whole (omega (arith, long)) in
    let tail : drop (at + length more) whole ≡ [] = drop_all (at + length more) whole (omega (arith, long)) in
    ap (λ (l : List ℕ). l ++ more ++ drop (at + length more) whole) head
    ∙ (ap (λ (l : List ℕ). whole ++ more ++ l) tail
    ∙ (append-nil (whole ++ more) ∙ append_assoc prefix (gate ∷ []) more))

-- what follows an octet
drop_next : (prefix rest : List ℕ) (gate : ℕ) → drop (length prefix + 1) (prefix ++ gate ∷ rest) ≡ rest
drop_next prefix rest gate =
    sym (drop-drop 1 (length prefix) (prefix ++ gate ∷ rest))
    ∙ ap (λ (l : List ℕ). drop 1 l) (drop_at prefix (gate ∷ rest) (length prefix) refl)

-- an octet that is written in its place
written_one : (prefix rest : List ℕ) (gate octet : ℕ)
    → overwritten (prefix ++ gate ∷ rest) (length prefix) (octet ∷ []) ≡ prefix ++ octet ∷ rest
written_one prefix rest gate octet =
    let whole = prefix ++ gate ∷ rest in
    ap (λ (l : List ℕ). l ++ (octet ∷ []) ++ drop (length prefix + 1) whole)
    (take_at prefix (gate ∷ rest) (length prefix) refl)
    ∙ (ap (λ (l : List ℕ). prefix ++ (octet ∷ []) ++ l) (drop_next prefix rest gate)
    ∙ append_assoc prefix (octet ∷ []) rest)

first_left : (back rest : List ℕ) → 0 < length back → drop 1 back ≡ rest → (octet : ℕ) × (back ≡ octet ∷ rest)
first_left [] rest some is = absurd (omega (arith, some))
first_left (octet ∷ back) rest some is = (octet, ap (λ (l : List ℕ). octet ∷ l) is)

-- where one octet is written, any octet may be left, and all others stay
one_torn : (prefix rest c : List ℕ) (gate : ℕ) → Torn (length prefix) 1 (prefix ++ gate ∷ rest) c
    → (octet : ℕ) × (c ≡ prefix ++ octet ∷ rest)
one_torn prefix rest c gate torn =
    let n = length prefix in
    let whole = prefix ++ gate ∷ rest in
    let long : length whole ≡ n + length (gate ∷ rest) = length-append prefix (gate ∷ rest) in
    let reach : min n (length whole) ≡ n = omega (arith, long) in
    let head : take n c ≡ prefix =
    ap (λ (k : ℕ). take k c) (sym reach) ∙ (torn.before ∙ take_at prefix (gate ∷ rest) n refl) in
    let tail : drop 1 (drop n c) ≡ rest = drop-drop 1 n c ∙ (torn.after ∙ drop_next prefix rest gate) in
    let some : 0 < length (drop n c) = omega (arith, length-drop n c, torn.no_shorter, long) in
    let found = first_left (drop n c) rest some tail in (
      found.0,
      sym (take-append-drop n c)
          ∙ (ap (λ (l : List ℕ). l ++ drop n c) head ∙ ap (λ (l : List ℕ). prefix ++ l) found.1),
    )

-- and each may
torn_one : (prefix rest : List ℕ) (gate octet : ℕ)
    → Torn (length prefix) 1 (prefix ++ gate ∷ rest) (prefix ++ octet ∷ rest)
torn_one prefix rest gate octet =
    subst (λ (l : List ℕ). Torn (length prefix) 1 (prefix ++ gate ∷ rest) l) (written_one prefix rest gate octet)
    (Torn-overwritten (prefix ++ gate ∷ rest) (length prefix) (octet ∷ []))

-- ---- segments

ends_shut : (gate : ℕ) (rest : List ℕ) → (gate ≡ open_gate → ⊥) → Ends (gate ∷ rest)
ends_shut gate [] shut = tt
ends_shut gate (next ∷ rest) shut = shut

-- records, and then an end
reads_up : (payloads : List (List ℕ)) (gate : ℕ) (rest : List ℕ) → AllShort payloads → Ends (gate ∷ rest)
    → Reads (records payloads ++ gate ∷ rest) payloads
reads_up payloads gate rest short ends =
    subst (λ (l : List (List ℕ)). Reads (records payloads ++ gate ∷ rest) l) (append-nil payloads)
    (reads_on payloads (gate ∷ rest) [] short (omega arith) ends)

zero_shut : 0 ≡ open_gate → ⊥
zero_shut same = cc same

-- whatever a write behind the end gate leaves
reads_behind : (payloads : List (List ℕ)) (n : ℕ) (c : List ℕ) → AllShort payloads
    → Torn (length (records payloads) + 1) n (at_rest payloads) c → Reads c payloads
reads_behind payloads n c short torn =
    let at = length (records payloads) + 1 in
    let whole = at_rest payloads in
    let long : length whole ≡ at = length-append (records payloads) (0 ∷ []) in
    let reach : min at (length whole) ≡ at = omega (arith, long) in
    let head : take at c ≡ whole =
    ap (λ (k : ℕ). take k c) (sym reach) ∙ (torn.before ∙ take_all at whole (omega (arith, long))) in
    let is : c ≡ records payloads ++ 0 ∷ drop at c =
    sym (take-append-drop at c) ∙ (ap (λ (l : List ℕ). l ++ drop at c) head
    ∙ append_assoc (records payloads) (0 ∷ []) (drop at c)) in
    subst (λ (l : List ℕ). Reads l payloads) (sym is)
    (reads_up payloads 0 (drop at c) short (ends_shut 0 (drop at c) zero_shut))

-- what was written behind an end gate is read once that is open
reads_more : (payloads : List (List ℕ)) (payload : List ℕ) → AllShort payloads → AllShort (payload ∷ [])
    → Reads (records payloads ++ open_gate ∷ written_behind (payload ∷ [])) (payloads ++ payload ∷ [])
reads_more payloads payload short short' =
    subst (λ (l : List ℕ). Reads (records payloads ++ open_gate ∷ l) (payloads ++ payload ∷ []))
    (sym (append-nil (sized payload ++ 0 ∷ [])))
    (reads_on payloads (gated open_gate payload ++ 0 ∷ []) (payload ∷ []) short (omega arith)
    (short'.0, (0 ∷ [], refl, omega arith, tt)))

-- ---- what a stop leaves

-- each image of the first disk, where the second has none but the empty one
on_first : (P : Octets → Type 0) (log other : List Event) → IsOnly other []
    → ((c : List ℕ) → Image log c → P (c, [])) → EachPair P (log, other)
on_first P log other none each = λ one octets is is'.
    subst (λ (l : List ℕ). P (one, l)) (sym (none.images octets is')) (each one is)

-- a tape at rest
pub rest_leaves : (P : State → Type 0) (batches : List (List Note)) (log other : List Event) → AreOnTape batches
    → IsOnly log (octets_of batches) → IsOnly other [] → P (ledger_in batches) → EachLedger P (log, other)
rest_leaves P batches log other are only none holds =
    on_first (HasLedger P) log other none (λ c is.
    let reads : Reads c (payloads_of batches) =
    subst (λ (l : List ℕ). Reads l (payloads_of batches)) (sym (only.images c is))
    (reads_rest (payloads_of batches) are.short) in
    (ledger_in batches, tape_with batches c [] are reads refl, holds))

module _ (batches : List (List Note)) (batch : List Note) where
  -- what lies there between the first call and the third
  written_so : (log : List Event) → IsOnly log (octets_of batches)
      → content (record_written batches batch log) ≡ octets_with batches batch 0
  written_so log only =
      let more = written_behind (payload_of batch ∷ []) in
      ap (λ (l : List ℕ). overwritten l (end_of batches + 1) more) only.whole
      ∙ written_last (records (payloads_of batches)) more 0

  -- what the third call may leave: any octet in place of the gate, and all others as they were
  pub gate_images : (log : List Event) (c : List ℕ) → IsOnly log (octets_of batches)
      → Image (gate_written batches batch log) c → (octet : ℕ) × (c ≡ octets_with batches batch octet)
  gate_images log c only (d, is, torn) =
      one_torn (records (payloads_of batches)) (written_behind (payload_of batch ∷ [])) c 0
      (subst (λ (l : List ℕ). Torn (end_of batches) 1 l c) (is ∙ written_so log only) torn)

  pub gate_may : (log : List Event) (octet : ℕ) → IsOnly log (octets_of batches)
      → Image (gate_written batches batch log) (octets_with batches batch octet)
  gate_may log octet only = (
    octets_with batches batch 0,
    sym (written_so log only),
    torn_one (records (payloads_of batches)) (written_behind (payload_of batch ∷ [])) 0 octet,
  )

  -- with a gate that is not open they are a tape of the ledger before the flush
  pub gate_shut : (octet : ℕ) (other : List ℕ) → AreOnTape batches → (octet ≡ open_gate → ⊥) → other ≡ []
      → IsTape (octets_with batches batch octet, other) (ledger_in batches)
  gate_shut octet other are shut none =
      let more = written_behind (payload_of batch ∷ []) in
      tape_with batches (octets_with batches batch octet) other are
      (reads_up (payloads_of batches) octet more are.short (ends_shut octet more shut)) none

  -- with an open one, of the ledger after it
  pub gate_open : (other : List ℕ) → AreOnTape batches → AreOnTape (batches ++ batch ∷ []) → AllShort
      (payload_of batch ∷ [])
      → other ≡ [] → IsTape (octets_with batches batch open_gate, other) (ledger_in (batches ++ batch ∷ []))
  gate_open other are are' short none =
      tape_with (batches ++ batch ∷ []) (octets_with batches batch open_gate) other are'
      (subst (Reads (octets_with batches batch open_gate)) (sym (payloads_of-append batches (batch ∷ [])))
      (reads_more (payloads_of batches) (payload_of batch) are.short short)) none

  -- each call of a flush leaves the ledger before it or after it
  pub flush_leaves : (P : State → Type 0) (log other : List Event) → AreOnTape batches
      → AreOnTape (batches ++ batch ∷ [])
      → AllShort (payload_of batch ∷ []) → IsOnly log (octets_of batches) → IsOnly other [] → P (ledger_in batches)
      → P (ledger_in (batches ++ batch ∷ []))
      → LedgersLeave P (log, other) (gate_written batches batch log, other)
      × LedgersLeave P (log, other) (flushed_by batches batch log, other)
  flush_leaves P log other are are' short only none before behind = (third, fourth)
    where
      left : (c : List ℕ) → Reads c (payloads_of batches) → HasLedger P (c, [])
      left c reads = (ledger_in batches, tape_with batches c [] are reads refl, before)

      in_first : (c : List ℕ) → Image (record_written batches batch log) c → HasLedger P (c, [])
      in_first c (d, is, torn) =
          left c (reads_behind (payloads_of batches) (length (written_behind (payload_of batch ∷ []))) c are.short
          (subst (λ (l : List ℕ). Torn (end_of batches + 1) (length (written_behind (payload_of batch ∷ []))) l c)
          (only.images d is) torn))

      in_second : (c : List ℕ) → Image (Synced ∷ record_written batches batch log) c → HasLedger P (c, [])
      in_second c is =
          subst (λ (l : List ℕ). HasLedger P (l, [])) (sym (is ∙ written_so log only))
          (ledger_in batches, gate_shut 0 [] are zero_shut refl, before)

      with_gate : (octet : ℕ) → HasLedger P (octets_with batches batch octet, [])
      with_gate octet = elim (cases_eq octet open_gate) [
        | inl same ↦
            subst (λ (gate : ℕ). HasLedger P (octets_with batches batch gate, [])) (sym same)
            (ledger_in (batches ++ batch ∷ []), gate_open [] are are' short refl, behind)
        | inr shut ↦ (ledger_in batches, gate_shut octet [] are shut refl, before)
      ]

      in_third : (c : List ℕ) → Image (gate_written batches batch log) c → HasLedger P (c, [])
      in_third c is =
          let found = gate_images log c only is in
          subst (λ (l : List ℕ). HasLedger P (l, [])) (sym found.1) (with_gate found.0)

      in_fourth : (c : List ℕ) → Image (flushed_by batches batch log) c → HasLedger P (c, [])
      in_fourth c is =
          let now : content (gate_written batches batch log) ≡ octets_with batches batch open_gate =
          ap (λ (l : List ℕ). overwritten l (end_of batches) (open_gate ∷ [])) (written_so log only)
          ∙ written_one (records (payloads_of batches)) (written_behind (payload_of batch ∷ [])) 0 open_gate in
          subst (λ (l : List ℕ). HasLedger P (l, [])) (sym (is ∙ now)) (with_gate open_gate)

      third : LedgersLeave P (log, other) (gate_written batches batch log, other)
      third =
          first_next (Synced ∷ record_written batches batch log) other (Wrote (end_of batches) (open_gate ∷ []))
          (first_next (record_written batches batch log) other Synced
          (first_next log other (Wrote (end_of batches + 1) (written_behind (payload_of batch ∷ [])))
          (at_start (rest_leaves P batches log other are only none before))
          (on_first (HasLedger P) (record_written batches batch log) other none in_first))
          (on_first (HasLedger P) (Synced ∷ record_written batches batch log) other none in_second))
          (on_first (HasLedger P) (gate_written batches batch log) other none in_third)

      fourth : LedgersLeave P (log, other) (flushed_by batches batch log, other)
      fourth =
          first_next (gate_written batches batch log) other Synced third
          (on_first (HasLedger P) (flushed_by batches batch log) other none in_fourth)

-- each call of an opening leaves the ledger that was found
pub opening_leaves : (P : State → Type 0) (batches : List (List Note)) (log other : List Event) (gate : ℕ)
    (rest : List ℕ) → AreOnTape batches
    → IsOnly log (records (payloads_of batches) ++ gate ∷ rest) → Ends (gate ∷ rest) → IsOnly other []
    → P (ledger_in batches)
    → LedgersLeave P (log, other) (opened_by batches log, Synced ∷ other)
opening_leaves P batches log other gate rest are only ends none holds =
    first_next (gate_closed batches log) behind Synced
    (first_next (Synced ∷ shortened_to batches log) behind (Wrote (end_of batches) (0 ∷ []))
    (first_next (shortened_to batches log) behind Synced
    (first_next (Synced ∷ log) behind (WasCut (min (length (content log)) (end_of batches + 1)))
    (first_next log behind Synced
    (second_next log other Synced (at_start (on_first (HasLedger P) log other none at_first))
    (on_first (HasLedger P) log behind still at_first))
    (on_first (HasLedger P) (Synced ∷ log) behind still at_sync))
    (on_first (HasLedger P) (shortened_to batches log) behind still at_cut))
    (on_first (HasLedger P) (Synced ∷ shortened_to batches log) behind still at_cut_sync))
    (on_first (HasLedger P) (gate_closed batches log) behind still at_gate))
    (on_first (HasLedger P) (opened_by batches log) behind still at_last)
  where
    behind : List Event
    behind = Synced ∷ other

    still : IsOnly (Synced ∷ other) []
    still = record { whole = none.whole; images = λ c is. is ∙ none.whole }

    cut : take (min (length (content log)) (end_of batches + 1)) (content log) ≡ records (payloads_of batches)
        ++ gate ∷ []
    cut =
        let first = records (payloads_of batches) ++ gate ∷ [] in
        let long : length first ≡ end_of batches + 1 = length-append (records (payloads_of batches)) (gate ∷ []) in
        let split : content log ≡ first ++ rest =
        only.whole ∙ sym (append_assoc (records (payloads_of batches)) (gate ∷ []) rest) in
        let within : min (length (content log)) (end_of batches + 1) ≡ end_of batches + 1 =
        omega (arith, ap length split, length-append first rest, long) in
        ap (λ (k : ℕ). take k (content log)) within
        ∙ (ap (λ (l : List ℕ). take (end_of batches + 1) l) split ∙ take_at first rest (end_of batches + 1) long)

    found : (c : List ℕ) → c ≡ records (payloads_of batches) ++ gate ∷ rest → HasLedger P (c, [])
    found c is =
        let reads : Reads c (payloads_of batches) =
        subst (λ (l : List ℕ). Reads l (payloads_of batches)) (sym is)
        (reads_up (payloads_of batches) gate rest are.short ends) in
        (ledger_in batches, tape_with batches c [] are reads refl, holds)

    shortened : (c : List ℕ) (octet : ℕ) → c ≡ records (payloads_of batches) ++ octet ∷ [] → HasLedger P (c, [])
    shortened c octet is =
        let reads : Reads c (payloads_of batches) =
        subst (λ (l : List ℕ). Reads l (payloads_of batches)) (sym is)
        (reads_up (payloads_of batches) octet [] are.short tt) in
        (ledger_in batches, tape_with batches c [] are reads refl, holds)

    at_first : (c : List ℕ) → Image log c → HasLedger P (c, [])
    at_first c is = found c (only.images c is)

    at_sync : (c : List ℕ) → c ≡ content log → HasLedger P (c, [])
    at_sync c is = found c (is ∙ only.whole)

    at_cut : (c : List ℕ) → Image (shortened_to batches log) c → HasLedger P (c, [])
    at_cut c (d, is, inl same) = at_sync c (same ∙ is)
    at_cut c (d, is, inr same) =
        shortened c gate
        (same ∙ (ap (λ (l : List ℕ). take (min (length (content log)) (end_of batches + 1)) l) is ∙ cut))

    at_cut_sync : (c : List ℕ)
        → c ≡ take (min (length (content log)) (end_of batches + 1)) (content log)
        → HasLedger P (c, [])
    at_cut_sync c is = shortened c gate (is ∙ cut)

    at_gate : (c : List ℕ) → Image (gate_closed batches log) c → HasLedger P (c, [])
    at_gate c (d, is, torn) =
        let one = one_torn (records (payloads_of batches)) [] c gate
        (subst (λ (l : List ℕ). Torn (end_of batches) 1 l c) (is ∙ cut) torn) in
        shortened c one.0 one.1

    at_last : (c : List ℕ) → Image (opened_by batches log) c → HasLedger P (c, [])
    at_last c is =
        shortened c 0
        (is ∙ (ap (λ (l : List ℕ). overwritten l (end_of batches) (0 ∷ [])) cut
        ∙ written_one (records (payloads_of batches)) [] gate 0))

-- ---- room

-- a tape has room for what is pending if its record and that of what is pending are not too long
pub has_room : (batches pending : List (List Note)) (log other : List Event) (h : History) → AreOnTape batches
    → content log ≡ octets_of batches → content other ≡ [] → Cuts (pending_notes h) pending
    → end_of batches + 1 + length (records (payloads_of pending)) ≤ longest_segment → IsFullBy (log, other) h → ⊥
has_room batches pending log other h are whole none cut fits (some, (generation, size, has, long)) =
    let here : HasSegment (log, other) 0 (end_of batches) = record {
      state = ledger_in batches;
      is = tape_with batches (content log) (content other) are
          (subst (λ (l : List ℕ). Reads l (payloads_of batches)) (sym whole)
          (reads_rest (payloads_of batches) are.short))
          none;
      generation_is = refl;
      size_is = refl;
    } in
    let same = segment_once (log, other) generation size 0 (end_of batches) has here in
    omega (arith, same.1, long pending cut, fits)
