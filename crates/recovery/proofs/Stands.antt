-- How what a tape stands for goes on.
use Rattle.std.proofs.Common.{◌≡◌, ℕ, zero, suc, ◌+◌, ◌-◌, ◌≤◌, ◌^◌, true, List, [], ◌∷◌, ◌++◌, length, take, drop}
use Rattle.std.proofs.Common.{take-append-drop, refl, sym, ◌∙◌, ap, subst, arith, length-append, length-drop}
use Rattle.std.specs.Prelude.{Option, min, map, vec_items}
use Rattle.std.proofs.Math.Bridge.{le_prop}
use Rattle.std.proofs.Math.Seq.{take-add, take-append-add}
use Rattle.std.proofs.lemmas.List.{append-nil, take_all, take_at, drop_all, take-append-le, drop-append-le}
use Rattle.disk_model.specs.Disk.{Event, EachImage, Image, Leaves}
use Rattle.disk_model.specs.MomentLaws.{Leaves-weaker}
use Rattle.disk_model.specs.declared.Disk.{Ghosts}
use Rattle.tape_journal.specs.Journal.{Holds, disk_of as journal_disk}
use Rattle.tape_journal.specs.Segment.{Reads, ReadsFrom, IsShort}
use Rattle.tape_journal.specs.SegmentLaws.{reads_rest}
use Rattle.ledger_core.specs.declared.note.Note.{Note}
use Rattle.ledger_core.specs.Base.{Restores}
use Rattle.ledger_core.specs.Index.{Indexes}
use Rattle.ledger_core.specs.Spots.{records_length}
use Rattle.ledger_core.specs.StateLaws.{after-append, AllLegal-back}
use Rattle.ledger_core.specs.Note.{AreNotes, IsNote}
use Rattle.ledger_core.specs.Batch.{AreBatches, notes_of, payload_of, payloads_of}
use Rattle.ledger_core.specs.BatchLaws.{AreBatches-prefix, notes_of-append}
use Rattle.ledger_core.specs.Spelling.{spelling}
use Rattle.ledger_core.specs.SpellingLaws.{spelling-short}
use Rattle.ledger_core.specs.State.{State, AllLegal, after}
use Rattle.ledger_core.specs.WrittenLaws.{restores-on}
use Rattle.recovery.specs.Notes.{AreLegal, History, flushed, ledger_after, most_pending, noted_all}
use Rattle.recovery.specs.Image.{EachTape, IsTape, Survives, TapeLeaves}
use Rattle.recovery.specs.TapeLaws.{AreLegal-append, AreLegal-take, Survives-noted_all, Survives-whole, tape_placed}
use Rattle.recovery.specs.PairLaws.{live_leaves, pair-placed, pairs-now}
use Rattle.recovery.specs.Pairs.{placed}
use Rattle.recovery.specs.Pending.{Holds as HoldsNotes, payloads_in}
use Rattle.recovery.specs.Tape.{IsIndexed, StandsFor, StaysBehind}
use Rattle.recovery.specs.Words.{AreHonest, IsBroken, generation_of, ledger_of, live_log, live_segment, log_of}
use Rattle.recovery.specs.Words.{other_log}
use Rattle.recovery.specs.Words.{pending_of}
use Rattle.recovery.specs.declared.tape_segments.TapeSegments.{TapeSegments}
use Rattle.recovery.specs.declared.tape.Tape.{Tape}
use Rattle.recovery.proofs.Pends.{ends-none, holds-none, holds-same}

-- ---- what pends

-- the first of the payloads are of the first of the batches
pub payloads_of-take : (batches : List (List Note)) (n : ℕ) → take n (payloads_of batches) ≡ payloads_of (take n batches)
payloads_of-take batches zero = refl
payloads_of-take [] (suc n) = refl
payloads_of-take (batch ∷ batches) (suc n) =
    ap (λ (l : List (List ℕ)). payload_of batch ∷ l) (payloads_of-take batches n)

notes_of-split : (batches : List (List Note)) (n : ℕ)
    → notes_of batches ≡ notes_of (take n batches) ++ notes_of (drop n batches)
notes_of-split batches n =
    ap notes_of (sym (take-append-drop n batches)) ∙ notes_of-append (take n batches) (drop n batches)

AreBatches-take : (batches : List (List Note)) (n : ℕ) → AreBatches batches → AreBatches (take n batches)
AreBatches-take batches n are =
    AreBatches-prefix (take n batches) (drop n batches) (subst AreBatches (sym (take-append-drop n batches)) are)

pub note_short : (note : Note) → IsNote note → IsShort (spelling note)
note_short note is = omega (arith, spelling-short note is)

-- ---- what goes on

module _ {D : Type 0} {g : Ghosts D} (tape : Tape D g) (h : History) where
  -- nothing pends, and the segment that lives holds the ledger
  pub stands_whole : AreHonest tape → AreLegal h.base h.notes → h.kept ≡ length h.notes → ledger_of tape ≡
      ledger_after h
      → (payloads : List (List ℕ)) → Holds (live_segment tape) payloads → Restores payloads (generation_of tape)
      (ledger_after h)
      → EachImage (StaysBehind tape.segments.second (generation_of tape)) (other_log tape)
      → tape.pending.payloads.items ≡ [] → pending_of tape ≡ 0 → tape.flushed ≡ min (h.kept - h.opened) (2 ^ 64 - 1) → h.opened ≤ h.kept
      → Indexes (length payloads) payloads tape.ledger → tape.next ≡ min (records_length payloads) (2 ^ 64 - 1) →
      StandsFor tape h
  stands_whole honest legal all ledger payloads holds restores other none no_note count opened indexes next =
      let here : take h.kept h.notes ≡ h.notes = take_all h.kept h.notes (omega (arith, all)) in
      let rest : drop h.kept h.notes ≡ [] = drop_all h.kept h.notes (omega (arith, all)) in
      let nothing : payloads_in tape.pending ≡ [] = ap (map vec_items) none in
      let whole : payloads ++ payloads_in tape.pending ≡ payloads =
      ap (λ (l : List (List ℕ)). payloads ++ l) nothing ∙ append-nil payloads in
      record {
        honest = honest;
        are_legal = legal;
        opened = opened;
        kept_within = omega (arith, all);
        ledger = ledger;
        count = count;
        images = pair-placed (Survives h) tape.segments.second (live_log tape) (other_log tape) (λ c d is is'.
            let reads : Reads c payloads = subst (λ (l : List ℕ). Reads l payloads) (sym (holds.rest.only.images c is))
            (reads_rest payloads holds.rest.short) in
            let behind = other d is' in
            Survives-whole h (placed tape.segments.second c d) legal (omega (arith, all))
            (tape_placed tape.segments.second c d payloads (generation_of tape) behind.other (ledger_after h) reads
            restores
            behind.has behind.behind));
        working = λ works. record {
          payloads = payloads;
          holds = holds;
          restores = subst (λ (notes : List Note). Restores payloads (generation_of tape) (after h.base notes))
              (sym here) restores;
          other = other;
          pending = subst (HoldsNotes tape.pending) (sym rest) (holds-none tape.pending none);
          pending_count = omega (arith, no_note, ap length rest);
          indexed = record {
            indexes = subst (λ (l : List (List ℕ)). Indexes (length payloads) l tape.ledger) (sym whole) indexes;
            ends = ends-none payloads (payloads_in tape.pending) tape.last tape.next nothing next;
          };
        };
      }

  -- what lies on the disk and the first of what pends
  appended : StandsFor tape h → (works : IsBroken tape → ⊥) → (payloads : List (List ℕ)) → Restores payloads
      (generation_of tape) (after h.base (take h.kept h.notes))
      → EachImage (StaysBehind tape.segments.second (generation_of tape)) (other_log tape)
      → HoldsNotes tape.pending (drop h.kept h.notes)
      → (c : List ℕ) → ReadsFrom (length payloads) (payloads ++ payloads_in tape.pending) c
      → (d : List ℕ) → Image (other_log tape) d → Survives h (placed tape.segments.second c d)
  appended stands works payloads restores other pending c (n, low, high, reads) d is =
      let m = n - length payloads in
      let batches = pending.batches in
      let first = take m batches in
      let count = length (notes_of first) in
      let more = drop h.kept h.notes in
      let state = after h.base (take h.kept h.notes) in
      let behind = other d is in
      let plus : n ≡ length payloads + m = omega (arith, low) in
      let split : more ≡ notes_of first ++ notes_of (drop m batches) = sym pending.cut.whole ∙ notes_of-split batches m in
      let few : h.kept + count ≤ length h.notes =
      omega (
        arith,
        ap length split,
        length-append (notes_of first) (notes_of (drop m batches)),
        length-drop h.kept h.notes,
        stands.kept_within,
      ) in
      let prefix : take (h.kept + count) h.notes ≡ take h.kept h.notes ++ notes_of first =
      take-add h.kept count h.notes ∙ ap (λ (l : List Note). take h.kept h.notes ++ l)
      (ap (take count) split ∙ take_at (notes_of first) (notes_of (drop m batches)) count refl) in
      let legal : AreLegal h.base (take (h.kept + count) h.notes) = AreLegal-take h.base h.notes (h.kept + count)
      stands.are_legal in
      let lawful : AllLegal state (notes_of first) =
      AllLegal-back h.base (take h.kept h.notes) (notes_of first) (subst (AllLegal h.base) prefix legal.legal) in
      let here : take n (payloads ++ payloads_in tape.pending) ≡ payloads ++ payloads_of first =
      ap (λ (k : ℕ). take k (payloads ++ payloads_in tape.pending)) plus
      ∙ (take-append-add payloads (payloads_in tape.pending) m
      ∙ ap (λ (l : List (List ℕ)). payloads ++ l) (ap (take m) pending.payloads ∙ payloads_of-take batches m)) in
      let left : after state (notes_of first) ≡ after h.base (take (h.kept + count) h.notes) =
      sym (after-append h.base (take h.kept h.notes) (notes_of first)) ∙ ap (after h.base) (sym prefix) in
      record {
        count = h.kept + count;
        enough = omega arith;
        within = few;
        legal = legal;
        tape = subst (IsTape (placed tape.segments.second c d)) left
            (tape_placed tape.segments.second c d (payloads ++ payloads_of first) (generation_of tape)
            behind.other
            (after state (notes_of first)) (subst (Reads c) here reads)
            (restores-on payloads (generation_of tape) state first restores
            (AreBatches-take batches m pending.cut.are) lawful) behind.has
            behind.behind);
      }

  -- at each moment of a flush of a tape that works
  pub flush_moments : (new : List Event) → StandsFor tape h → (IsBroken tape → ⊥)
      → ((all : List (List ℕ)) → Holds (live_segment tape) all → Leaves
      (ReadsFrom (length all) (all ++ payloads_in tape.pending)) (live_log tape) new)
      → TapeLeaves (Survives h) (log_of tape) (placed tape.segments.second new (other_log tape))
  flush_moments new stands works moments =
      let w = stands.working works in
      live_leaves (Survives h) tape.segments.second (live_log tape) new (other_log tape)
      (Leaves-weaker (ReadsFrom (length w.payloads) (w.payloads ++ payloads_in tape.pending))
      (λ c. (d : List ℕ) → Image (other_log tape) d → Survives h (placed tape.segments.second c d))
      (λ c reads. appended stands works w.payloads w.restores w.other w.pending c reads)
      (live_log tape) new (moments w.payloads w.holds))

  -- if nothing pends, all is acknowledged
  pub stands_idle : StandsFor tape h → (IsBroken tape → ⊥) → pending_of tape ≡ 0 → StandsFor tape (flushed h)
  stands_idle stands works none =
      let w = stands.working works in
      let all : h.kept ≡ length h.notes =
      omega (arith, none, w.pending_count, length-drop h.kept h.notes, stands.kept_within) in
      subst (λ (k : ℕ). StandsFor tape (record h { kept = k })) all stands

  pub idle_count : StandsFor tape h → (IsBroken tape → ⊥) → pending_of tape ≡ 0
      → tape.flushed ≡ min (length h.notes - h.opened) (2 ^ 64 - 1)
  idle_count stands works none =
      let w = stands.working works in
      omega (arith, none, stands.count, w.pending_count, length-drop h.kept h.notes, stands.kept_within)

-- some notes more, which pend
pub stands_noted_all : {D : Type 0} {g : Ghosts D} (old new : Tape D g) (h : History) (notes : List Note)
    → StandsFor old h → new.segments ≡ old.segments → AreNotes notes → AllLegal
    (ledger_of old) notes → ledger_of new ≡ after (ledger_of old) notes
    → new.flushed ≡ old.flushed → pending_of new ≡ pending_of old + length notes
    → ((more : List Note) → HoldsNotes old.pending more → HoldsNotes new.pending (more ++ notes))
    → ((kept : List (List ℕ)) (more : List Note) → HoldsNotes old.pending more → IsIndexed old kept → IsIndexed new kept)
    → StandsFor new (noted_all h notes)
stands_noted_all {D} {g} old new h notes stands same are legal stepped flushed count holds grows =
    let here : AllLegal (ledger_after h) notes = subst (λ (s : State). AllLegal s notes) stands.ledger legal in
    let prefix : take h.kept (h.notes ++ notes) ≡ take h.kept h.notes = take-append-le h.kept h.notes notes
    stands.kept_within in
    let back : drop h.kept (h.notes ++ notes) ≡ drop h.kept h.notes ++ notes = drop-append-le h.kept h.notes notes
    stands.kept_within in
    record {
      honest = subst (λ (s : TapeSegments D g). g.honest (journal_disk s.live)
          × g.honest s.other) (sym same) stands.honest;
      are_legal = AreLegal-append h.base h.notes notes stands.are_legal are here;
      opened = stands.opened;
      kept_within = omega (arith, stands.kept_within, length-append h.notes notes);
      count = flushed ∙ stands.count;
      ledger = stepped ∙ (ap (λ (s : State). after s notes) stands.ledger ∙ sym (after-append h.base h.notes notes));
      images = subst (λ (s : TapeSegments D g). EachTape (Survives (noted_all h notes))
          (placed s.second (g.log (journal_disk s.live)) (g.log s.other))) (sym same)
          (λ c d is is'. Survives-noted_all h notes (c, d) (stands.images c d is is'));
      working = λ works.
          let w = stands.working (subst (λ (s : TapeSegments D g). s.live.broken ≡ true → ⊥) same works) in
          record {
            payloads = w.payloads;
            holds = subst (λ (s : TapeSegments D g). Holds s.live w.payloads) (sym same) w.holds;
            restores = subst (λ (s : TapeSegments D g). Restores w.payloads s.generation
                (after h.base (take h.kept (h.notes ++ notes)))) (sym same)
                (subst (λ (l : List Note). Restores w.payloads (generation_of old) (after h.base l)) (sym prefix)
                w.restores);
            other = subst (λ (s : TapeSegments D g). EachImage (StaysBehind s.second s.generation) (g.log s.other))
                (sym same) w.other;
            pending = subst (HoldsNotes new.pending) (sym back) (holds (drop h.kept h.notes) w.pending);
            pending_count = omega (
              arith,
              count,
              w.pending_count,
              ap length back,
              length-append (drop h.kept h.notes) notes,
            );
            indexed = grows w.payloads (drop h.kept h.notes) w.pending w.indexed;
          };
    }

-- after a call that was refused
pub stands_refused : {D : Type 0} {g : Ghosts D} (old new : Tape D g) (h : History) → StandsFor old h → AreHonest new
    → ledger_of new ≡ ledger_of old → payloads_in new.pending ≡ payloads_in old.pending → pending_of new ≡ pending_of old
    → new.flushed ≡ old.flushed
    → TapeLeaves (Survives h) (log_of old) (log_of new) → ((IsBroken new → ⊥) → new.segments ≡ old.segments)
    → ((kept : List (List ℕ)) → IsIndexed old kept → IsIndexed new kept) → StandsFor new h
stands_refused {D} {g} old new h stands honest ledger pending pends flushed moments same still = record {
  honest = honest;
  are_legal = stands.are_legal;
  opened = stands.opened;
  kept_within = stands.kept_within;
  count = flushed ∙ stands.count;
  ledger = ledger ∙ stands.ledger;
  images = pairs-now (Survives h) (log_of old) (log_of new) moments;
  working = λ works.
      let stay = same works in
      let w = stands.working (subst (λ (s : TapeSegments D g). s.live.broken ≡ true → ⊥) stay works) in
      record {
        payloads = w.payloads;
        holds = subst (λ (s : TapeSegments D g). Holds s.live w.payloads) (sym stay) w.holds;
        restores = subst (λ (s : TapeSegments D g). Restores w.payloads s.generation (after h.base (take h.kept
            h.notes)))
            (sym stay) w.restores;
        other = subst (λ (s : TapeSegments D g). EachImage (StaysBehind s.second s.generation) (g.log s.other)) (sym
            stay)
            w.other;
        pending = holds-same old.pending new.pending (drop h.kept h.notes) pending w.pending;
        pending_count = pends ∙ w.pending_count;
        indexed = still w.payloads w.indexed;
      };
}

-- A tape that has another place stands for the same.
pub stands_placed : {D : Type 0} {g : Ghosts D} (tape : Tape D g) (place : Option ℕ)
    (few : pending_of tape ≤ most_pending) (h : History) → StandsFor tape h
    → StandsFor (record tape { place = place; few = few }) h
stands_placed tape place few h stands = record {
  honest = stands.honest;
  are_legal = stands.are_legal;
  opened = stands.opened;
  kept_within = stands.kept_within;
  count = stands.count;
  ledger = stands.ledger;
  images = stands.images;
  working = λ works.
      let w = stands.working works in
      record {
        payloads = w.payloads;
        holds = w.holds;
        restores = w.restores;
        other = w.other;
        pending = w.pending;
        pending_count = w.pending_count;
        indexed = record { indexes = w.indexed.indexes; ends = w.indexed.ends };
      };
}

-- A tape whose segments are the same is the same: what else it keeps is a fact.
pub same_tape : {D : Type 0} {g : Ghosts D} (tape : Tape D g) (segments : TapeSegments D g) → segments ≡ tape.segments
    → (few : pending_of tape ≤ most_pending) → record tape { segments = segments; few = few } ≡ tape
same_tape {D} {g} tape segments same few =
    ap (λ (s : TapeSegments D g). record tape { segments = s; few = few }) same
    ∙ ap (λ (x : pending_of tape ≤ most_pending). record tape { few = x }) (le_prop few tape.few)
