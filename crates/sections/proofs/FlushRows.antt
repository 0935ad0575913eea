-- The flush of line 3 in the run of docs/THEOREM.md, call by call: all images that a stop may leave of the peer's first
-- disk, and the ledger of each. The third call is in specs/WorkedTapes.antt.
use Rattle.std.proofs.Common.{◌≡◌, ℕ, ◌≤◌, List, [], ◌∷◌, ◌++◌, length, drop, refl, sym, ap, ◌∙◌, subst, arith}
use Rattle.std.proofs.Common.{append_assoc, append-nil, length-drop, take-append-drop}
use Rattle.disk_model.specs.Disk.{Image, Torn}
use Rattle.disk_model.specs.Disk.Event.{Synced}
use Rattle.tape_journal.specs.Segment.{Ends, Reads, records}
use Rattle.tape_journal.specs.SegmentLaws.{reads_on}
use Rattle.ledger_core.specs.Batch.{payloads_of}
use Rattle.recovery.specs.Image.{IsTape}
use Rattle.sections.specs.WorkedTapes.{all_three, all_three_on_tape, first_two, first_two_on_tape, only_two, three}
use Rattle.sections.specs.WorkedTapes.{two_flushed}
use Rattle.sections.specs.WrittenTapes.{flushed_by, gate_open, gate_shut, ledger_in, octets_of, octets_with}
use Rattle.sections.specs.WrittenTapes.{record_written, tape_with}

-- first, 24 octets are written behind the end gate: what was there stays, and any 24 octets, or fewer, follow it
first_images : (c : List ℕ) → Image (record_written first_two (three ∷ []) two_flushed.0) c
    → (more : List ℕ) × (c ≡ octets_of first_two ++ more) × (length more ≤ 24)
first_images c (d, is, torn) =
    let here : Torn 49 24 (octets_of first_two) c =
    subst (λ (l : List ℕ). Torn 49 24 l c) (only_two.images d is) torn in (
      drop 49 c,
      sym (take-append-drop 49 c) ∙ ap (λ (l : List ℕ). l ++ drop 49 c) here.before,
      omega (arith, length-drop 49 c, here.no_longer),
    )

closed_ends : (more : List ℕ) → Ends (0 ∷ more)
closed_ends [] = tt
closed_ends (octet ∷ more) = λ same. omega (arith, same)

-- each of them is a tape that owes lines 1 and 2: the end gate is closed
first_is : (more : List ℕ) → IsTape (octets_of first_two ++ more, []) (ledger_in first_two)
first_is more =
    let payloads = payloads_of first_two in
    let reads : Reads (records payloads ++ 0 ∷ more) (payloads ++ []) =
    reads_on payloads (0 ∷ more) [] first_two_on_tape.short (omega arith) (closed_ends more) in
    tape_with first_two (octets_of first_two ++ more) [] first_two_on_tape
    (subst (λ (l : List ℕ). Reads l payloads) (sym (append_assoc (records payloads) (0 ∷ []) more))
    (subst (λ (all : List (List ℕ)). Reads (records payloads ++ 0 ∷ more) all) (append-nil payloads) reads)) refl

-- the sync leaves one image, with the gate of the record closed
second_images : (c : List ℕ) → Image (Synced ∷ record_written first_two (three ∷ []) two_flushed.0) c
    → c ≡ octets_with first_two (three ∷ []) 0
second_images c is = is

second_is : IsTape (octets_with first_two (three ∷ []) 0, []) (ledger_in first_two)
second_is = gate_shut first_two (three ∷ []) 0 [] first_two_on_tape (λ same. omega (arith, same)) refl

-- and so does the last one: the gate is open, and all three are owed
fourth_images : (c : List ℕ) → Image (flushed_by first_two (three ∷ []) two_flushed.0) c → c ≡ octets_of all_three
fourth_images c is = is

fourth_is : IsTape (octets_of all_three, []) (ledger_in all_three)
fourth_is = gate_open first_two (three ∷ []) [] first_two_on_tape all_three_on_tape (omega arith, tt) refl
