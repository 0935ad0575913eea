-- A ledger that says where its debts are, as notes come and go.
use Rattle.std.proofs.Common.{◌≡◌, ℕ, ◌+◌, ◌-◌, ◌<◌, ◌≤◌, ◌^◌, List, [], ◌∷◌, ◌++◌, length, refl, ap, ◌∙◌, subst, arith}
use Rattle.std.proofs.Common.{length-append}
use Rattle.std.specs.Prelude.{min, Result, Ok, Err, OnErr}
use Rattle.tape_journal.specs.Segment.{gated, open_gate, records}
use Rattle.tape_journal.specs.SegmentLaws.{length-sized}
use Rattle.std.proofs.Common.{get_or}
use Rattle.ledger_core.specs.declared.note.Note.{Note}
use Rattle.ledger_core.specs.IndexLaws.{found-alone, placed, stands-last}
use Rattle.ledger_core.specs.Spelling.{spelling}
use Rattle.ledger_core.specs.Spots.{IsPlaced, StandsAt, records_length}

-- as long as the records
pub records-long : (payloads : List (List ℕ)) → records_length payloads ≡ length (records payloads)
records-long [] = refl
records-long (payload ∷ payloads) =
    omega (
      arith,
      records-long payloads,
      length-sized payload,
      length-append (gated open_gate payload)
          (records payloads),
    )

-- the next record begins after all others
pub next_end : (payloads : List (List ℕ)) (end next : ℕ) → next ≡ end → end ≡ length (records payloads) → end < 2 ^ 64
    - 1
    → next ≡ min (records_length payloads) (2 ^ 64 - 1)
next_end payloads end next is ends fits = omega (arith, is, ends, fits, records-long payloads)

-- ---- what pends

-- a note that comes after all that pends
pub placed-last : (kept pending : List (List ℕ)) (next slot : ℕ) (note : Note) (payload : List ℕ)
    → next ≡ min (records_length (kept ++ pending)) (2 ^ 64 - 1) → slot ≡ length pending → payload ≡ spelling note
    → IsPlaced (length kept) ((kept ++ pending) ++ payload ∷ []) next slot 0 note
placed-last kept pending next slot note payload next_is slot_is spelled =
    let prefix = kept ++ pending in
    placed (length kept) (prefix ++ payload ∷ []) next slot 0 note
    (found-alone (length kept) (prefix ++ payload ∷ []) next slot note
    (subst (λ (p : List ℕ). StandsAt (length kept) (prefix ++ payload ∷ []) next slot p) spelled
    (stands-last (length kept) prefix next slot payload next_is (omega (arith, slot_is, length-append kept pending)))))

-- ---- what stands there

-- what begins before the end of these payloads is one of them
pub record Among (payloads prefix : List (List ℕ)) (payload : List ℕ) : Type 0 where
  pub behind : List (List ℕ)
  pub split : payloads ≡ prefix ++ payload ∷ behind

pub on_tape : (payloads pending prefix behind : List (List ℕ)) (payload : List ℕ)
    → payloads ++ pending ≡ prefix ++ payload ∷ behind → records_length prefix < records_length payloads
    → Among payloads prefix payload
on_tape [] pending prefix behind payload split before = absurd (omega (arith, before))
on_tape (first ∷ payloads) pending [] behind payload split before =
    let same : first ≡ payload = cc split in
    record { behind = payloads; split = ap (λ (p : List ℕ). p ∷ payloads) same }
on_tape (first ∷ payloads) pending (other ∷ prefix) behind payload split before =
    let same : first ≡ other = cc split in
    let rest : payloads ++ pending ≡ prefix ++ payload ∷ behind = cc split in
    let inner = on_tape payloads pending prefix behind payload rest (omega (arith, before, ap length same)) in
    record {
      behind = inner.behind;
      split = ap (λ (p : List ℕ). p ∷ payloads) same ∙ ap (λ (l : List (List ℕ)). other ∷ l) inner.split;
    }

-- and what doesn't, pends after them
pub record Pends (payloads pending prefix : List (List ℕ)) (payload : List ℕ) (slot : ℕ) : Type 0 where
  pub within : slot < length pending
  pub is : get_or pending slot [] ≡ payload

in_slot : (pending prefix behind : List (List ℕ)) (payload : List ℕ) (slot : ℕ) → pending ≡ prefix ++ payload ∷ behind
    → slot ≡ length prefix → Pends [] pending prefix payload slot
in_slot [] [] behind payload slot split place = cc split
in_slot [] (other ∷ prefix) behind payload slot split place = cc split
in_slot (first ∷ pending) [] behind payload slot split place =
    let same : first ≡ payload = cc split in
    record {
      within = omega (arith, place);
      is = ap (λ (n : ℕ). get_or (first ∷ pending) n []) place ∙ same;
    }
in_slot (first ∷ pending) (other ∷ prefix) behind payload slot split place =
    let rest : pending ≡ prefix ++ payload ∷ behind = cc split in
    let inner = in_slot pending prefix behind payload (length prefix) rest refl in
    record {
      within = omega (arith, place, inner.within);
      is = ap (λ (n : ℕ). get_or (first ∷ pending) n []) place ∙ inner.is;
    }

pub in_pending : (payloads pending prefix behind : List (List ℕ)) (payload : List ℕ) (slot : ℕ)
    → payloads ++ pending ≡ prefix ++ payload ∷ behind → records_length payloads ≤ records_length prefix
    → (length payloads ≤ length prefix → slot + length payloads ≡ length prefix) → Pends payloads pending prefix payload
    slot
in_pending [] pending prefix behind payload slot split before place =
    let inner = in_slot pending prefix behind payload slot split (omega (arith, place (omega arith))) in
    record { within = inner.within; is = inner.is }
in_pending (first ∷ payloads) pending [] behind payload slot split before place = absurd (omega (arith, before))
in_pending (first ∷ payloads) pending (other ∷ prefix) behind payload slot split before place =
    let same : first ≡ other = cc split in
    let rest : payloads ++ pending ≡ prefix ++ payload ∷ behind = cc split in
    let inner = in_pending payloads pending prefix behind payload slot rest (omega (arith, before, ap length same))
    (λ few. omega (arith, place (omega (arith, few)))) in
    record { within = inner.within; is = inner.is }

pub on_err : {T E : Type 0} (r : Result T E) {P : Type 0} → P → OnErr r P
on_err (Ok value) p = tt
on_err (Err fault) p = p
