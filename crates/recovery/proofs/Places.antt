-- The place of a note that comes after all pending ones.
use Rattle.std.proofs.Common.{◌≡◌, inl, inr, ℕ, ◌+◌, ◌-◌, ◌^◌, List, [], ◌∷◌, ◌++◌, length, min, refl, sym, ap, ◌∙◌}
use Rattle.std.proofs.Common.{subst, arith, length-append}
use Rattle.std.proofs.lemmas.List.{append_assoc}
use Rattle.std.specs.Int.{to_be_bytes, w32}
use Rattle.ledger_core.specs.declared.ledger.Ledger.{Ledger}
use Rattle.ledger_core.specs.declared.note.Note.{Note}
use Rattle.ledger_core.specs.Batch.{batch_spelling, payload_of, together}
use Rattle.ledger_core.specs.BatchLaws.{body-joined, joined-payload}
use Rattle.ledger_core.specs.Index.{Indexes}
use Rattle.ledger_core.specs.IndexLaws.{found-joined, indexes-grown, indexes-more, placed, records_length-append}
use Rattle.ledger_core.specs.Spelling.{spelling}
use Rattle.ledger_core.specs.Spots.{IsFound, IsPlaced, records_length}
use Rattle.recovery.specs.Pending.{EndsAt, Grows, Joins, Places}
use Rattle.recovery.proofs.Indexed.{placed-last}
use Rattle.recovery.proofs.Pends.{last-apart}

-- where the last record begins, and where one after all of them will begin, once the note begins a record
pub ends-begins : (kept old new : List (List ℕ)) (note : Note) (at next : ℕ) → new ≡ old ++ spelling note ∷ []
    → at ≡ min (records_length (kept ++ old)) (2 ^ 64 - 1)
    → next ≡ min (at + (5 + length (spelling note))) (2 ^ 64 - 1) → EndsAt kept new at next
ends-begins kept old new note at next is at_is step =
    let payload = spelling note in
    let whole : (kept ++ old) ++ payload ∷ [] ≡ kept ++ new =
    append_assoc kept old (payload ∷ []) ∙ ap (λ (l : List (List ℕ)). kept ++ l) (sym is) in
    record {
      next_is = subst (λ (l : List (List ℕ)). next ≡ min (records_length l) (2 ^ 64 - 1)) whole
          (omega (arith, step, at_is, records_length-append (kept ++ old) (payload ∷ [])));
      last_is = λ prefix last split.
          let parts = last-apart old prefix payload last (sym is ∙ split) in
          at_is ∙ ap (λ (l : List (List ℕ)). min (records_length (kept ++ l)) (2 ^ 64 - 1)) parts.0;
    }

-- and once it joins the last
pub ends-joins : (kept old new : List (List ℕ)) (note : Note) (at next : ℕ) → (joins : Joins old new note)
    → ((prefix : List (List ℕ)) (payload : List ℕ) → old ≡ prefix ++ payload ∷ []
    → at ≡ min (records_length (kept ++ prefix)) (2 ^ 64 - 1))
    → next ≡ min (at + (5 + length (batch_spelling (joins.batch ++ note ∷ [])))) (2 ^ 64 - 1) → EndsAt kept new at next
ends-joins kept old new note at next joins at_is step =
    let batch = joins.batch in
    let prefix = joins.prefix in
    let grown = payload_of (batch ++ note ∷ []) in
    let here = at_is prefix (payload_of batch) joins.was in
    let whole : (kept ++ prefix) ++ grown ∷ [] ≡ kept ++ new =
    append_assoc kept prefix (grown ∷ []) ∙ ap (λ (l : List (List ℕ)). kept ++ l) (sym joins.now) in
    record {
      next_is = subst (λ (l : List (List ℕ)). next ≡ min (records_length l) (2 ^ 64 - 1)) whole
          (omega (
            arith,
            step,
            here,
            ap length (joined-payload batch note joins.is),
            records_length-append (kept ++ prefix) (grown ∷ []),
          ));
      last_is = λ others last split.
          let parts = last-apart prefix others grown last (sym joins.now ∙ split) in
          here ∙ ap (λ (l : List (List ℕ)). min (records_length (kept ++ l)) (2 ^ 64 - 1)) parts.0;
    }

-- what stood there stands there still
pub grows-indexes : (kept : ℕ) (prefix old new : List (List ℕ)) (ledger : Ledger) (note : Note) → Grows old new note
    → Indexes kept (prefix ++ old) ledger → Indexes kept (prefix ++ new) ledger
grows-indexes kept prefix old new ledger note (inl begins) indexes =
    subst (λ (l : List (List ℕ)). Indexes kept l ledger)
    (append_assoc prefix old (spelling note ∷ []) ∙ ap (λ (l : List (List ℕ)). prefix ++ l) (sym begins.0))
    (indexes-more kept (prefix ++ old) (spelling note ∷ []) ledger indexes)
grows-indexes kept prefix old new ledger note (inr joins) indexes =
    let batch = joins.batch in
    let grown = payload_of (batch ++ note ∷ []) in
    let before : prefix ++ old ≡ (prefix ++ joins.prefix) ++ payload_of batch ∷ [] =
    ap (λ (l : List (List ℕ)). prefix ++ l) joins.was ∙ sym (append_assoc prefix joins.prefix (payload_of batch ∷
    [])) in
    let whole : (prefix ++ joins.prefix) ++ grown ∷ [] ≡ prefix ++ new =
    append_assoc prefix joins.prefix (grown ∷ []) ∙ ap (λ (l : List (List ℕ)). prefix ++ l) (sym joins.now) in
    subst (λ (l : List (List ℕ)). Indexes kept l ledger) whole
    (indexes-grown kept (prefix ++ joins.prefix) (payload_of batch) grown (spelling note) ledger
    (body-joined batch note joins.is)
    (to_be_bytes w32 (length (batch ++ note ∷ [])) ++ together (batch ++ note ∷ [])) (joined-payload batch note joins.is)
    (subst (λ (l : List (List ℕ)). Indexes kept l ledger) before indexes))

-- it begins a record
pub places-begins : (kept old new : List (List ℕ)) (ledger : Ledger) (note : Note) (at slot next : ℕ)
    → Indexes (length kept) (kept ++ old) ledger → new ≡ old ++ spelling note ∷ []
    → at ≡ min (records_length (kept ++ old)) (2 ^ 64 - 1) → slot ≡ length old
    → next ≡ min (at + (5 + length (spelling note))) (2 ^ 64 - 1)
    → Places kept new ledger note (record { at = at; slot = slot; within = 0; next = next })
places-begins kept old new ledger note at slot next indexes is at_is slot_is step =
    let payload = spelling note in
    let whole : (kept ++ old) ++ payload ∷ [] ≡ kept ++ new =
    append_assoc kept old (payload ∷ []) ∙ ap (λ (l : List (List ℕ)). kept ++ l) (sym is) in
    record {
      indexes = subst (λ (l : List (List ℕ)). Indexes (length kept) l ledger) whole
          (indexes-more (length kept) (kept ++ old) (payload ∷ []) ledger indexes);
      stands = subst (λ (l : List (List ℕ)). IsPlaced (length kept) l at slot 0 note) whole
          (placed-last kept old at slot note payload at_is slot_is refl);
      ends = ends-begins kept old new note at next is at_is step;
    }

-- it joins the last record
pub places-joins : (kept old new : List (List ℕ)) (ledger : Ledger) (note : Note) (at slot within next : ℕ)
    → Indexes (length kept) (kept ++ old) ledger → (joins : Joins old new note)
    → ((prefix : List (List ℕ)) (payload : List ℕ) → old ≡ prefix ++ payload ∷ []
    → at ≡ min (records_length (kept ++ prefix)) (2 ^ 64 - 1))
    → slot + 1 ≡ length old → within ≡ length (together joins.batch)
    → next ≡ min (at + (5 + length (batch_spelling (joins.batch ++ note ∷ [])))) (2 ^ 64 - 1)
    → Places kept new ledger note (record { at = at; slot = slot; within = within; next = next })
places-joins kept old new ledger note at slot within next indexes joins at_is slot_is is step =
    let batch = joins.batch in
    let prefix = joins.prefix in
    let grown = payload_of (batch ++ note ∷ []) in
    let here = at_is prefix (payload_of batch) joins.was in
    let whole : (kept ++ prefix) ++ grown ∷ [] ≡ kept ++ new =
    append_assoc kept prefix (grown ∷ []) ∙ ap (λ (l : List (List ℕ)). kept ++ l) (sym joins.now) in
    let place : slot + length kept ≡ length (kept ++ prefix) =
    omega (
      arith,
      slot_is,
      ap length joins.was,
      length-append prefix (payload_of batch ∷ []),
      length-append kept prefix,
    ) in
    record {
      indexes = grows-indexes (length kept) kept old new ledger note (inr joins) indexes;
      stands = placed (length kept) (kept ++ new) at slot within note
          (subst (λ (l : List (List ℕ)). IsFound (length kept) l at slot within (spelling note)) whole
          (subst (λ (p : List ℕ). IsFound (length kept) ((kept ++ prefix) ++ p ∷ []) at slot within (spelling note))
          (sym (joined-payload batch note joins.is))
          (found-joined (length kept) (kept ++ prefix) batch note at slot within here (λ pends. place) is)));
      ends = ends-joins kept old new note at next joins at_is step;
    }
