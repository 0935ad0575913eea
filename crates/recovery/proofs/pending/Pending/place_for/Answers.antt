use Rattle.std.proofs.Common.{inl, inr, ◌≡◌, ◌<◌, ◌+◌, ◌++◌, ◌∷◌, [], List, ℕ, length, length-append, map, refl, sym}
use Rattle.std.proofs.Common.{ap, ◌∙◌, subst, arith}
use Rattle.std.specs.Prelude.{Vec, vec_items}
use Rattle.std.specs.declared.alloc.Global.{Global}
use Rattle.std.proofs.lemmas.Bool.{false≢true}
use Rattle.std.proofs.lemmas.List.{length-map, map-append}
use Rattle.ledger_core.specs.declared.note.Note.{Note}
use Rattle.ledger_core.specs.Batch.{AreBatches, batch_spelling, payload_of, together}
use Rattle.std.proofs.lemmas.List.{append-nil}
use Rattle.std.proofs.lemmas.Bool.{cases_lt}
use Rattle.std.specs.Int.{to_be_bytes, w32}
use Rattle.ledger_core.specs.BatchLaws.{AreBatches-back, together-append}
use Rattle.ledger_core.specs.Spelling.{spelling}
use Rattle.recovery.proofs.Pends.{Ends, ends, last-apart, last_batch, nil-of}
use Rattle.recovery.proofs.Places.{ends-begins, ends-joins, places-begins, places-joins}
use Rattle.recovery.proofs.pending.Pending.place_for.Goals as goal

-- the last of the payloads, as octets and as a vector
record Same (items : List (Vec ℕ Global)) (octets : List ℕ) : Type 0 where
  end : Ends items
  same : end.last.items ≡ octets

same_last : (items : List (Vec ℕ Global)) (prefix : List (List ℕ)) (octets : List ℕ)
    → map vec_items items ≡ prefix ++ octets ∷ [] → Same items octets
same_last items prefix octets split =
    let some : 0 < length items =
    omega (
      arith,
      ap length split,
      length-append prefix (octets ∷ []),
      length-map items (λ (v : Vec ℕ Global). v.items),
    ) in
    let end = ends items some in
    let parts = last-apart (map vec_items end.prefix) prefix end.last.items octets
    (sym (map-append (λ (v : Vec ℕ Global). v.items) end.prefix (end.last ∷ []))
    ∙ (ap (map vec_items) (sym end.is) ∙ split)) in
    record { end = end; same = parts.1 }

joined_length : (batch : List Note) (note : Note) → length (batch_spelling (batch ++ note ∷ []))
    ≡ 5 + length (together batch) + length (spelling note)
joined_length batch note = omega (
  arith,
  length-append (to_be_bytes w32 (length (batch ++ note ∷ []))) (together (batch ++ note ∷ [])),
  ap length (together-append batch (note ∷ [])),
  length-append (together batch) (together (note ∷ [])),
  ap length (append-nil (spelling note)),
)

pub returns-then-not-joins-clause-places : goal.returns-then-not-joins-clause-places
returns-then-not-joins-clause-places c = λ kept new ledger notes note holds ends_at indexes len grows.
    let items = c.args.self.now.payloads.items in
    elim grows [
      | inl begins ↦ places-begins kept (map vec_items items) new ledger note c.args.next _ _ indexes begins.0
          ends_at.next_is
          (omega (
            arith,
            c.len-count.ensures,
            c.args.self.now.payloads.ok.0,
            length-map items (λ (v : Vec ℕ Global). v.items),
          )) (omega (arith, c.record_behind.ensures, len))
      | inr joins ↦
          let last = same_last items joins.prefix (payload_of joins.batch) joins.was in
          absurd (false≢true ((c.if-not-joins.ensures.joins last.end.prefix last.end.last last.end.is joins.batch note
          joins.is last.same len).1 joins.fits))
    ]

pub returns-then-not-joins-clause-ends : goal.returns-then-not-joins-clause-ends
returns-then-not-joins-clause-ends c = λ kept new notes note holds ends_at len grows.
    let items = c.args.self.now.payloads.items in
    elim grows [
      | inl begins ↦ ends-begins kept (map vec_items items) new note c.args.next _ begins.0 ends_at.next_is
          (omega (arith, c.record_behind.ensures, len))
      | inr joins ↦
          let last = same_last items joins.prefix (payload_of joins.batch) joins.was in
          absurd (false≢true ((c.if-not-joins.ensures.joins last.end.prefix last.end.last last.end.is joins.batch note
          joins.is last.same len).1 joins.fits))
    ]

pub returns-clause-places : goal.returns-clause-places
returns-clause-places c = λ kept new ledger notes note holds ends_at indexes len grows.
    let items = c.args.self.now.payloads.items in
    elim grows [
      | inl begins ↦ elim (cases_lt 0 (length items)) [
        | inl some ↦
            let end = ends items some in
            let last = last_batch end.prefix end.last holds.batches (ap (map vec_items) (sym end.is)
            ∙ holds.payloads) in
            let split : map vec_items items ≡ map vec_items end.prefix ++ payload_of last.batch ∷ [] =
            ap (map vec_items) end.is ∙ (map-append (λ (v : Vec ℕ Global). v.items) end.prefix (end.last ∷ [])
            ∙ ap (λ (p : List ℕ). map vec_items end.prefix ++ p ∷ []) last.last_is) in
            let is = (AreBatches-back last.before (last.batch ∷ []) (subst AreBatches last.is holds.cut.are)).0 in
            absurd (omega (
              arith,
              begins.1 (map vec_items end.prefix) last.batch is split,
              (c.if-not-joins.ensures.joins end.prefix end.last end.is last.batch note is last.last_is len).0 refl,
            ))
        | inr none ↦ absurd (c.if-not-joins.ensures.none (nil-of items (omega (arith, none))) refl)
      ]
      | inr joins ↦
          let last = same_last items joins.prefix (payload_of joins.batch) joins.was in
          let joined = c.joined-joined.ensures last.end.prefix last.end.last last.end.is joins.batch note joins.is last.same len in
          places-joins kept (map vec_items items) new ledger note c.args.last _ _ _ indexes joins ends_at.last_is
          (omega (
            arith,
            c.saturating_sub.ensures,
            c.len-count.ensures,
            c.args.self.now.payloads.ok.0,
            length-map items (λ (v : Vec ℕ Global). v.items),
            ap length joins.was,
            length-append joins.prefix (payload_of joins.batch ∷ []),
          ))
          (omega (
            arith,
            joined,
            joined_length joins.batch note,
            joins.fits,
            len,
            c.saturating_sub-2.ensures,
            c.min.ensures,
          ))
          (omega (arith, c.record_behind-2.ensures, joined))
    ]

pub returns-clause-ends : goal.returns-clause-ends
returns-clause-ends c = λ kept new notes note holds ends_at len grows.
    let items = c.args.self.now.payloads.items in
    elim grows [
      | inl begins ↦ elim (cases_lt 0 (length items)) [
        | inl some ↦
            let end = ends items some in
            let last = last_batch end.prefix end.last holds.batches (ap (map vec_items) (sym end.is)
            ∙ holds.payloads) in
            let split : map vec_items items ≡ map vec_items end.prefix ++ payload_of last.batch ∷ [] =
            ap (map vec_items) end.is ∙ (map-append (λ (v : Vec ℕ Global). v.items) end.prefix (end.last ∷ [])
            ∙ ap (λ (p : List ℕ). map vec_items end.prefix ++ p ∷ []) last.last_is) in
            let is = (AreBatches-back last.before (last.batch ∷ []) (subst AreBatches last.is holds.cut.are)).0 in
            absurd (omega (
              arith,
              begins.1 (map vec_items end.prefix) last.batch is split,
              (c.if-not-joins.ensures.joins end.prefix end.last end.is last.batch note is last.last_is len).0 refl,
            ))
        | inr none ↦ absurd (c.if-not-joins.ensures.none (nil-of items (omega (arith, none))) refl)
      ]
      | inr joins ↦
          let last = same_last items joins.prefix (payload_of joins.batch) joins.was in
          let joined = c.joined-joined.ensures last.end.prefix last.end.last last.end.is joins.batch note joins.is last.same len in
          ends-joins kept (map vec_items items) new note c.args.last _ joins ends_at.last_is
          (omega (arith, c.record_behind-2.ensures, joined))
    ]
