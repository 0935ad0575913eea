-- Where the notes of a ledger's debts are.
use Rattle.std.proofs.Common.{◌≡◌, ℕ, ◌+◌, ◌-◌, ◌<◌, ◌≤◌, ◌^◌, List, [], ◌∷◌, ◌++◌, length, get_or, take, drop, min}
use Rattle.std.proofs.Common.{Result, Ok, Err, refl, sym, ap, ◌∙◌, subst, arith, length-append, length-take}
use Rattle.std.proofs.Common.{take-append-drop}
use Rattle.std.proofs.lemmas.List.{append_assoc, take_more}
use Rattle.std.specs.Prelude.{OnErr, OnOk, Bool, true, false, if◌then◌else◌}
use Rattle.std.specs.Int.{to_be_bytes, w32, w64}
use Rattle.ledger_core.specs.declared.base.Base.{Base}
use Rattle.ledger_core.specs.Base.{base_spelling, has_imports, is_told, owe, told_imports}
use Rattle.ledger_core.specs.Spelling.{spelling}
use Rattle.ledger_core.specs.Spots.{IsFound, PointsAt, StandsAt, debt_of, records_length}
use Rattle.ledger_core.specs.declared.note.Note.TheVariants.{Owe}
use Rattle.ledger_core.specs.declared.spot.DebtEntry.{DebtEntry}

-- what was added points where it was put
pub points-new : (kept : ℕ) (payloads : List (List ℕ)) (number at slot within : ℕ) (entry : DebtEntry) (token id :
    List ℕ)
    → entry.spot.at ≡ at → entry.spot.slot ≡ slot → entry.spot.within ≡ within
    → entry.token.value ≡ token → entry.id.value ≡ id
    → IsFound kept payloads at slot within (spelling (Owe number token id)) → PointsAt kept payloads (number, entry)
points-new kept payloads number at slot within entry token id a s w t i found =
    let octets = spelling (owe (debt_of (number, entry))) in
    subst (λ (n : ℕ). IsFound kept payloads n entry.spot.slot entry.spot.within octets) (sym a)
    (subst (λ (n : ℕ). IsFound kept payloads at n entry.spot.within octets) (sym s)
    (subst (λ (n : ℕ). IsFound kept payloads at slot n octets) (sym w)
    (subst (λ (x : List ℕ). IsFound kept payloads at slot within (spelling (Owe number x entry.id.value))) (sym t)
    (subst (λ (x : List ℕ). IsFound kept payloads at slot within (spelling (Owe number token x))) (sym i) found))))

pub on-err : {T E : Type 0} (r : Result T E) {P : Type 0} → P → OnErr r P
on-err (Ok value) p = tt
on-err (Err fault) p = p

pub on-ok : {T E : Type 0} (r : Result T E) {P : Type 0} → P → OnOk r P
on-ok (Ok value) p = p
on-ok (Err fault) p = tt

-- ---- records, one behind another

pub records-append : (prefix behind : List (List ℕ))
    → records_length (prefix ++ behind) ≡ records_length prefix + records_length behind
records-append [] behind = omega arith
records-append (payload ∷ prefix) behind = omega (arith, records-append prefix behind)

pub records-push : (prefix : List (List ℕ)) (payload : List ℕ)
    → records_length (prefix ++ payload ∷ []) ≡ records_length prefix + (5 + length payload)
records-push prefix payload = omega (arith, records-append prefix (payload ∷ []))

prefix-more : (prefix payloads : List (List ℕ)) (index : ℕ) → index < length payloads
    → prefix ++ take (index + 1) payloads ≡ (prefix ++ take index payloads) ++ get_or payloads index [] ∷ []
prefix-more prefix payloads index within =
    ap (λ (l : List (List ℕ)). prefix ++ l) (take_more payloads index [] within)
    ∙ sym (append_assoc prefix (take index payloads) (get_or payloads index [] ∷ []))

-- a payload behind the others, all of which are on the tape
pub stands-here : (kept : ℕ) (prefix payloads : List (List ℕ)) (index at : ℕ) → index < length payloads
    → length prefix + length payloads ≤ kept
    → at ≡ min (records_length (prefix ++ take index payloads)) (2 ^ 64 - 1)
    → StandsAt kept (prefix ++ payloads) at 0 (get_or payloads index [])
stands-here kept prefix payloads index at within few is =
    let before = prefix ++ take index payloads in
    let rest = drop (index + 1) payloads in
    record {
      prefix = before;
      behind = rest;
      split = ap (λ (l : List (List ℕ)). prefix ++ l) (sym (take-append-drop (index + 1) payloads))
          ∙ (sym (append_assoc prefix (take (index + 1) payloads) rest)
          ∙ (ap (λ (l : List (List ℕ)). l ++ rest) (prefix-more prefix payloads index within)
          ∙ append_assoc before (get_or payloads index [] ∷ []) rest));
      at_is = is;
      slot_is = λ pends. absurd
          (omega (arith, pends, few, within, length-append prefix (take index payloads), length-take index payloads));
    }

-- and where the next one does
pub next-here : (prefix payloads : List (List ℕ)) (index at next : ℕ) → index < length payloads
    → at ≡ min (records_length (prefix ++ take index payloads)) (2 ^ 64 - 1)
    → next ≡ min (at + (5 + length (get_or payloads index []))) (2 ^ 64 - 1)
    → next ≡ min (records_length (prefix ++ take (index + 1) payloads)) (2 ^ 64 - 1)
next-here prefix payloads index at next within is step =
    let more : records_length (prefix ++ take (index + 1) payloads)
    ≡ records_length (prefix ++ take index payloads) + (5 + length (get_or payloads index [])) =
    ap records_length (prefix-more prefix payloads index within)
    ∙ records-push (prefix ++ take index payloads) (get_or payloads index []) in
    omega (arith, is, step, more)

-- ---- the record of a Base

told-length : (closed import_mark : ℕ) → length (told_imports closed import_mark)
    ≡ (if is_told closed import_mark then 12 else 0)
told-length closed import_mark = by-flag (is_told closed import_mark)
  where
    by-flag : (b : Bool) → length (if b then to_be_bytes w32 closed ++ to_be_bytes w64 import_mark else [])
        ≡ (if b then 12 else 0)
    by-flag true = omega (arith, length-append (to_be_bytes w32 closed) (to_be_bytes w64 import_mark))
    by-flag false = refl

pub base-length : (base : Base) → length (base_spelling base) ≡ 49 + (if has_imports base then 12 else 0)
base-length base =
    let dropped = to_be_bytes w64 base.dropped in
    let answered = to_be_bytes w64 base.answered in
    let taken = to_be_bytes w64 base.taken in
    let mark = to_be_bytes w64 base.mark in
    let generation = to_be_bytes w64 base.generation in
    let live = to_be_bytes w64 base.live in
    let told = told_imports base.closed base.import_mark in
    omega (
      arith,
      told-length base.closed base.import_mark,
      length-append generation (mark ++ (taken ++ (answered ++ (dropped ++ (live ++ told))))),
      length-append mark (taken ++ (answered ++ (dropped ++ (live ++ told)))),
      length-append taken (answered ++ (dropped ++ (live ++ told))),
      length-append answered (dropped ++ (live ++ told)),
      length-append dropped (live ++ told),
      length-append live told,
    )

-- where the first record behind a Base stands
pub behind-base : (base : Base) (len : ℕ) → len ≡ 5 + length (base_spelling base)
    → len ≡ min (records_length (base_spelling base ∷ [])) (2 ^ 64 - 1)
behind-base base len is = by-flag (has_imports base) (base-length base)
  where
    by-flag : (b : Bool) → length (base_spelling base) ≡ 49 + (if b then 12 else 0)
        → len ≡ min (records_length (base_spelling base ∷ [])) (2 ^ 64 - 1)
    by-flag true e = omega (arith, is, e)
    by-flag false e = omega (arith, is, e)
