-- The last of what pends.
use Rattle.std.proofs.Common.{◌≡◌, drop, take, take-append-drop, inl, inr, ℕ, ◌+◌, ◌-◌, ◌^◌, ◌<◌, ◌≤◌, List, [], ◌∷◌}
use Rattle.std.proofs.Common.{◌++◌, length, map, Some, refl, sym, ap, ◌∙◌, subst, arith, length-append}
use Rattle.std.specs.Prelude.{Vec, min, slice_get, slice_set, vec_items}
use Rattle.std.specs.declared.alloc.Global.{Global}
use Rattle.std.proofs.lemmas.Bool.{cases_lt}
use Rattle.std.proofs.lemmas.List.{append-nil, append_assoc, map-append, length-map, take_at}
use Rattle.std.proofs.lemmas.List.Elements.{All-push, All-take}
use Rattle.std.specs.List.{All}
use Rattle.ledger_core.specs.declared.note.Note.{Note}
use Rattle.ledger_core.specs.Batch.{AreBatches, AreLongest, Cuts, IsBatch, IsFullFor, batch_spelling, longest_batch}
use Rattle.ledger_core.specs.Batch.{notes_of, payload_of, payloads_of}
use Rattle.ledger_core.specs.BatchLaws.{AreBatches-append, AreBatches-back, AreBatches-prefix, notes_of-append}
use Rattle.ledger_core.specs.BatchLaws.{payloads_of-append}
use Rattle.ledger_core.specs.CutLaws.{cut-begins, cut-first, cut-joins}
use Rattle.ledger_core.specs.Note.{IsNote}
use Rattle.ledger_core.specs.Spelling.{spelling}
use Rattle.ledger_core.specs.SpellingLaws.{spelling-short}
use Rattle.ledger_core.specs.Spots.{records_length}
use Rattle.recovery.specs.Pending.{Begins, EndsAt, Holds, Joins, payloads_in}
use Rattle.recovery.specs.declared.pending.Pending.{Pending}

-- all but the last, and the last
pub record Ends {A : Type 0} (xs : List A) : Type 0 where
  pub prefix : List A
  pub last : A
  pub is : xs ≡ prefix ++ last ∷ []

pub ends : {A : Type 0} (xs : List A) → 0 < length xs → Ends xs
ends [] some = absurd (omega (arith, some))
ends (x ∷ []) some = record { prefix = []; last = x; is = refl }
ends (x ∷ y ∷ xs) some =
    let rest = ends (y ∷ xs) (omega arith) in
    record { prefix = x ∷ rest.prefix; last = rest.last; is = ap (λ (l : List _). x ∷ l) rest.is }

pub last-length : {A : Type 0} (prefix : List A) (last : A) → length (prefix ++ last ∷ []) ≡ length prefix + 1
last-length prefix last = omega (arith, length-append prefix (last ∷ []))

pub set-last : {A : Type 0} (prefix : List A) (last new : A) → slice_set (prefix ++ last ∷ []) (length prefix) new
    ≡ prefix ++ new ∷ []
set-last [] last new = refl
set-last (x ∷ prefix) last new = ap (λ (l : List _). x ∷ l) (set-last prefix last new)

pub get-last : {A : Type 0} (prefix : List A) (last : A) → slice_get (prefix ++ last ∷ []) (length prefix) ≡ Some last
get-last [] last = refl
get-last (x ∷ prefix) last = get-last prefix last

pub last-apart : {A : Type 0} (a b : List A) (x y : A) → a ++ x ∷ [] ≡ b ++ y ∷ [] → (a ≡ b) × (x ≡ y)
last-apart [] [] x y e = (refl, cc e)
last-apart [] (c ∷ []) x y e = absurd (cc e)
last-apart [] (c ∷ d ∷ b) x y e = absurd (cc e)
last-apart (c ∷ []) [] x y e = absurd (cc e)
last-apart (c ∷ d ∷ a) [] x y e = absurd (cc e)
last-apart (c ∷ a) (d ∷ b) x y e =
    let first : c ≡ d = cc e in
    let rest : a ++ x ∷ [] ≡ b ++ y ∷ [] = cc e in
    let inner = last-apart a b x y rest in
    let same : a ≡ b = inner.0 in
    (cc, inner.1)

pub some-apart : {A : Type 0} (x y : A) → Some x ≡ Some y → x ≡ y
some-apart x y e = cc e

-- the last payload is that of the last batch
pub record LastBatch (prefix : List (Vec ℕ Global)) (last : Vec ℕ Global) (batches : List (List Note)) : Type 0 where
  pub before : List (List Note)
  pub batch : List Note
  pub is : batches ≡ before ++ batch ∷ []
  pub prefix_is : map vec_items prefix ≡ payloads_of before
  pub last_is : last.items ≡ payload_of batch

payloads-length : (batches : List (List Note)) → length (payloads_of batches) ≡ length batches
payloads-length [] = refl
payloads-length (batch ∷ batches) = omega (arith, payloads-length batches)

pub last_batch : (prefix : List (Vec ℕ Global)) (last : Vec ℕ Global) (batches : List (List Note))
    → map vec_items (prefix ++ last ∷ []) ≡ payloads_of batches → LastBatch prefix last batches
last_batch prefix last batches same =
    let split : map vec_items (prefix ++ last ∷ []) ≡ map vec_items prefix ++ last.items ∷ [] =
    map-append (λ (v : Vec ℕ Global). v.items) prefix (last ∷ []) in
    let some : 0 < length batches =
    omega (
      arith,
      ap length same,
      payloads-length batches,
      length-map (prefix ++ last ∷ []) (λ (v : Vec ℕ Global). v.items),
      last-length prefix last,
    ) in
    let end = ends batches some in
    let parts = last-apart (map vec_items prefix) (payloads_of end.prefix) last.items (payload_of end.last)
    (sym split ∙ (same ∙ (ap payloads_of end.is ∙ payloads_of-append end.prefix (end.last ∷ [])))) in
    record { before = end.prefix; batch = end.last; is = end.is; prefix_is = parts.0; last_is = parts.1 }

-- ---- one note more

pub nil-of : {A : Type 0} (xs : List A) → length xs ≡ 0 → xs ≡ []
nil-of [] none = refl
nil-of (x ∷ xs) none = absurd (omega (arith, none))

-- it joins the last payload
pub pushed-joins : (pending after : Pending) (notes : List Note) (note : Note) (prefix : List (Vec ℕ Global))
    (old new : Vec ℕ Global) → Holds pending notes → IsNote note → pending.payloads.items ≡ prefix ++ old ∷ []
    → after.payloads.items ≡ prefix ++ new ∷ []
    → ((batch : List Note) → IsBatch batch → old.items ≡ payload_of batch
    → (length (batch_spelling (batch ++ note ∷ [])) ≤ longest_batch) × (new.items ≡ payload_of (batch ++ note ∷ [])))
    → Holds after (notes ++ note ∷ [])
pushed-joins pending after notes note prefix old new holds is was now joins =
    let last = last_batch prefix old holds.batches (ap (map vec_items) (sym was) ∙ holds.payloads) in
    let cut : Cuts notes (last.before ++ last.batch ∷ []) = subst (Cuts notes) last.is holds.cut in
    let batch_is = AreBatches-back last.before (last.batch ∷ []) cut.are in
    let joined = joins last.batch batch_is.0 last.last_is in
    record {
      batches = last.before ++ (last.batch ++ note ∷ []) ∷ [];
      cut = cut-joins notes last.before last.batch note cut is joined.0;
      payloads = ap (map vec_items) now
          ∙ (map-append (λ (v : Vec ℕ Global). v.items) prefix (new ∷ [])
          ∙ (ap (λ (l : List (List ℕ)). l ++ new.items ∷ []) last.prefix_is
          ∙ (ap (λ (p : List ℕ). payloads_of last.before ++ p ∷ []) joined.1
          ∙ sym (payloads_of-append last.before ((last.batch ++ note ∷ []) ∷ [])))));
    }

-- it begins a payload of its own
pub pushed-begins : (pending after : Pending) (notes : List Note) (note : Note) (octets : Vec ℕ Global)
    → Holds pending notes → IsNote note → octets.items ≡ spelling note
    → after.payloads.items ≡ pending.payloads.items ++ octets ∷ []
    → ((prefix : List (Vec ℕ Global)) (old : Vec ℕ Global) → pending.payloads.items ≡ prefix ++ old ∷ []
    → (batch : List Note) → IsBatch batch → old.items ≡ payload_of batch → IsFullFor batch note)
    → Holds after (notes ++ note ∷ [])
pushed-begins pending after notes note octets holds is spelled now full =
    let items = pending.payloads.items in
    let payloads : map vec_items after.payloads.items ≡ payloads_of (holds.batches ++ (note ∷ []) ∷ []) =
    ap (map vec_items) now
    ∙ (map-append (λ (v : Vec ℕ Global). v.items) items (octets ∷ [])
    ∙ (ap (λ (l : List (List ℕ)). l ++ octets.items ∷ []) holds.payloads
    ∙ (ap (λ (p : List ℕ). payloads_of holds.batches ++ p ∷ []) spelled
    ∙ sym (payloads_of-append holds.batches ((note ∷ []) ∷ []))))) in
    record {
      batches = holds.batches ++ (note ∷ []) ∷ [];
      cut = elim (cases_lt 0 (length items)) [
        | inl some ↦
            let end = ends items some in
            let last = last_batch end.prefix end.last holds.batches (ap (map vec_items) (sym end.is)
            ∙ holds.payloads) in
            let cut : Cuts notes (last.before ++ last.batch ∷ []) = subst (Cuts notes) last.is holds.cut in
            let batch_is = AreBatches-back last.before (last.batch ∷ []) cut.are in
            subst (Cuts (notes ++ note ∷ []))
            (sym (append_assoc last.before (last.batch ∷ []) ((note ∷ []) ∷ []))
            ∙ ap (λ (l : List (List Note)). l ++ (note ∷ []) ∷ []) (sym last.is))
            (cut-begins notes last.before last.batch note cut is
            (full end.prefix end.last end.is last.batch batch_is.0 last.last_is))
        | inr none ↦
            let batches : holds.batches ≡ [] =
            nil-of holds.batches (omega (
              arith,
              none,
              ap length holds.payloads,
              payloads-length holds.batches,
              length-map items (λ (v : Vec ℕ Global). v.items),
            )) in
            let nothing : notes ≡ [] = sym holds.cut.whole ∙ ap notes_of batches in
            subst (λ (l : List Note). Cuts (l ++ note ∷ []) (holds.batches ++ (note ∷ []) ∷ [])) (sym nothing)
            (subst (λ (l : List (List Note)). Cuts (note ∷ []) (l ++ (note ∷ []) ∷ [])) (sym batches)
            (cut-first note is))
      ];
      payloads = payloads;
    }

-- what begins, and what joins
pub begins_so : (items after : List (Vec ℕ Global)) (note : Note) (octets : Vec ℕ Global)
    → octets.items ≡ spelling note → after ≡ items ++ octets ∷ []
    → ((prefix : List (Vec ℕ Global)) (old : Vec ℕ Global) → items ≡ prefix ++ old ∷ []
    → (batch : List Note) → IsBatch batch → old.items ≡ payload_of batch → IsFullFor batch note)
    → Begins (map vec_items items) (map vec_items after) note
begins_so items after note octets spelled now full = (
  ap (map vec_items) now
      ∙ (map-append (λ (v : Vec ℕ Global). v.items) items (octets ∷ [])
      ∙ ap (λ (p : List ℕ). map vec_items items ++ p ∷ []) spelled),
  λ prefix batch is split.
      let some : 0 < length items =
      omega (
        arith,
        ap length split,
        length-append prefix (payload_of batch ∷ []),
        length-map items (λ (v : Vec ℕ Global). v.items),
      ) in
      let end = ends items some in
      let parts = last-apart (map vec_items end.prefix) prefix end.last.items (payload_of batch)
      (sym (map-append (λ (v : Vec ℕ Global). v.items) end.prefix (end.last ∷ []))
      ∙ (ap (map vec_items) (sym end.is) ∙ split)) in
      full end.prefix end.last end.is batch is parts.1,
)

pub joins_so : (pending : Pending) (after : List (Vec ℕ Global)) (notes : List Note) (note : Note) (prefix : List (Vec ℕ Global))
    (old new : Vec ℕ Global) → Holds pending notes → pending.payloads.items ≡ prefix ++ old ∷ []
    → after ≡ prefix ++ new ∷ []
    → ((batch : List Note) → IsBatch batch → old.items ≡ payload_of batch
    → (length (batch_spelling (batch ++ note ∷ [])) ≤ longest_batch) × (new.items ≡ payload_of (batch ++ note ∷ [])))
    → Joins (payloads_in pending) (map vec_items after) note
joins_so pending after notes note prefix old new holds was now joins =
    let last = last_batch prefix old holds.batches (ap (map vec_items) (sym was) ∙ holds.payloads) in
    let batch_is = AreBatches-back last.before (last.batch ∷ []) (subst AreBatches last.is holds.cut.are) in
    let joined = joins last.batch batch_is.0 last.last_is in
    record {
      prefix = map vec_items prefix;
      batch = last.batch;
      is = batch_is.0;
      was = ap (map vec_items) was ∙ (map-append (λ (v : Vec ℕ Global). v.items) prefix (old ∷ [])
          ∙ ap (λ (p : List ℕ). map vec_items prefix ++ p ∷ []) last.last_is);
      fits = joined.0;
      now = ap (map vec_items) now ∙ (map-append (λ (v : Vec ℕ Global). v.items) prefix (new ∷ [])
          ∙ ap (λ (p : List ℕ). map vec_items prefix ++ p ∷ []) joined.1);
    }

-- ---- each payload fits

pub all-prefix : (prefix : List (List ℕ)) (last : List ℕ) (most : ℕ) → All (λ (l : List ℕ). length l ≤ most) (prefix ++ last ∷ [])
    → All (λ (l : List ℕ). length l ≤ most) prefix
all-prefix prefix last most all =
    subst (All (λ (l : List ℕ). length l ≤ most)) (take_at prefix (last ∷ []) (length prefix) refl)
    (All-take (λ (l : List ℕ). length l ≤ most) (length prefix) (prefix ++ last ∷ []) all)

-- if the last is replaced by another that fits
pub fit-set : (items now prefix : List (Vec ℕ Global)) (last new : Vec ℕ Global) (most : ℕ)
    → items ≡ prefix ++ last ∷ [] → now ≡ prefix ++ new ∷ [] → length new.items ≤ most
    → All (λ (l : List ℕ). length l ≤ most) (map vec_items items)
    → All (λ (l : List ℕ). length l ≤ most) (map vec_items now)
fit-set items now prefix last new most was is fits all =
    let before : map vec_items items ≡ map vec_items prefix ++ last.items ∷ [] =
    ap (map vec_items) was ∙ map-append (λ (v : Vec ℕ Global). v.items) prefix (last ∷ []) in
    let behind : map vec_items now ≡ map vec_items prefix ++ new.items ∷ [] =
    ap (map vec_items) is ∙ map-append (λ (v : Vec ℕ Global). v.items) prefix (new ∷ []) in
    subst (All (λ (l : List ℕ). length l ≤ most)) (sym behind)
    (All-push (λ (l : List ℕ). length l ≤ most) (map vec_items prefix) new.items
    (all-prefix (map vec_items prefix) last.items most (subst (All (λ (l : List ℕ). length l ≤ most)) before all)) fits)

-- the last of what was set is what was set
pub last-set : (now prefix : List (Vec ℕ Global)) (new last : Vec ℕ Global) → now ≡ prefix ++ new ∷ []
    → slice_get now (length now - 1) ≡ Some last → last ≡ new
last-set now prefix new last is found =
    let place : length now - 1 ≡ length prefix = omega (arith, ap length is, last-length prefix new) in
    some-apart last new (sym found ∙ (ap (λ (n : ℕ). slice_get now n) place
    ∙ (ap (λ (l : List (Vec ℕ Global)). slice_get l (length prefix)) is ∙ get-last prefix new)))

-- ---- what pends stays, and what is none

-- the same payloads are of the same notes
pub holds-same : (old new : Pending) (notes : List Note) → payloads_in new ≡ payloads_in old → Holds old notes
    → Holds new notes
holds-same old new notes same holds = record {
  batches = holds.batches;
  cut = holds.cut;
  payloads = same ∙ holds.payloads;
}

-- nothing pends
pub holds-none : (pending : Pending) → pending.payloads.items ≡ [] → Holds pending []
holds-none pending none = record {
  batches = [];
  cut = record { are = tt; longest = tt; whole = refl };
  payloads = ap (map vec_items) none;
}

pub ends-none : (kept pending : List (List ℕ)) (last next : ℕ) → pending ≡ []
    → next ≡ min (records_length kept) (2 ^ 64 - 1) → EndsAt kept pending last next
ends-none kept pending last next none here = record {
  last_is = λ prefix payload split. absurd (omega (
    arith,
    ap length none,
    ap length split,
    length-append prefix (payload ∷ []),
  ));
  next_is = here ∙ ap (λ (l : List (List ℕ)). min (records_length l) (2 ^ 64 - 1))
      (sym (ap (λ (l : List (List ℕ)). kept ++ l) none ∙ append-nil kept));
}

-- a note is short
pub note_len : (note : Note) (octets : List ℕ) → IsNote note → octets ≡ spelling note → length octets ≤ 1024
note_len note octets is spelled = omega (arith, spelling-short note is, ap length spelled)

-- ---- the last payload in the place of others

-- the longest batches before one, and those that begin with its notes
longest-behind : (before : List (List Note)) (batch : List Note) (more : List Note) (behind : List (List Note))
    → IsBatch batch → AreBatches behind → notes_of behind ≡ batch ++ more → AreLongest (before ++ batch ∷ [])
    → AreLongest behind → AreLongest (before ++ behind)
longest-behind [] batch more behind is are whole longest longest' = longest'
longest-behind (first ∷ []) [] more behind is are whole longest longest' = absurd is
longest-behind (first ∷ []) (note ∷ notes) more [] is are whole longest longest' = absurd (cc whole)
longest-behind (first ∷ []) (note ∷ notes) more ([] ∷ behind) is are whole longest longest' = absurd are.0
longest-behind (first ∷ []) (note ∷ notes) more ((other ∷ others) ∷ behind) is are whole longest longest' =
    let same : note ≡ other = cc whole in
    (subst (IsFullFor first) same longest.0, longest')
longest-behind (first ∷ second ∷ before) batch more behind is are whole longest longest' =
    (longest.0, longest-behind (second ∷ before) batch more behind is are whole longest.1 longest')

pub cut-behind : (notes : List Note) (before : List (List Note)) (batch more : List Note) (behind : List (List Note))
    → Cuts notes (before ++ batch ∷ []) → Cuts (batch ++ more) behind → Cuts (notes ++ more) (before ++ behind)
cut-behind notes before batch more behind cut cut' =
    let prefix : AreBatches before = AreBatches-prefix before (batch ∷ []) cut.are in
    let is : IsBatch batch = (AreBatches-back before (batch ∷ []) cut.are).0 in
    record {
      are = AreBatches-append before behind prefix cut'.are;
      longest = longest-behind before batch more behind is cut'.are cut'.whole cut.longest cut'.longest;
      whole = notes_of-append before behind
          ∙ (ap (λ (l : List Note). notes_of before ++ l) cut'.whole
          ∙ (sym (append_assoc (notes_of before) batch more)
          ∙ ap (λ (l : List Note). l ++ more)
          (ap (λ (l : List Note). notes_of before ++ l) (sym (append-nil batch))
          ∙ (sym (notes_of-append before (batch ∷ [])) ∙ cut.whole))));
    }

-- What the last payload holds by itself, and how others in its place hold what all of them held.
pub record Tail (notes : List Note) (whole : List (List ℕ)) : Type 0 where
  pub batches : List (List Note)
  pub last : List Note
  pub cut : Cuts last batches
  pub payloads : drop (length whole - 1) whole ≡ payloads_of batches
  pub behind : (more : List Note) (others : List (List Note)) → Cuts (last ++ more) others
      → (all : List (List Note)) × (Cuts (notes ++ more) all
      × (payloads_of all ≡ take (length whole - 1) whole ++ payloads_of others))

pub tail-holds : (notes : List Note) (batches : List (List Note)) (whole : List (List ℕ)) → Cuts notes batches
    → whole ≡ payloads_of batches → Tail notes whole
tail-holds notes batches whole cut is =
    elim (cases_lt 0 (length batches)) [
      | inl some ↦
          let end = ends batches some in
          let before = end.prefix in
          let batch = end.last in
          let here : Cuts notes (before ++ batch ∷ []) = subst (Cuts notes) end.is cut in
          let split : whole ≡ payloads_of before ++ payload_of batch ∷ [] =
          is ∙ (ap payloads_of end.is ∙ payloads_of-append before (batch ∷ [])) in
          let count : length whole - 1 ≡ length (payloads_of before) =
          omega (arith, ap length split, length-append (payloads_of before) (payload_of batch ∷ [])) in
          record {
            batches = batch ∷ [];
            last = batch;
            cut = record {
              are = ((AreBatches-back before (batch ∷ []) here.are).0, tt);
              longest = tt;
              whole = append-nil batch;
            };
            payloads = ap (λ (n : ℕ). drop n whole) count
                ∙ (ap (drop (length (payloads_of before))) split
                ∙ drop-at (payloads_of before) (payload_of batch ∷ []));
            behind = λ more others cut'. (
              before ++ others,
              (
                cut-behind notes before batch more others here cut',
                payloads_of-append before others
                    ∙ ap (λ (l : List (List ℕ)). l ++ payloads_of others)
                    (sym (ap (λ (n : ℕ). take n whole) count
                    ∙ (ap (take (length (payloads_of before))) split
                    ∙ take_at (payloads_of before) (payload_of batch ∷ []) (length (payloads_of before)) refl))),
              ),
            );
          }
      | inr none ↦
          let no_batch : batches ≡ [] = nil-of batches (omega (arith, none)) in
          let no_note : notes ≡ [] = sym cut.whole ∙ ap notes_of no_batch in
          let nothing : whole ≡ [] = is ∙ ap payloads_of no_batch in
          record {
            batches = [];
            last = [];
            cut = record { are = tt; longest = tt; whole = refl };
            payloads = ap (λ (l : List (List ℕ)). drop (length l - 1) l) nothing;
            behind = λ more others cut'. (
              others,
              (
                subst (λ (l : List Note). Cuts (l ++ more) others) (sym no_note) cut',
                ap (λ (l : List (List ℕ)). take (length l - 1) l ++ payloads_of others) (sym nothing),
              ),
            );
          }
    ]
  where
    drop-at : {A : Type 0} (xs ys : List A) → drop (length xs) (xs ++ ys) ≡ ys
    drop-at [] ys = refl
    drop-at (x ∷ xs) ys = drop-at xs ys

-- where the last of what pends begins, after all others, and the same the other way round
pub ends-tail : (kept whole : List (List ℕ)) (last next : ℕ) → EndsAt kept whole last next
    → EndsAt (kept ++ take (length whole - 1) whole) (drop (length whole - 1) whole) last next
ends-tail kept whole last next at =
    let prefix = take (length whole - 1) whole in
    let back = drop (length whole - 1) whole in
    let parts : prefix ++ back ≡ whole = take-append-drop (length whole - 1) whole in
    record {
      last_is = λ more payload split.
          at.last_is (prefix ++ more) payload
          (sym parts ∙ (ap (λ (l : List (List ℕ)). prefix ++ l) split ∙ sym (append_assoc prefix more (payload ∷ []))))
          ∙ ap (λ (l : List (List ℕ)). min (records_length l) (2 ^ 64 - 1)) (sym (append_assoc kept prefix more));
      next_is = at.next_is ∙ ap (λ (l : List (List ℕ)). min (records_length l) (2 ^ 64 - 1))
          (ap (λ (l : List (List ℕ)). kept ++ l) (sym parts) ∙ sym (append_assoc kept prefix back));
    }

pub ends-whole : (kept prefix back : List (List ℕ)) (last next : ℕ) → (length back ≡ 0 → length prefix ≡ 0)
    → EndsAt (kept ++ prefix) back last next → EndsAt kept (prefix ++ back) last next
ends-whole kept prefix back last next some at = record {
  last_is = λ more payload split. elim (cases_lt 0 (length back)) [
    | inl here ↦
        let end = ends back here in
        let parts = last-apart (prefix ++ end.prefix) more end.last payload
        (append_assoc prefix end.prefix (end.last ∷ [])
        ∙ (ap (λ (l : List (List ℕ)). prefix ++ l) (sym end.is) ∙ split)) in
        at.last_is end.prefix end.last end.is
        ∙ ap (λ (l : List (List ℕ)). min (records_length l) (2 ^ 64 - 1))
        (append_assoc kept prefix end.prefix ∙ ap (λ (l : List (List ℕ)). kept ++ l) parts.0)
    | inr none ↦
        let no_prefix = some (omega (arith, none)) in
        absurd (omega (
          arith,
          none,
          no_prefix,
          ap length split,
          length-append prefix back,
          length-append more (payload ∷ []),
        ))
  ];
  next_is = at.next_is ∙ ap (λ (l : List (List ℕ)). min (records_length l) (2 ^ 64 - 1)) (append_assoc kept prefix
      back);
}
