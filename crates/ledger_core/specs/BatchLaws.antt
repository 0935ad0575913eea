-- Laws of batches, for this crate and those above: each has one spelling.
use Rattle.std.proofs.Common.{◌≡◌, ℕ, zero, suc, ◌+◌, ◌-◌, ◌<◌, ◌≤◌, ◌^◌, inl, inr, Bool, cond, List, [], ◌∷◌, ◌++◌}
use Rattle.std.proofs.Common.{length, drop, take, take-append-drop, get_or, refl, sym, ap, ◌∙◌, subst, arith}
use Rattle.std.proofs.Common.{length-append}
use Rattle.std.proofs.lemmas.Bool.{cases_lt, ne_eqb}
use Rattle.std.proofs.lemmas.List.{append-nil, append_assoc, get_or-append_right, take_at}
use Rattle.std.proofs.lemmas.Nat.{from_be_bytes-to_be_bytes_4}
use Rattle.std.specs.Int.{to_be_bytes, from_be_bytes, w16, w32, w64}
use Rattle.ledger_core.specs.declared.note.Note.{Note}
use Rattle.ledger_core.specs.declared.note.Note.TheVariants.{Owe, Final, Drop, Seen, Closed}
use Rattle.ledger_core.specs.Batch.{AreBatches, AreSeveral, IsBatch, batch_spelling, body_of, prefix_length, notes_of}
use Rattle.ledger_core.specs.Batch.{payload_of, payloads_of, text_end, together}
use Rattle.ledger_core.specs.Codes.{code_number, cause_number}
use Rattle.ledger_core.specs.Keys.{number_of, source_of}
use Rattle.ledger_core.specs.Note.{AreNotes, IsNote}
use Rattle.ledger_core.specs.Spelling.{head, key_head, sized_text, spelling, spellings}
use Rattle.ledger_core.specs.SpellingLaws.{AreNotes-append, IsTagOf, append-apart, begins, head-far, head-line}
use Rattle.ledger_core.specs.SpellingLaws.{same-note, tag-told}

-- ---- lists of batches

pub AreBatches-append : (one other : List (List Note)) → AreBatches one → AreBatches other → AreBatches (one ++ other)
AreBatches-append [] other a b = b
AreBatches-append (batch ∷ one) other a b = (a.0, AreBatches-append one other a.1 b)

pub AreBatches-prefix : (one other : List (List Note)) → AreBatches (one ++ other) → AreBatches one
AreBatches-prefix [] other a = tt
AreBatches-prefix (batch ∷ one) other a = (a.0, AreBatches-prefix one other a.1)

pub AreBatches-back : (one other : List (List Note)) → AreBatches (one ++ other) → AreBatches other
AreBatches-back [] other a = a
AreBatches-back (batch ∷ one) other a = AreBatches-back one other a.1

pub payloads_of-append : (one other : List (List Note))
    → payloads_of (one ++ other) ≡ payloads_of one ++ payloads_of other
payloads_of-append [] other = refl
payloads_of-append (batch ∷ one) other =
    ap (λ (l : List (List ℕ)). payload_of batch ∷ l) (payloads_of-append one other)

pub notes_of-append : (one other : List (List Note)) → notes_of (one ++ other) ≡ notes_of one ++ notes_of other
notes_of-append [] other = refl
notes_of-append (batch ∷ one) other =
    ap (λ (l : List Note). batch ++ l) (notes_of-append one other)
    ∙ sym (append_assoc batch (notes_of one) (notes_of other))

-- the notes of a batch are notes
pub notes-are : (batch : List Note) → IsBatch batch → AreNotes batch
notes-are [] is = absurd is
notes-are (note ∷ []) is = (is, tt)
notes-are (note ∷ next ∷ notes) is = is.notes_are

pub all-notes-are : (batches : List (List Note)) → AreBatches batches → AreNotes (notes_of batches)
all-notes-are [] are = tt
all-notes-are (batch ∷ batches) are =
    AreNotes-append batch (notes_of batches) (notes-are batch are.0) (all-notes-are batches are.1)

pub together-append : (one other : List Note) → together (one ++ other) ≡ together one ++ together other
together-append [] other = refl
together-append (note ∷ one) other =
    ap (λ (l : List ℕ). spelling note ++ l) (together-append one other)
    ∙ sym (append_assoc (spelling note) (together one) (together other))

-- ---- the first note

-- after a tag and N octets come two texts
texts-end : (tag : ℕ) (bytes token id x : List ℕ) (at : ℕ) → at ≡ 1 + length bytes
    → text_end ((tag ∷ (bytes ++ (sized_text token ++ sized_text id))) ++ x)
    (text_end ((tag ∷ (bytes ++ (sized_text token ++ sized_text id))) ++ x) at)
    ≡ length (tag ∷ (bytes ++ (sized_text token ++ sized_text id)))
texts-end tag bytes token id x at is =
    let whole = (tag ∷ (bytes ++ (sized_text token ++ sized_text id))) ++ x in
    let prefix = tag ∷ (bytes ++ sized_text token) in
    let long : length prefix ≡ at + 1 + length token = omega (arith, is, length-append bytes (sized_text token)) in
    let split : whole ≡ prefix ++ (sized_text id ++ x) =
    ap (λ (l : List ℕ). tag ∷ (l ++ x)) (sym (append_assoc bytes (sized_text token) (sized_text id)))
    ∙ ap (λ (l : List ℕ). tag ∷ l) (append_assoc (bytes ++ sized_text token) (sized_text id) x) in
    let split' : whole ≡ (tag ∷ bytes) ++ (sized_text token ++ (sized_text id ++ x)) =
    ap (λ (l : List ℕ). tag ∷ l) (append_assoc bytes (sized_text token ++ sized_text id) x)
    ∙ ap (λ (l : List ℕ). tag ∷ (bytes ++ l)) (append_assoc (sized_text token) (sized_text id) x) in
    let at-first : get_or whole at 0 ≡ length token =
    ap (λ (l : List ℕ). get_or l at 0) split'
    ∙ behind-prefix (tag ∷ bytes) (sized_text token ++ (sized_text id ++ x)) at (omega (arith, is)) in
    let first : text_end whole at ≡ at + 1 + length token = omega (arith, at-first) in
    let second : get_or whole (text_end whole at) 0 ≡ length id =
    ap (λ (n : ℕ). get_or whole n 0) first ∙ (ap (λ (l : List ℕ). get_or l (at + 1 + length token) 0) split
    ∙ behind-prefix prefix (sized_text id ++ x) (at + 1 + length token) long) in
    omega (
      arith,
      is,
      first,
      second,
      length-append bytes (sized_text token ++ sized_text id),
      length-append (sized_text token) (sized_text id),
    )
  where
    minus-self : (n : ℕ) → n - n ≡ 0
    minus-self n = omega arith

    behind-prefix : (one other : List ℕ) (n : ℕ) → length one ≡ n → get_or (one ++ other) n 0 ≡ get_or other 0 0
    behind-prefix one other n is =
        get_or-append_right one other n n 0 is (omega arith) ∙ ap (λ (k : ℕ). get_or other k 0) (minus-self n)

-- what holds of a funnel line's key and of any other holds of a key
by-key : (line imported key : ℕ) (P : List ℕ → Type 0) → P (head line key)
    → P (imported ∷ (to_be_bytes w32 (source_of key) ++ to_be_bytes w64 (number_of key)))
    → P (key_head line imported key)
by-key line imported key P low far = elim (cases_lt key (2 ^ 64)) [
  | inl is ↦ subst P (sym (head-line line imported key is)) low
  | inr is ↦ subst P (sym (head-far line imported key is)) far
]

-- it is as long as its spelling, whatever follows
pub prefix_length-note : (note : Note) (x : List ℕ) → prefix_length (spelling note ++ x) ≡ length (spelling note)
prefix_length-note (Owe key token id) x =
    by-key 1 6 key (λ (h : List ℕ). prefix_length ((h ++ (sized_text token ++ sized_text id)) ++ x)
    ≡ length (h ++ (sized_text token ++ sized_text id)))
    (texts-end 1 (to_be_bytes w64 key) token id x 9 refl)
    (texts-end 6 (to_be_bytes w32 (source_of key) ++ to_be_bytes w64 (number_of key)) token id x 13 refl)
prefix_length-note (Final key code) x =
    by-key 2 7 key (λ (h : List ℕ). prefix_length ((h ++ to_be_bytes w16 (code_number code)) ++ x)
    ≡ length (h ++ to_be_bytes w16 (code_number code))) refl refl
prefix_length-note (Drop key cause) x =
    by-key 3 8 key (λ (h : List ℕ). prefix_length ((h ++ (cause_number cause ∷ [])) ++ x)
    ≡ length (h ++ (cause_number cause ∷ []))) refl refl
prefix_length-note (Seen number) x = refl
prefix_length-note (Closed source) x = refl

-- its octets and what follows them determine it
pub prefix-apart : (one other : Note) (x y : List ℕ) → IsNote one → IsNote other
    → spelling one ++ x ≡ spelling other ++ y → (one ≡ other) × (x ≡ y)
prefix-apart one other x y a b e =
    let long : length (spelling one) ≡ length (spelling other) =
    sym (prefix_length-note one x) ∙ (ap prefix_length e ∙ prefix_length-note other y) in
    let parts = append-apart (spelling one) (spelling other) x y long e in
    (same-note one other a b parts.0, parts.1)

-- if the octets of notes begin with those of some of them, the rest is that of the others
pub together-rest : (read all : List Note) (rest : List ℕ) → AreNotes read → AreNotes all → length read ≤ length all
    → together all ≡ together read ++ rest
    → (more : List Note) × AreNotes more × (together more ≡ rest) × (length all ≡ length read + length more)
    × (all ≡ read ++ more)
together-rest [] all rest a b few e = (all, b, e, omega arith, refl)
together-rest (note ∷ read) [] rest a b few e = absurd (omega (arith, few))
together-rest (note ∷ read) (other ∷ all) rest a b few e =
    let parts = prefix-apart other note (together all) (together read ++ rest) b.0 a.0
    (e ∙ append_assoc (spelling note) (together read) rest) in
    let left = together-rest read all rest a.1 b.1 (omega (arith, few)) parts.1 in
    let whole : other ∷ all ≡ note ∷ (read ++ left.0) =
    ap (λ (n : Note). n ∷ all) parts.0 ∙ ap (λ (l : List Note). note ∷ l) left.4 in
    (left.0, left.1, left.2, omega (arith, left.3), whole)

-- ---- a batch has one spelling

pub length-together : (notes : List Note) → length notes ≤ length (together notes)
length-together [] = omega arith
length-together (note ∷ notes) =
    omega (
      arith,
      ap length (begins note).2,
      length-together notes,
      length-append (spelling note) (together notes),
    )

same-together : (one other : List Note) → AreNotes one → AreNotes other → length one ≡ length other
    → together one ≡ together other → one ≡ other
same-together [] [] a b l e = refl
same-together [] (note ∷ other) a b l e = absurd (omega (arith, l))
same-together (note ∷ one) [] a b l e = absurd (omega (arith, l))
same-together (note ∷ one) (second ∷ other) a b l e =
    let parts = prefix-apart note second (together one) (together other) a.0 b.0 e in
    let first : note ≡ second = parts.0 in
    let rest : one ≡ other = same-together one other a.1 b.1 (omega (arith, l)) parts.1 in
    cc

-- the payload of several notes says how many there are, and then which
pub several-apart : (m n : ℕ) (x y : List ℕ) → m < 2 ^ 32 → n < 2 ^ 32
    → to_be_bytes w32 m ++ x ≡ to_be_bytes w32 n ++ y → (m ≡ n) × (x ≡ y)
several-apart m n x y fits fits' e =
    let same : to_be_bytes w32 m ≡ to_be_bytes w32 n = cc in
    (sym (from_be_bytes-to_be_bytes_4 m fits) ∙ ap (from_be_bytes w32) same ∙ from_be_bytes-to_be_bytes_4 n fits', cc)

pub count-fits : (notes : List Note) → AreSeveral notes → length notes < 2 ^ 32
count-fits notes are =
    omega (arith, are.fits, length-together notes, length-append (to_be_bytes w32 (length notes)) (together notes))

pub same-several : (one other : List Note) → AreSeveral one → AreSeveral other
    → batch_spelling one ≡ batch_spelling other → one ≡ other
same-several one other a b e =
    let behind : to_be_bytes w32 (length one) ++ together one ≡ to_be_bytes w32 (length other) ++ together other =
    cc e in
    let parts = several-apart (length one) (length other) (together one) (together other) (count-fits one a)
    (count-fits other b) behind in
    same-together one other a.notes_are b.notes_are parts.0 parts.1

-- no note is spelled as several are
pub plain-apart : (note : Note) (rest : List ℕ) → spelling note ≡ 11 ∷ rest → ⊥
plain-apart note rest e = by-tag note (tag-told note 11 rest e)
  where
    by-tag : (note : Note) → IsTagOf note 11 → ⊥
    by-tag (Owe key token id) told = grind (arith, told)
    by-tag (Final key code) told = grind (arith, told)
    by-tag (Drop key cause) told = grind (arith, told)
    by-tag (Seen number) told = omega (arith, told)
    by-tag (Closed source) told = omega (arith, told)

pub same-batch : (one other : List Note) → IsBatch one → IsBatch other → payload_of one ≡ payload_of other → one ≡ other
same-batch [] other a b e = absurd a
same-batch (note ∷ one) [] a b e = absurd b
same-batch (note ∷ []) (second ∷ []) a b e = ap (λ (n : Note). n ∷ []) (same-note note second a b e)
same-batch (note ∷ []) (second ∷ next ∷ other) a b e = absurd (plain-apart note _ e)
same-batch (note ∷ next ∷ one) (second ∷ []) a b e = absurd (plain-apart second _ (sym e))
same-batch (note ∷ next ∷ one) (second ∷ third ∷ other) a b e =
    same-several (note ∷ next ∷ one) (second ∷ third ∷ other) a b e

-- batches have one list of payloads, and no others have it
pub same-batches : (one other : List (List Note)) → AreBatches one → AreBatches other
    → payloads_of one ≡ payloads_of other → one ≡ other
same-batches [] [] a b e = refl
same-batches [] (batch ∷ other) a b e = cc
same-batches (batch ∷ one) [] a b e = cc
same-batches (batch ∷ one) (second ∷ other) a b e =
    let s : payload_of batch ≡ payload_of second = cc in
    let r : payloads_of one ≡ payloads_of other = cc in
    let first : batch ≡ second = same-batch batch second a.0 b.0 s in
    let rest : one ≡ other = same-batches one other a.1 b.1 r in
    cc

-- a note that comes alone is all of its payload
pub body-alone : (note : Note) → body_of (spelling note) ≡ spelling note
body-alone note =
    let first = begins note in
    let apart : first.0 ≡ 11 → ⊥ =
    λ e. plain-apart note first.1 (first.2 ∙ ap (λ (n : ℕ). n ∷ first.1) e) in
    ap body_of first.2
    ∙ (ap (λ (b : Bool). cond b (drop 4 first.1) (first.0 ∷ first.1)) (ne_eqb first.0 11 apart) ∙ sym first.2)

-- the octets of a payload that are notes
pub body-payload : (batch : List Note) → IsBatch batch → body_of (payload_of batch) ≡ together batch
body-payload [] is = absurd is
body-payload (note ∷ []) is = body-alone note ∙ sym (append-nil (spelling note))
body-payload (note ∷ next ∷ notes) is = refl

-- with one more note the notes are several
pub joined-payload : (batch : List Note) (last : Note) → IsBatch batch
    → payload_of (batch ++ last ∷ []) ≡ batch_spelling (batch ++ last ∷ [])
joined-payload [] last is = absurd is
joined-payload (note ∷ []) last is = refl
joined-payload (note ∷ next ∷ notes) last is = refl

-- and the octets of the payload that are notes grow by its own
pub body-joined : (batch : List Note) (last : Note) → IsBatch batch
    → body_of (payload_of (batch ++ last ∷ [])) ≡ body_of (payload_of batch) ++ spelling last
body-joined batch last is =
    ap body_of (joined-payload batch last is)
    ∙ (together-append batch (last ∷ [])
    ∙ (ap (λ (l : List ℕ). together batch ++ l) (append-nil (spelling last))
    ∙ ap (λ (l : List ℕ). l ++ spelling last) (sym (body-payload batch is))))

-- the notes of the first of some batches are a prefix of their notes
pub notes-prefix : (batches : List (List Note)) (m : ℕ)
    → notes_of batches ≡ notes_of (take m batches) ++ notes_of (drop m batches)
notes-prefix batches m =
    ap notes_of (sym (take-append-drop m batches)) ∙ notes_of-append (take m batches) (drop m batches)

pub notes-take : (batches : List (List Note)) (m : ℕ)
    → take (length (notes_of (take m batches))) (notes_of batches) ≡ notes_of (take m batches)
notes-take batches m =
    ap (take (length (notes_of (take m batches)))) (notes-prefix batches m)
    ∙ take_at (notes_of (take m batches)) (notes_of (drop m batches)) (length (notes_of (take m batches))) refl

pub payloads_of-take : (batches : List (List Note)) (m : ℕ)
    → take m (payloads_of batches) ≡ payloads_of (take m batches)
payloads_of-take batches zero = refl
payloads_of-take [] (suc m) = refl
payloads_of-take (batch ∷ batches) (suc m) =
    ap (λ (l : List (List ℕ)). payload_of batch ∷ l) (payloads_of-take batches m)

pub AreBatches-take : (batches : List (List Note)) (m : ℕ) → AreBatches batches → AreBatches (take m batches)
AreBatches-take batches zero are = tt
AreBatches-take [] (suc m) are = tt
AreBatches-take (batch ∷ batches) (suc m) are = (are.0, AreBatches-take batches m are.1)

-- ---- notes that come one by one

abbrev pub singly : List Note → List (List Note)
singly [] = []
singly (note ∷ notes) = (note ∷ []) ∷ singly notes

pub singly-are : (notes : List Note) → AreNotes notes → AreBatches (singly notes)
singly-are [] are = tt
singly-are (note ∷ notes) are = (are.0, singly-are notes are.1)

pub singly-payloads : (notes : List Note) → payloads_of (singly notes) ≡ spellings notes
singly-payloads [] = refl
singly-payloads (note ∷ notes) = ap (λ (l : List (List ℕ)). spelling note ∷ l) (singly-payloads notes)

pub singly-notes : (notes : List Note) → notes_of (singly notes) ≡ notes
singly-notes [] = refl
singly-notes (note ∷ notes) = ap (λ (l : List Note). note ∷ l) (singly-notes notes)
