-- Batches that are read, note by note.
use Rattle.std.proofs.Common.{◌≡◌, ℕ, ◌<◌, ◌≤◌, ◌+◌, ◌^◌, List, [], ◌∷◌, ◌++◌, length, length-append, take}
use Rattle.std.proofs.Common.{Option, Some, None, IsSome, IfSome, refl, sym, subst, ap, ◌∙◌, arith}
use Rattle.std.proofs.lemmas.List.{append-nil, append_assoc, length_push, nil_from_length, take_at}
use Rattle.std.specs.List.{IsSplitAt}
use Rattle.std.specs.Prelude.{MatchOption}
use Rattle.std.specs.Int.{to_be_bytes, w32}
use Rattle.ledger_core.specs.declared.note.Note.{Note}
use Rattle.ledger_core.specs.Batch.{AreSeveral, IsBatch, SpellsNoBatch, batch_spelling, prefix_length, longest_batch}
use Rattle.ledger_core.specs.Batch.{payload_of, together}
use Rattle.ledger_core.specs.BatchLaws.{count-fits, prefix_length-note, several-apart, together-append, together-rest}
use Rattle.ledger_core.specs.Note.{AreNotes, IsNote}
use Rattle.ledger_core.specs.Replay.{AreLegalIn, SpellsNoLegal}
use Rattle.ledger_core.specs.Spelling.{spelling}
use Rattle.ledger_core.specs.SpellingLaws.{AreNotes-append}
use Rattle.ledger_core.specs.State.{State, AllLegal, IsLegal, after, step}
use Rattle.ledger_core.specs.StateLaws.{AllLegal-append, AllLegal-back, after-append}

-- one of several notes stands first
pub next-stands : (notes : List Note) → 0 < length notes → AreNotes notes
    → (note : Note) × (behind : List ℕ) × IsNote note × (together notes ≡ spelling note ++ behind)
next-stands [] some are = absurd (omega (arith, some))
next-stands (note ∷ notes) some are = (note, together notes, are.0, refl)

pub together-none : (notes : List Note) → length notes ≡ 0 → length (together notes) ≡ 0
together-none [] none = refl
together-none (note ∷ notes) none = absurd (omega (arith, none))

-- where no note stands behind those that were read, the octets are not so many notes
pub no-more : (read all : List Note) (octets rest : List ℕ) (count : ℕ) → AreNotes read → AreNotes all
    → length read < count → length all ≡ count → octets ≡ together read ++ rest → together all ≡ octets
    → ((note : Note) (behind : List ℕ) → IsNote note → rest ≡ spelling note ++ behind → ⊥) → ⊥
no-more read all octets rest count are are' before many split e none =
    let left = together-rest read all rest are are' (omega (arith, before, many)) (e ∙ split) in
    let next = next-stands left.0 (omega (arith, before, many, left.3)) left.1 in
    none next.0 next.1 next.2 (sym left.2 ∙ next.3)

-- where octets stand behind so many notes, they are not so many notes
pub no-rest : (read all : List Note) (octets rest : List ℕ) → AreNotes read → AreNotes all
    → length read ≡ length all → octets ≡ together read ++ rest → together all ≡ octets → length rest ≡ 0
no-rest read all octets rest are are' many split e =
    let left = together-rest read all rest are are' (omega (arith, many)) (e ∙ split) in
    omega (arith, ap length left.2, together-none left.0 (omega (arith, many, left.3)))

-- several notes are determined by their count and their octets
pub several-split : (notes : List Note) (octets rest body : List ℕ) (count : ℕ) → count < 2 ^ 32 → AreSeveral notes
    → octets ≡ 11 ∷ rest → rest ≡ to_be_bytes w32 count ++ body → batch_spelling notes ≡ octets
    → (length notes ≡ count) × (together notes ≡ body)
several-split notes octets rest body count fits are first second e =
    let whole : to_be_bytes w32 (length notes) ++ together notes ≡ to_be_bytes w32 count ++ body =
    cc (e, first, second) in
    several-apart (length notes) count (together notes) body (count-fits notes are) fits whole

-- several notes are a batch, of that payload
pub several-batch : (notes : List Note) → AreSeveral notes → IsBatch notes × (payload_of notes ≡ batch_spelling notes)
several-batch [] are = absurd (omega (arith, are.several))
several-batch (note ∷ []) are = absurd (omega (arith, are.several))
several-batch (note ∷ next ∷ notes) are = (are, refl)

-- a payload of several is none of one note
pub several-alone : (note : Note) (rest : List ℕ) → spelling note ≡ 11 ∷ rest → ⊥
several-alone note rest e =
    let first : spelling note ++ [] ≡ 11 ∷ rest = append-nil (spelling note) ∙ e in
    let none : length (spelling note) ≡ 0 = sym (prefix_length-note note []) ∙ ap prefix_length first in
    omega (arith, ap length e, none)

-- notes that were read off a payload of several are a batch of that payload
pub several-read : (first : State) (count : ℕ) (payload body : List ℕ) (notes : List Note)
    → payload ≡ 11 ∷ (to_be_bytes w32 count ++ body) → 2 ≤ count → length body + 5 ≤ longest_batch
    → AreLegalIn first count body notes → IsBatch notes × (payload ≡ payload_of notes)
several-read first count payload body notes whole some fits are =
    let spelled : payload ≡ batch_spelling notes =
    whole ∙ (ap (λ (n : ℕ). 11 ∷ (to_be_bytes w32 n ++ body)) (sym are.count_is)
    ∙ ap (λ (l : List ℕ). 11 ∷ (to_be_bytes w32 (length notes) ++ l)) (sym are.octets_are)) in
    let several = several-batch notes (record {
      notes_are = are.notes_are;
      several = omega (arith, some, are.count_is);
      fits = omega (
        arith,
        fits,
        ap length are.octets_are,
        length-append (to_be_bytes w32 (length notes)) (together notes),
      );
    }) in (several.0, spelled ∙ sym several.1)

-- where no such notes are legal, no batch is
pub several-refused : (first : State) (count : ℕ) (payload body : List ℕ)
    → payload ≡ 11 ∷ (to_be_bytes w32 count ++ body) → count < 2 ^ 32
    → ((notes : List Note) → AreLegalIn first count body notes → ⊥) → SpellsNoLegal first payload
several-refused first count payload body whole fits refused [] is same legal = is
several-refused first count payload body whole fits refused (note ∷ []) is same legal =
    several-alone note (to_be_bytes w32 count ++ body) (same ∙ whole)
several-refused first count payload body whole fits refused (note ∷ next ∷ notes) is same legal =
    let all = note ∷ next ∷ notes in
    let parts = several-split all payload (to_be_bytes w32 count ++ body) body count fits is whole refl same in
    refused all (record { notes_are = is.notes_are; count_is = parts.0; octets_are = parts.1; legal = legal })

-- and none is where the payload is none of several, and its note is not legal
pub alone-refused : (first : State) (payload : List ℕ) → SpellsNoBatch payload
    → ((note : Note) → IsNote note → spelling note ≡ payload → IsLegal first note → ⊥) → SpellsNoLegal first payload
alone-refused first payload none refused [] is same legal = is
alone-refused first payload none refused (note ∷ []) is same legal = refused note is same legal.0
alone-refused first payload none refused (note ∷ next ∷ notes) is same legal = none (note ∷ next ∷ notes) is same

-- ---- several notes that are taken one by one

-- So many notes were read off these octets and taken, and the rest of them is left.
pub record AreTaken (first now : State) (count : ℕ) (octets rest : List ℕ) : Type 0 where
  pub read : List Note
  pub notes_are : AreNotes read
  pub count_is : length read ≡ count
  pub split : octets ≡ together read ++ rest
  pub legal : AllLegal first read
  pub state : now ≡ after first read

-- one more is taken
pub one-taken : (first old new : State) (count : ℕ) (octets rest prefix behind : List ℕ) (note : Note)
    → AreTaken first old count octets rest → rest ≡ prefix ++ behind → IsNote note → prefix ≡ spelling note
    → IsLegal old note → new ≡ step old note → AreTaken first new (count + 1) octets behind
one-taken first old new count octets rest prefix behind note taken split is spelled legal stepped =
    let all : together (taken.read ++ note ∷ []) ≡ together taken.read ++ spelling note =
    together-append taken.read (note ∷ [])
    ∙ ap (λ (l : List ℕ). together taken.read ++ l) (append-nil (spelling note)) in
    record {
      read = taken.read ++ note ∷ [];
      notes_are = AreNotes-append taken.read (note ∷ []) taken.notes_are (is, tt);
      count_is = omega (arith, length_push taken.read note, taken.count_is);
      split = taken.split ∙ (ap (λ (l : List ℕ). together taken.read ++ l)
          (split ∙ ap (λ (l : List ℕ). l ++ behind) spelled)
          ∙ (sym (append_assoc (together taken.read) (spelling note) behind)
          ∙ ap (λ (l : List ℕ). l ++ behind) (sym all)));
      legal = AllLegal-append first taken.read (note ∷ []) taken.legal
          (subst (λ (s : State). IsLegal s note) taken.state legal, tt);
      state = stepped ∙ (ap (λ (s : State). step s note) taken.state ∙ sym (after-append first taken.read (note ∷ [])));
    }

-- the first of the notes that are left
next-taken : (first now : State) (read more : List Note) (rest : List ℕ) → now ≡ after first read → 0 < length more
    → AreNotes more → together more ≡ rest → AllLegal first (read ++ more)
    → ((note : Note) (behind : List ℕ) → IsNote note → rest ≡ spelling note ++ behind → IsLegal now note → ⊥) → ⊥
next-taken first now read [] rest state some are e legal refused = omega (arith, some)
next-taken first now read (note ∷ more) rest state some are e legal refused =
    refused note (together more) are.0 (sym e)
    (subst (λ (s : State). IsLegal s note) (sym state) (AllLegal-back first read (note ∷ more) legal).0)

-- where no further note can be taken, the octets are not so many legal ones
pub no-next : (first now : State) (count all : ℕ) (octets rest : List ℕ) → AreTaken first now count octets rest
    → count < all → ((note : Note) (behind : List ℕ) → IsNote note → rest ≡ spelling note ++ behind → IsLegal now note → ⊥)
    → (notes : List Note) → AreLegalIn first all octets notes → ⊥
no-next first now count all octets rest taken few refused notes are =
    let left = together-rest taken.read notes rest taken.notes_are are.notes_are
    (omega (arith, taken.count_is, few, are.count_is)) (are.octets_are ∙ taken.split) in
    next-taken first now taken.read left.0 rest taken.state (omega (arith, taken.count_is, few, are.count_is, left.3))
    left.1 left.2 (subst (AllLegal first) left.4 are.legal) refused

-- and neither are they where octets are left behind the last
pub no-end : (first now : State) (count : ℕ) (octets rest : List ℕ) → AreTaken first now count octets rest
    → (rest ≡ [] → ⊥) → (notes : List Note) → AreLegalIn first count octets notes → ⊥
no-end first now count octets rest taken left notes are =
    left (nil_from_length rest (no-rest taken.read notes octets rest taken.notes_are are.notes_are
    (taken.count_is ∙ sym are.count_is) taken.split are.octets_are))

-- the octets of the note that stands first are as many as its tag and its texts' lengths tell
pub note-first : (octets first behind : List ℕ) (note : Note) → octets ≡ spelling note ++ behind
    → first ≡ take (prefix_length octets) octets → first ≡ spelling note
note-first octets first behind note split is =
    let long : length (spelling note) ≡ prefix_length octets =
    sym (ap prefix_length split ∙ prefix_length-note note behind) in
    is ∙ (ap (take (prefix_length octets)) split ∙ take_at (spelling note) behind (prefix_length octets) long)

-- and none of them is missing
pub note-inside : (octets behind : List ℕ) (note : Note) → octets ≡ spelling note ++ behind
    → prefix_length octets ≤ length octets
note-inside octets behind note split =
    omega (
      arith,
      ap prefix_length split ∙ prefix_length-note note behind,
      ap length split,
      length-append (spelling note) behind,
    )

-- the octets of the note that stands first are there, if one does
pub first-there : {P : Type 0} (octets behind : List ℕ) (n : ℕ) (note : Note) (prefix rest : P → List ℕ) (o : Option P)
    → n ≡ prefix_length octets → octets ≡ spelling note ++ behind
    → MatchOption o (length octets < n) (λ p. IsSplitAt octets n (prefix p) (rest p))
    → IsSome o × IfSome o (λ p. prefix p ≡ spelling note)
first-there octets behind n note prefix rest None many split cases =
    absurd (omega (arith, cases, many, note-inside octets behind note split))
first-there octets behind n note prefix rest (Some p) many split cases =
    (refl, note-first octets (prefix p) behind note split (cases.1 ∙ ap (λ (m : ℕ). take m octets) many))
