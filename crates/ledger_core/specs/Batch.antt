-- Batches (profile): notes under one gate. A note that comes alone is its plain payload. Several are one payload: a
-- tag; how many there are, in four octets, most significant first; and then their payloads, one after another.
use Rattle.std.specs.Prelude.{◌≡◌, ◌==◌, ◌⊎◌, ℕ, ◌+◌, ◌<◌, ◌≤◌, List, [], ◌∷◌, ◌++◌, cond, drop, get_or, length}
use Rattle.std.specs.Int.{to_be_bytes, w32}
use Rattle.ledger_core.specs.declared.note.Note.{Note}
use Rattle.ledger_core.specs.Note.{AreNotes, IsNote}
use Rattle.ledger_core.specs.Spelling.{spelling}

-- the length of the longest payload of several notes, in octets
abbrev pub longest_batch : ℕ
longest_batch = 65536

-- the payloads of notes, one after another
abbrev pub together : List Note → List ℕ
together [] = []
together (note ∷ notes) = spelling note ++ together notes

-- the payload of several notes on a tape
abbrev pub batch_spelling : List Note → List ℕ
batch_spelling notes = 11 ∷ (to_be_bytes w32 (length notes) ++ together notes)

-- notes that may come as one payload of several: at least two, and no more than fit
pub record AreSeveral (notes : List Note) : Type 0 where
  pub notes_are : AreNotes notes
  pub several : 2 ≤ length notes
  pub fits : length (batch_spelling notes) ≤ longest_batch

-- no several notes are spelled so
abbrev pub SpellsNoBatch : List ℕ → Type 0
SpellsNoBatch octets = (notes : List Note) → AreSeveral notes → batch_spelling notes ≡ octets → ⊥

-- ---- the first note

-- where the text ends whose length is here
abbrev pub text_end : List ℕ → ℕ → ℕ
text_end octets at = at + 1 + get_or octets at 0

-- how long a note is that begins so, by its tag and the lengths of its texts; 0 if none does
abbrev pub prefix_length : List ℕ → ℕ
prefix_length [] = 0
prefix_length (tag ∷ rest) =
    cond (tag == 1) (text_end (tag ∷ rest) (text_end (tag ∷ rest) 9))
    (cond (tag == 6) (text_end (tag ∷ rest) (text_end (tag ∷ rest) 13))
    (cond (tag == 2) 11 (cond (tag == 7) 15 (cond (tag == 3) 10 (cond (tag == 8) 14
    (cond (tag == 5) 9 (cond (tag == 9) 5 0)))))))

-- ---- what is under one gate: a note, or several

abbrev pub IsBatch : List Note → Type 0
IsBatch [] = ⊥
IsBatch (note ∷ []) = IsNote note
IsBatch (note ∷ next ∷ notes) = AreSeveral (note ∷ next ∷ notes)

-- their payload on a tape
abbrev pub payload_of : List Note → List ℕ
payload_of [] = []
payload_of (note ∷ []) = spelling note
payload_of (note ∷ next ∷ notes) = batch_spelling (note ∷ next ∷ notes)

abbrev pub AreBatches : List (List Note) → Type 0
AreBatches [] = Unit {0}
AreBatches (batch ∷ batches) = IsBatch batch × AreBatches batches

abbrev pub payloads_of : List (List Note) → List (List ℕ)
payloads_of [] = []
payloads_of (batch ∷ batches) = payload_of batch ∷ payloads_of batches

-- their notes, in order
abbrev pub notes_of : List (List Note) → List Note
notes_of [] = []
notes_of (batch ∷ batches) = batch ++ notes_of batches

-- ---- the longest batches

-- with this note after them the notes would be too long for one payload
abbrev pub IsFullFor : List Note → Note → Type 0
IsFullFor batch note = longest_batch < length (batch_spelling (batch ++ note ∷ []))

-- a batch is full for the first note of the next one
abbrev pub IsFullBefore : List Note → List Note → Type 0
IsFullBefore batch [] = ⊥
IsFullBefore batch (note ∷ notes) = IsFullFor batch note

-- each batch but the last is as long as fits
abbrev pub AreLongest : List (List Note) → Type 0
AreLongest [] = Unit {0}
AreLongest (batch ∷ []) = Unit {0}
AreLongest (batch ∷ next ∷ batches) = IsFullBefore batch next × AreLongest (next ∷ batches)

-- notes, cut in order into the longest batches that fit
pub record Cuts (notes : List Note) (batches : List (List Note)) : Type 0 where
  pub are : AreBatches batches
  pub longest : AreLongest batches
  pub whole : notes_of batches ≡ notes

-- ---- where a note is in its payload

-- the octets of a payload that are notes: all of them, or what follows the tag and the count of several
abbrev pub body_of : List ℕ → List ℕ
body_of [] = []
body_of (tag ∷ rest) = cond (tag == 11) (drop 4 rest) (tag ∷ rest)

-- These octets come after `within` octets of the notes of this payload; after others only in a payload of several.
pub record StandsIn (payload : List ℕ) (within : ℕ) (octets : List ℕ) : Type 0 where
  pub before : List ℕ
  pub behind : List ℕ
  pub split : body_of payload ≡ before ++ (octets ++ behind)
  pub within_is : within ≡ length before
  pub headed : (within ≡ 0) ⊎ ((rest : List ℕ) × (payload ≡ 11 ∷ rest))
