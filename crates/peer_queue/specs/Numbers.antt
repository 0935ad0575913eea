-- Which of a front's notes owed a debt (profile).
use Rattle.std.specs.Prelude.{◌≡◌, ◌+◌, ◌<◌, ◌^◌, ℕ, List, length, slice_index_or}
use Rattle.ledger_core.specs.State.{IsPast}
use Rattle.ledger_core.specs.declared.marks.Marks.{Marks}
use Rattle.ledger_core.specs.declared.note.Note.{Note}
use Rattle.ledger_core.specs.declared.note.Note.TheVariants.{Owe}

-- how many settled notes are kept at most
abbrev pub most_lying : ℕ
most_lying = 8192

-- The note at this place owes the debt of this key.
abbrev pub OwesAt : List Note → ℕ → ℕ → Type 0
OwesAt notes index key =
    (token : List ℕ) × (id : List ℕ) × (index < length notes)
    × (slice_index_or notes index (Owe key token id) ≡ Owe key token id)

-- If the note that owed a debt is one of these, its number is the debt's ordinal; `before` notes were counted before
-- the first of these. This holds for ordinals of 64 bits.
abbrev pub IsNumbered : ℕ → List Note → ℕ × ℕ → Type 0
IsNumbered before notes entry =
    (index : ℕ) → OwesAt notes index entry.0 → before + index + 1 < 2 ^ 64 → entry.1 ≡ before + index + 1

-- what a note owes may be owed under these marks
abbrev pub OwesPast : Marks → Note → Type 0
OwesPast marks note = (key : ℕ) (token id : List ℕ) → note ≡ Owe key token id → IsPast marks key
