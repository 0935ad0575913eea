-- Where the notes of debts are, from which their texts are read.
use Rattle.std.specs.Prelude.{◌≡◌, ◌==◌, ℕ, ◌+◌, ◌-◌, ◌^◌, ◌≤◌, min, not, List, [], ◌∷◌, ◌++◌, length, map, filter}
use Rattle.std.specs.Prelude.{nat_lt, if◌then◌else◌}
use Rattle.ledger_core.specs.declared.note.Note.{Note}
use Rattle.ledger_core.specs.declared.note.Note.TheVariants.{Owe, Final, Drop, Seen, Closed}
use Rattle.ledger_core.specs.declared.spot.DebtEntry.{DebtEntry}
use Rattle.ledger_core.specs.declared.spot.Spot.{Spot}
use Rattle.ledger_core.specs.Base.{owe}
use Rattle.ledger_core.specs.Batch.{StandsIn}
use Rattle.ledger_core.specs.Spelling.{spelling}
use Rattle.ledger_core.specs.State.{Owing}

-- what is kept of debts, by their keys
abbrev pub Entries : Type 0
Entries = List (ℕ × DebtEntry)

-- the debt that this is kept of
abbrev pub debt_of : ℕ × DebtEntry → Owing
debt_of entry = (entry.0, (entry.1.token.value, entry.1.id.value))

abbrev pub debts_of : Entries → List Owing
debts_of entries = map debt_of entries

-- all but the one of this key
abbrev pub lacking : ℕ → Entries → Entries
lacking key entries = filter (λ (entry : ℕ × DebtEntry). not (entry.0 == key)) entries

-- how many octets the records of these payloads have on a tape: each payload comes after a gate and a length in four
-- octets
abbrev pub records_length : List (List ℕ) → ℕ
records_length [] = 0
records_length (payload ∷ payloads) = 5 + length payload + records_length payloads

-- The payload is one of these: the first `kept` are on the tape, and the others are pending. Its record is at this
-- offset, and if it is pending, it is in this slot.
pub record StandsAt (kept : ℕ) (payloads : List (List ℕ)) (at slot : ℕ) (payload : List ℕ) : Type 0 where
  pub prefix : List (List ℕ)
  pub behind : List (List ℕ)
  pub split : payloads ≡ prefix ++ payload ∷ behind
  pub at_is : at ≡ min (records_length prefix) (2 ^ 64 - 1)
  pub slot_is : kept ≤ length prefix → slot + kept ≡ length prefix

-- The records of these payloads begin at this offset, after others, and `kept` payloads are on the tape, those and
-- these among them.
pub record Follows (kept : ℕ) (prefix payloads : List (List ℕ)) (at : ℕ) : Type 0 where
  pub at_is : at ≡ min (records_length prefix) (2 ^ 64 - 1)
  pub on_tape : length prefix + length payloads ≤ kept

-- these octets are in one of these payloads, at that place and after `within` octets of its notes
pub record IsFound (kept : ℕ) (payloads : List (List ℕ)) (at slot within : ℕ) (octets : List ℕ) : Type 0 where
  pub payload : List ℕ
  pub stands : StandsAt kept payloads at slot payload
  pub inside : StandsIn payload within octets

-- where the note is; nothing is asked of a note that owes nothing
abbrev pub IsPlaced : ℕ → List (List ℕ) → ℕ → ℕ → ℕ → Note → Type 0
IsPlaced kept payloads at slot within (Owe key token id) =
    IsFound kept payloads at slot within (spelling (Owe key token id))
IsPlaced kept payloads at slot within (Final key code) = Unit {0}
IsPlaced kept payloads at slot within (Drop key cause) = Unit {0}
IsPlaced kept payloads at slot within (Seen number) = Unit {0}
IsPlaced kept payloads at slot within (Closed source) = Unit {0}

-- the note that owes this debt is at this spot
abbrev pub PointsAt : ℕ → List (List ℕ) → ℕ × DebtEntry → Type 0
PointsAt kept payloads entry =
    IsFound kept payloads entry.1.spot.at entry.1.spot.slot entry.1.spot.within (spelling (owe (debt_of entry)))

-- the spot of the same debt at this offset of the tape, alone in its record
abbrev pub moved_to : ℕ → Spot → Spot
moved_to at spot = record spot { at = at; slot = 0; within = 0 }

-- how many octets the note of a debt of this key has on a tape apart from its texts, with its record's gate and length
abbrev pub owe_octets : ℕ → ℕ
owe_octets key = if nat_lt key (2 ^ 64) then 16 else 20

-- where the record after it is then
abbrev pub beyond : ℕ → ℕ × Spot → ℕ
beyond at debt = min (at + (owe_octets debt.0 + debt.1.token_len + debt.1.id_len)) (2 ^ 64 - 1)
