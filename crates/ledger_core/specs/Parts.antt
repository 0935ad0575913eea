-- What an outline keeps of debts (profile): the octets that each counts, and which note owed it.
use Rattle.std.specs.Prelude.{◌==◌, ℕ, List, Option, map}
use Rattle.std.specs.BTreeMap.{insert_entry}
use Rattle.std.specs.Map.{lookup}
use Rattle.std.specs.Ordering.{nat_cmp}
use Rattle.ledger_core.specs.declared.note.Note.{Note}
use Rattle.ledger_core.specs.declared.note.Note.TheVariants.{Owe, Final, Drop, Seen, Closed}
use Rattle.ledger_core.specs.Shape.{Size, without_key}

-- for each debt, by rising keys: the ordinal of the note that owed it, and its octets
abbrev pub Parts : Type 0
Parts = List (ℕ × (ℕ × ℕ))

abbrev pub sizes_of : Parts → List Size
sizes_of parts = map (λ (part : ℕ × (ℕ × ℕ)). (part.0, part.1.1)) parts

abbrev pub ordinals_of : Parts → List (ℕ × ℕ)
ordinals_of parts = map (λ (part : ℕ × (ℕ × ℕ)). (part.0, part.1.0)) parts

-- the ordinals by keys after a note of this ordinal: a debt has that of the note that owes it, as long as it is owed
abbrev pub ordinals_step : List (ℕ × ℕ) → Note → ℕ → List (ℕ × ℕ)
ordinals_step ordinals (Owe key token id) ordinal = insert_entry nat_cmp ordinals key ordinal
ordinals_step ordinals (Final key code) ordinal = without_key key ordinals
ordinals_step ordinals (Drop key cause) ordinal = without_key key ordinals
ordinals_step ordinals (Seen number) ordinal = ordinals
ordinals_step ordinals (Closed source) ordinal = ordinals

-- the ordinal of this key, if there is one
abbrev pub ordinal_at : List (ℕ × ℕ) → ℕ → Option ℕ
ordinal_at ordinals key = lookup (λ (other : ℕ). other == key) ordinals
