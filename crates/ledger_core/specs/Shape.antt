-- The shape of a ledger (profile): all that it counts, and no text. The shape alone determines what a note makes of it,
-- and whether the note is legal (ShapeLaws).
use Rattle.std.specs.Prelude.{◌≡◌, ◌==◌, ℕ, ◌+◌, ◌<◌, ◌≤◌, ◌^◌, not, nat_lt, if◌then◌else◌, List, length, map, filter}
use Rattle.std.specs.Prelude.{Option, sum_by, Contains}
use Rattle.std.specs.BTreeMap.{insert_entry}
use Rattle.std.specs.Map.{lookup}
use Rattle.std.specs.Ordering.{nat_cmp}
use Rattle.ledger_core.specs.declared.ledger.Totals.{Totals}
use Rattle.ledger_core.specs.declared.marks.Marks.{Marks}
use Rattle.ledger_core.specs.declared.note.Note.{Note}
use Rattle.ledger_core.specs.declared.note.Note.TheVariants.{Owe, Final, Drop, Seen, Closed}
use Rattle.ledger_core.specs.Keys.{number_of}
use Rattle.ledger_core.specs.Note.{IsNumber}
use Rattle.ledger_core.specs.State.{IsNext, Owing, State, line_octets}

-- the size of a debt: its key, and the octets that it counts
abbrev pub Size : Type 0
Size = ℕ × ℕ

-- What a ledger has apart from texts: how far the sources have come, the sizes of its debts by rising keys, and how
-- many were taken, answered and dropped.
pub record Shape : Type 0 where
  pub mark : ℕ
  pub closed : ℕ
  pub import_mark : ℕ
  pub sizes : List Size
  pub taken : ℕ
  pub answered : ℕ
  pub dropped : ℕ

abbrev pub size_of : Owing → Size
size_of debt = (debt.0, line_octets debt.1.0 debt.1.1)

-- the shape of a ledger
abbrev pub shape_of : State → Shape
shape_of state =
    record {
      mark = state.mark;
      closed = state.closed;
      import_mark = state.import_mark;
      sizes = map size_of state.debts;
      taken = state.taken;
      answered = state.answered;
      dropped = state.dropped;
    }

-- ---- what a shape has

-- how far the sources have come
abbrev pub shape_marks : Shape → Marks
shape_marks shape = record { mark = shape.mark; closed = shape.closed; import_mark = shape.import_mark }

-- the keys of these debts
abbrev pub keys_sized : List Size → List ℕ
keys_sized sizes = map (λ (size : Size). size.0) sizes

-- the octets of these debts
abbrev pub octets_sized : List Size → ℕ
octets_sized sizes = sum_by (λ (size : Size). size.1) sizes

-- the octets of the debt of this key, if there is one
abbrev pub size_at : List Size → ℕ → Option ℕ
size_at sizes key = lookup (λ (other : ℕ). other == key) sizes

-- the debt of this key is owed
abbrev pub IsSized : Shape → ℕ → Type 0
IsSized shape key = Contains (keys_sized shape.sizes) key

-- what it counts
abbrev pub shape_totals : Shape → Totals
shape_totals shape =
    record {
      taken = shape.taken;
      answered = shape.answered;
      dropped = shape.dropped;
      owed = length shape.sizes;
      owed_bytes = octets_sized shape.sizes;
    }

-- ---- after a note

-- all but the entry of this key
abbrev pub without_key : {V : Type 0} → ℕ → List (ℕ × V) → List (ℕ × V)
without_key {V} key entries = filter (λ (entry : ℕ × V). not (entry.0 == key)) entries

-- the shape after a note
abbrev pub shape_step : Shape → Note → Shape
shape_step shape (Owe key token id) =
    record shape {
      mark = if nat_lt key (2 ^ 64) then key else shape.mark;
      import_mark = if nat_lt key (2 ^ 64) then shape.import_mark else number_of key;
      sizes = insert_entry nat_cmp shape.sizes key (line_octets token id);
      taken = shape.taken + 1;
    }
shape_step shape (Final key code) =
    record shape { sizes = without_key key shape.sizes; answered = shape.answered + 1 }
shape_step shape (Drop key cause) =
    record shape { sizes = without_key key shape.sizes; dropped = shape.dropped + 1 }
shape_step shape (Seen number) = record shape { mark = number }
shape_step shape (Closed source) = record shape { closed = source; import_mark = 0 }

-- ---- which notes are legal

-- An Owe of a key that may not be noted next, a Seen of a number at or below the mark, or a Closed of a source that is
-- not the open one.
abbrev pub IsOldForShape : Shape → Note → Type 0
IsOldForShape shape (Owe key token id) = IsNext (shape_marks shape) key → ⊥
IsOldForShape shape (Final key code) = ⊥
IsOldForShape shape (Drop key cause) = ⊥
IsOldForShape shape (Seen number) = number ≤ shape.mark
IsOldForShape shape (Closed source) = source ≡ shape.closed + 1 → ⊥

-- A Final or a Drop of a key that is not owed.
abbrev pub ShapeLacksDebt : Shape → Note → Type 0
ShapeLacksDebt shape (Owe key token id) = ⊥
ShapeLacksDebt shape (Final key code) = IsSized shape key → ⊥
ShapeLacksDebt shape (Drop key cause) = IsSized shape key → ⊥
ShapeLacksDebt shape (Seen number) = ⊥
ShapeLacksDebt shape (Closed source) = ⊥

-- A note that is not old but would take a count, or the octets that are owed, past the greatest number; or would close
-- the last source, after which none could be open.
abbrev pub OverflowsShape : Shape → Note → Type 0
OverflowsShape shape (Owe key token id) =
    IsNext (shape_marks shape) key
    × ((shape.taken + 1 < 2 ^ 64) × (octets_sized shape.sizes + line_octets token id < 2 ^ 64) → ⊥)
OverflowsShape shape (Final key code) = IsSized shape key × (shape.answered + 1 < 2 ^ 64 → ⊥)
OverflowsShape shape (Drop key cause) = IsSized shape key × (shape.dropped + 1 < 2 ^ 64 → ⊥)
OverflowsShape shape (Seen number) = ⊥
OverflowsShape shape (Closed source) = (source ≡ shape.closed + 1) × (source + 1 < 2 ^ 32 → ⊥)

-- What makes a note legal: an Owe is of a key that may be noted next, a Seen above the mark, a Closed of the open
-- source, a Final or a Drop of a key that is owed, and no count passes the greatest number.
abbrev pub FitsShape : Shape → Note → Type 0
FitsShape shape (Owe key token id) =
    IsNext (shape_marks shape) key × (shape.taken + 1 < 2 ^ 64)
    × (octets_sized shape.sizes + line_octets token id < 2 ^ 64)
FitsShape shape (Final key code) = IsSized shape key × (shape.answered + 1 < 2 ^ 64)
FitsShape shape (Drop key cause) = IsSized shape key × (shape.dropped + 1 < 2 ^ 64)
FitsShape shape (Seen number) = IsNumber number × (shape.mark < number)
FitsShape shape (Closed source) = (source ≡ shape.closed + 1) × (source + 1 < 2 ^ 32)
