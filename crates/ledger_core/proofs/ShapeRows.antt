-- Worked rows of shapes and ordinals, each computed.
use Rattle.std.specs.Prelude.{◌≡◌, ℕ, List, [], ◌∷◌, None, Some, refl}
use Rattle.std.proofs.Common.{arith, inl}
use Rattle.ledger_core.specs.Keys.{key_of}
use Rattle.ledger_core.specs.declared.note.FinalCode.TheVariants.{TakethisReceived}
use Rattle.ledger_core.specs.declared.note.Cause.TheVariants.{Missing}
use Rattle.ledger_core.specs.declared.note.Note.TheVariants.{Owe, Final, Drop, Seen, Closed}
use Rattle.ledger_core.specs.Parts.{ordinal_at, ordinals_step}
use Rattle.ledger_core.specs.Shape.{FitsShape, IsOldForShape, Shape, keys_sized, octets_sized, shape_of, shape_step}
use Rattle.ledger_core.specs.Shape.{shape_totals}
use Rattle.ledger_core.specs.State.{after, start}

-- `a/1`
abbrev token : List ℕ
token = 97 ∷ 47 ∷ 49 ∷ []

-- `<x@y>`
abbrev id : List ℕ
id = 60 ∷ 120 ∷ 64 ∷ 121 ∷ 62 ∷ []

-- line 3 of source 1
abbrev third : ℕ
third = key_of 1 3

-- of no note
none : shape_of start
    ≡ record { mark = 0; closed = 0; import_mark = 0; sizes = []; taken = 0; answered = 0; dropped = 0 }
none = refl

-- an Owe of line 1 of the funnel, and one of line 2
abbrev two : Shape
two = shape_step (shape_step (shape_of start) (Owe 1 token id)) (Owe 2 token id)

two-sizes : two.sizes ≡ (1, 10) ∷ (2, 10) ∷ []
two-sizes = refl

two-is : shape_of (after start (Owe 1 token id ∷ Owe 2 token id ∷ [])) ≡ two
two-is = refl

two-totals : shape_totals two ≡ record { taken = 2; answered = 0; dropped = 0; owed = 2; owed_bytes = 20 }
two-totals = refl

-- one is answered, or dropped
answered : shape_step two (Final 1 TakethisReceived)
    ≡ record { mark = 2; closed = 0; import_mark = 0; sizes = (2, 10) ∷ []; taken = 2; answered = 1; dropped = 0 }
answered = refl

dropped : shape_step two (Drop 2 Missing)
    ≡ record { mark = 2; closed = 0; import_mark = 0; sizes = (1, 10) ∷ []; taken = 2; answered = 0; dropped = 1 }
dropped = refl

seen : (shape_step two (Seen 7)).mark ≡ 7
seen = refl

-- an Owe of line 2 is old then, and one of line 3 is not
old : IsOldForShape two (Owe 2 token id)
old next = grind (arith, next)

new : FitsShape two (Owe 3 token id)
new = (inl (omega arith, omega arith), omega arith, omega arith)

-- line 3 of source 1, and the end of that source: its keys come behind those of the funnel
abbrev imported : Shape
imported = shape_step (shape_step two (Owe third token id)) (Closed 1)

imported-keys : keys_sized imported.sizes ≡ 1 ∷ 2 ∷ third ∷ []
imported-keys = refl

imported-marks : imported ≡ record imported { mark = 2; closed = 1; import_mark = 0 }
imported-marks = refl

imported-octets : octets_sized imported.sizes ≡ 30
imported-octets = refl

-- the ordinals of notes 4 and 5, of which note 6 ends the first
ordinals : ordinals_step (ordinals_step (ordinals_step [] (Owe 1 token id) 4) (Owe 2 token id) 5) (Drop 1 Missing) 6
    ≡ (2, 5) ∷ []
ordinals = refl

ordinal-owed : ordinal_at ((1, 4) ∷ (2, 5) ∷ []) 2 ≡ Some 5
ordinal-owed = refl

ordinal-none : ordinal_at ((1, 4) ∷ (2, 5) ∷ []) 3 ≡ None
ordinal-none = refl
