-- Shapes of ledgers after many notes, and why a ledger of this shape refuses one (profile).
use Rattle.std.specs.Prelude.{List, [], ◌∷◌}
use Rattle.ledger_core.specs.Shape.{FitsShape, IsOldForShape, OverflowsShape, Shape, ShapeLacksDebt, shape_step}
use Rattle.ledger_core.specs.declared.ledger.LedgerFault.{LedgerFault}
use Rattle.ledger_core.specs.declared.ledger.LedgerFault.TheVariants.{OldNumber, NotOwed, CountFull, NoMemory}
use Rattle.ledger_core.specs.declared.note.Note.{Note}

-- the shape after these notes
abbrev pub shape_after : Shape → List Note → Shape
shape_after shape [] = shape
shape_after shape (note ∷ notes) = shape_after (shape_step shape note) notes

-- each of these notes is legal after those before it
abbrev pub AllFit : Shape → List Note → Type 0
AllFit shape [] = Unit {0}
AllFit shape (note ∷ notes) = FitsShape shape note × AllFit (shape_step shape note) notes

-- why a ledger of this shape refuses a note
abbrev pub RefusesByShape : Shape → Note → LedgerFault → Type 0
RefusesByShape shape note OldNumber = IsOldForShape shape note
RefusesByShape shape note NotOwed = ShapeLacksDebt shape note
RefusesByShape shape note CountFull = OverflowsShape shape note
RefusesByShape shape note NoMemory = ⊥
