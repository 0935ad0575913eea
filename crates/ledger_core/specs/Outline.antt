-- What an outline stands for, and what a note does to it.
use Rattle.std.specs.Prelude.{◌≡◌, ◌↔◌, ℕ, List, Result, IsErrOf, IsOk, OnErr, OnOk}
use Rattle.ledger_core.specs.declared.ledger.LedgerFault.{LedgerFault}
use Rattle.ledger_core.specs.declared.ledger.LedgerFault.TheVariants.{OldNumber, NotOwed, CountFull, NoMemory}
use Rattle.ledger_core.specs.declared.note.Note.{Note}
use Rattle.ledger_core.specs.declared.outline.Outline.{Outline}
use Rattle.ledger_core.specs.Note.{IsOwe}
use Rattle.ledger_core.specs.Parts.{ordinals_of, sizes_of}
use Rattle.ledger_core.specs.Shape.{FitsShape, IsOldForShape, OverflowsShape, Shape, ShapeLacksDebt, shape_step}

-- the shape that an outline keeps
abbrev pub shape_in : Outline → Shape
shape_in outline =
    record {
      mark = outline.marks.mark;
      closed = outline.marks.closed;
      import_mark = outline.marks.import_mark;
      sizes = sizes_of outline.debts.entries;
      taken = outline.taken;
      answered = outline.answered;
      dropped = outline.dropped;
    }

-- which note owed each debt, by rising keys
abbrev pub ordinals_in : Outline → List (ℕ × ℕ)
ordinals_in outline = ordinals_of outline.debts.entries

-- How a note is taken or refused: the shape steps if the note is legal, and stays if it is refused, each refusal for
-- its own reason.
pub record StepsShape (result : Result (Unit {0}) LedgerFault) (old new : Shape) (note : Note) : Type 0 where
  pub ok : OnOk result (FitsShape old note × (new ≡ shape_step old note))
  pub old_number : IsErrOf result OldNumber ↔ IsOldForShape old note
  pub not_owed : IsErrOf result NotOwed ↔ ShapeLacksDebt old note
  pub count_full : IsErrOf result CountFull ↔ OverflowsShape old note
  pub no_memory : IsErrOf result NoMemory → IsOwe note × FitsShape old note
  pub unchanged : OnErr result (new ≡ old)

-- How a note is judged: good if it is legal, refused for its own reason otherwise.
pub record JudgesShape (result : Result (Unit {0}) LedgerFault) (shape : Shape) (note : Note) : Type 0 where
  pub ok : IsOk result ↔ FitsShape shape note
  pub old_number : IsErrOf result OldNumber ↔ IsOldForShape shape note
  pub not_owed : IsErrOf result NotOwed ↔ ShapeLacksDebt shape note
  pub count_full : IsErrOf result CountFull ↔ OverflowsShape shape note
  pub no_memory : IsErrOf result NoMemory → ⊥
