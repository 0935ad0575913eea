-- Laws of shapes after many notes, for the proofs of the crates above.
use Rattle.std.proofs.Common.{◌≡◌, ◌↔◌, List, [], ◌∷◌, ◌++◌, refl, ap, ◌∙◌, subst, sym}
use Rattle.ledger_core.specs.Shape.{Shape, shape_of, shape_step}
use Rattle.ledger_core.specs.ShapeLaws.{shape-fits, shape-steps}
use Rattle.ledger_core.specs.State.{AllLegal, State, after, step}
use Rattle.ledger_core.specs.declared.note.Note.{Note}
use Rattle.peer_queue.specs.Shapes.{AllFit, shape_after}

-- the shape of a ledger after notes depends only on the shape before them
pub shape-after : (state : State) (notes : List Note) → shape_of (after state notes) ≡ shape_after
    (shape_of state) notes
shape-after state [] = refl
shape-after state (note ∷ notes) =
    shape-after (step state note) notes ∙ ap (λ (shape : Shape). shape_after shape notes) (shape-steps state note)

-- some notes, and then more
pub shape-append : (shape : Shape) (notes more : List Note)
    → shape_after shape (notes ++ more) ≡ shape_after (shape_after shape notes) more
shape-append shape [] more = refl
shape-append shape (note ∷ notes) more = shape-append (shape_step shape note) notes more

-- and whether all of them are legal
pub legal-fit : (state : State) (notes : List Note) → AllLegal state notes ↔ AllFit (shape_of state) notes
legal-fit state [] = (λ legal. tt, λ fit. tt)
legal-fit state (note ∷ notes) =
    let first = shape-fits state note in
    let rest = legal-fit (step state note) notes in (
      λ legal. (
        first.0 legal.0,
        subst (λ (shape : Shape). AllFit shape notes) (shape-steps state note)
            (rest.0 legal.1),
      ),
      λ fit. (
        first.1 fit.0,
        rest.1 (subst (λ (shape : Shape). AllFit shape notes) (sym
            (shape-steps state note)) fit.1),
      ),
    )
