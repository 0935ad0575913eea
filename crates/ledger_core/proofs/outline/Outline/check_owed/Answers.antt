use Rattle.std.proofs.Common.{arith}
use Rattle.ledger_core.specs.declared.note.Note.TheVariants.{Final, Drop}
use Rattle.ledger_core.specs.Outline.{shape_in}
use Rattle.ledger_core.proofs.Parted.{length-parts}
use Rattle.ledger_core.proofs.Shaped.{judged-fits, sized-counts}
use Rattle.ledger_core.proofs.outline.Outline.check_owed.Goals as goal

pub returns-then-owes-clause-answered : goal.returns-then-owes-clause-answered
returns-then-owes-clause-answered c = λ code.
    let shape = shape_in c.args.self.now in
    let owed = c.owes.ensures.0 c.if-owes.true in
    judged-fits shape (Final c.args.key code) (
      owed,
      (sized-counts shape c.args.key owed
          (omega (arith, c.args.self.now.counted, length-parts c.args.self.now.debts.entries)) (omega arith)).0,
    )

pub returns-then-owes-clause-dropped : goal.returns-then-owes-clause-dropped
returns-then-owes-clause-dropped c = λ cause.
    let shape = shape_in c.args.self.now in
    let owed = c.owes.ensures.0 c.if-owes.true in
    judged-fits shape (Drop c.args.key cause) (
      owed,
      (sized-counts shape c.args.key owed
          (omega (arith, c.args.self.now.counted, length-parts c.args.self.now.debts.entries)) (omega arith)).1,
    )
