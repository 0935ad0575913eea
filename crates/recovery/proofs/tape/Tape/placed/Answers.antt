-- A tape that was given a place stands for the same histories.
use Rattle.std.specs.Prelude.{Some}
use Rattle.recovery.proofs.Stands.{stands_placed}
use Rattle.recovery.proofs.tape.Tape.placed.Goals as goal

pub returns-clause-stands : goal.returns-clause-stands
returns-clause-stands g c = λ h.
    let tape = c.args.self.now in (
      stands_placed tape (Some c.args.place) _ h,
      stands_placed (record tape { place = Some c.args.place; few = _ }) tape.place tape.few h,
    )
