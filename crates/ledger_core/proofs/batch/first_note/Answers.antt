use Rattle.std.proofs.Common.{sym}
use Rattle.std.proofs.lemmas.Bool.{false≢true}
use Rattle.ledger_core.proofs.batch.first_note.Goals as goal

pub returns-in_default-clause-none : goal.returns-in_default-clause-none
returns-in_default-clause-none c = λ note behind is e.
    let there = rw c.in_default.is at c.first_in.ensures.first in
    false≢true (there note behind e).0

pub returns-in-None-clause-none : goal.returns-in-None-clause-none
returns-in-None-clause-none c = λ note behind is e.
    let none = rw c.in-None.is at c.in_ok-note.ensures.none in
    none note is (sym (c.in-Some.ensures.first note behind e).1)
