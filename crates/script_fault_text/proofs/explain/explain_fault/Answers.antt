-- The second word of the line.
use Rattle.script_fault_text.proofs.explain.explain_fault.Goals as goal

pub returns-in-NoPeerOfTape : goal.returns-in-NoPeerOfTape
returns-in-NoPeerOfTape c = rw c.in-NoPeerOfTape.is (rw (← c.in_ok-line.ensures) c.on_second-in-NoPeerOfTape.ensures)

pub returns-in-TapeTwice : goal.returns-in-TapeTwice
returns-in-TapeTwice c = rw c.in-TapeTwice.is (rw (← c.in_ok-line.ensures) c.on_second-in-TapeTwice.ensures)
