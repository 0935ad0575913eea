use Rattle.recovery.specs.Words.{ledger_of}
use Rattle.note_queue.proofs.rule.split_pass.Given as goal

abbrev pub ghosts-split_pass_at : goal.ghosts-split_pass_at
ghosts-split_pass_at g a = record { ledger = ledger_of a.tape.now }
