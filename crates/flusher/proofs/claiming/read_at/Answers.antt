use Rattle.std.proofs.Common.{◌≡◌, Some}
use Rattle.recovery.specs.Words.{ledger_of}
use Rattle.note_queue.specs.Words.{tape_of}
use Rattle.flusher.proofs.Ahead.{lengths_key}
use Rattle.flusher.proofs.claiming.read_at.Goals as goal

pub returns-in-Ok-Some-clause-key : goal.returns-in-Ok-Some-clause-key
returns-in-Ok-Some-clause-key g c =
    let is : c.in-Ok-Some.field-0 ≡ Some c.in-Ok-Some.debt = cc in
    lengths_key c.args.key (ledger_of (tape_of c.args.desk.now.side)).debts c.in-Ok-Some.debt c.in-Ok-Some.field-0 is
    c.in-Ok-Some.ensures.owed.1
