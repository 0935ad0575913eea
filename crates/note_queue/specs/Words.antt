-- What the two ends of a queue hold.
use Rattle.std.specs.Prelude.{ℕ, Option}
use Rattle.crossbeam_queue.specs.Passes.{Pass}
use Rattle.disk_model.specs.declared.Disk.{Ghosts}
use Rattle.ledger_core.specs.declared.note.Note.{Note}
use Rattle.peer_queue.specs.declared.front.Front.{Front}
use Rattle.recovery.specs.declared.tape.Tape.{Tape}
use Rattle.note_queue.specs.declared.rule.PassLog.{PassLog}
use Rattle.note_queue.specs.declared.sender.Sender.{Sender}
use Rattle.note_queue.specs.declared.side.Side.{Side}

-- the front of a sender
abbrev pub front_of : Sender → Front
front_of sender = sender.front

-- the pass by which it sends
abbrev pub sending : Sender → Pass Note PassLog
sending sender = sender.pass

module _ {D : Type 0} {g : Ghosts D} where
  -- its tape
  abbrev pub tape_of : Side D g → Tape D g
  tape_of side = side.tape

  -- the pass by which it receives
  abbrev pub taking : Side D g → Pass Note PassLog
  taking side = side.pass

  -- the note that the tape refused
  abbrev pub kept_of : Side D g → Option Note
  kept_of side = side.kept

  -- what its tape counted at the split
  abbrev pub since_of : Side D g → ℕ
  since_of side = side.since
