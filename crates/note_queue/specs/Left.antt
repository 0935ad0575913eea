-- What is left of a side.
use Rattle.std.specs.Prelude.{List, ◌++◌}
use Rattle.disk_model.specs.declared.Disk.{Ghosts}
use Rattle.ledger_core.specs.declared.note.Note.{Note}
use Rattle.note_queue.specs.Owns.{kept_list}
use Rattle.note_queue.specs.declared.rejoin.Left.{Left}

-- the notes that were sent and are not on the tape: the kept one, and those of the queue
abbrev pub left_of : {D : Type 0} {g : Ghosts D} → Left D g → List Note
left_of left = kept_list left.kept ++ left.queued.items
