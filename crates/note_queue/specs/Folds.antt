-- What is left of a peer.
use Rattle.std.specs.Prelude.{◌≡◌, List, ◌++◌}
use Rattle.disk_model.specs.declared.Disk.{Ghosts}
use Rattle.ledger_core.specs.Shape.{shape_of}
use Rattle.ledger_core.specs.State.{after}
use Rattle.ledger_core.specs.declared.note.Note.{Note}
use Rattle.peer_queue.specs.Front.{front_shape, unsent_of}
use Rattle.recovery.specs.Words.{ledger_of}
use Rattle.note_queue.specs.Owns.{kept_list}
use Rattle.note_queue.specs.declared.joined.Joined.{Joined}

-- the notes that are not on the tape: the kept one, the queue's, and the unsent ones
abbrev pub left_at : {D : Type 0} {g : Ghosts D} → Joined D g → List Note
left_at joined = kept_list joined.kept ++ (joined.queued.items ++ unsent_of joined.front)

-- the tape's ledger, followed by the notes that are not on it, has the front's shape
abbrev pub Folds : {D : Type 0} {g : Ghosts D} → Joined D g → Type 0
Folds joined = front_shape joined.front ≡ shape_of (after (ledger_of joined.tape) (left_at joined))
