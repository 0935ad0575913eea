-- What sending does.
use Rattle.std.specs.Prelude.{◌≡◌, List, ◌++◌}
use Rattle.crossbeam_queue.specs.Passes.{view, IsSamePass}
use Rattle.ledger_core.specs.declared.note.Note.{Note}
use Rattle.peer_queue.specs.Front.{unsent_of}
use Rattle.note_queue.specs.declared.sender.Sender.{Sender}

-- a prefix of what was unsent was sent, in order; it may be empty
pub record SendsMore (old new : Sender) : Type 0 where
  pub queue : IsSamePass old.pass new.pass
  pub base : (view new.pass).sent_on ≡ (view old.pass).sent_on
  pub more : List Note
  pub sent : (view new.pass).sent ≡ (view old.pass).sent ++ more
  pub unsent : unsent_of old.front ≡ more ++ unsent_of new.front
