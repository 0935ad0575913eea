-- How far a front has sent its notes.
use Rattle.std.specs.Prelude.{◌≡◌, ◌⊎◌, []}
use Rattle.crossbeam_queue.specs.Passes.{view}
use Rattle.flusher.specs.declared.front_desk.FrontSeat.{FrontSeat}
use Rattle.flusher.specs.declared.naming.Naming.{Ghosts}
use Rattle.note_queue.specs.Relay.{Relayed, WasSeen}
use Rattle.note_queue.specs.Words.{front_of, sending}
use Rattle.note_queue.specs.declared.sender.Sender.{Sender}
use Rattle.peer_queue.specs.Front.{KeepsNotes, unsent_of}

-- all that is noted is sent, or the queue was full once what was sent had been
abbrev pub IsSent : Sender → Type 0
IsSent sender = (unsent_of (front_of sender) ≡ []) ⊎ WasSeen Relayed 1024 (view (sending sender))

module _ {N : Type 0} {n : Ghosts N} where
  -- Nothing was sent: what a front notes is unsent from then on. It is still at its place.
  pub record SendsNothing (old new : FrontSeat N n) : Type 0 where
    pub pass : sending new.sender ≡ sending old.sender
    pub place : new.place ≡ old.place

  -- Nothing was noted, either.
  pub record NotesNothing (old new : FrontSeat N n) : Type 0 where
    pub notes : KeepsNotes (front_of old.sender) (front_of new.sender)
    pub sends : SendsNothing old new
