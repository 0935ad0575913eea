-- What a front is told once its tape has failed.
use Rattle.std.specs.Prelude.{◌≡◌, true}
use Rattle.flusher.specs.Faults.{HasBroken}
use Rattle.flusher.specs.declared.fault.PostFault.{PostFault}
use Rattle.flusher.specs.declared.front_desk.FrontDesk.{FrontDesk}
use Rattle.flusher.specs.declared.naming.Naming.{Ghosts}
use Rattle.note_queue.specs.Words.{front_of}
use Rattle.peer_queue.specs.FrontCalls.{OnlyOutbox}
use Rattle.peer_queue.specs.Outbox.{Breaks}

module _ {N : Type 0} {n : Ghosts N} where
  -- The front is told that a flush or a rotation of its tape failed with this fault. If a disk failed, now or before,
  -- it is cut off: it takes no note any more.
  pub record IsTold (fault : PostFault) (old new : FrontDesk N n) : Type 0 where
    pub failed : new.has_failed ≡ true
    pub acknowledged : new.acknowledged ≡ old.acknowledged
    pub breaks : HasBroken fault → OnlyOutbox Breaks (front_of old.seat.sender) (front_of new.seat.sender)
    pub keeps : (HasBroken fault → ⊥) → front_of new.seat.sender ≡ front_of old.seat.sender
