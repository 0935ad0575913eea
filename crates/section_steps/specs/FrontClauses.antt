-- What the calls under a front's lock say of the sender there, all their clauses together. `pass` is that of
-- `SendsNothing` (`sends`, or `keeps`); the others are those of the call of flusher that is named here.
use Rattle.std.specs.Prelude.{◌≡◌, ◌↔◌, ◌-◌, ℕ, Bool, true, false, List, Result, IfOk, IsTrue, OnErr, OnOk}
use Rattle.conn_core.specs.declared.outcome.Outcome.{Outcome}
use Rattle.flusher.specs.Counted.{FinishesAndCounts, ShedsAndCounts}
use Rattle.flusher.specs.Refuses.{RefusesOutcome, RefusesShed, RefusesTaking}
use Rattle.flusher.specs.Room.{IsCountFull}
use Rattle.flusher.specs.Shares.{FeederCount}
use Rattle.flusher.specs.Takes.{TakesLine}
use Rattle.flusher.specs.declared.fault.PostFault.{PostFault}
use Rattle.note_queue.specs.Noted.{IsOnlySent}
use Rattle.note_queue.specs.Sending.{SendsMore}
use Rattle.note_queue.specs.Words.{front_of, sending}
use Rattle.note_queue.specs.declared.sender.Sender.{Sender}
use Rattle.peer_queue.specs.Front.{IsSame, KeepsNotes, settled_of}
use Rattle.peer_queue.specs.FrontCalls.{IsAnswered, OnlyOutbox}
use Rattle.peer_queue.specs.Outbox.{Breaks, Learns}
use Rattle.peer_queue.specs.declared.fault.StationFault.{StationFault}
use Rattle.peer_queue.specs.declared.limits.Shed.{Shed}
use Rattle.peer_queue.specs.declared.settled.Settled.{Settled}
use Rattle.recovery.specs.declared.flushed.Flushed.{Flushed}

-- A line is taken at this peer's front, which the intake knows to have this mark, and counted in books that have
-- counted so many (`take_in`, of `FrontDesk::take`).
pub record SaysTake (peer books mark number : ℕ) (token id : List ℕ) (old new : Sender)
    (result : Result (Unit {0}) PostFault) : Type 0 where
  pub takes : OnOk result (TakesLine mark number token id (front_of old) (front_of new))
  pub unchanged : OnErr result (IsSame (front_of old) (front_of new))
  pub refuses : RefusesTaking peer (IsCountFull books) mark number (front_of old) result
  pub pass : sending new ≡ sending old

-- a connection's outcome of a debt is taken (`FrontDesk::finish`)
pub record SaysFinish (connection now : ℕ) (outcome : Outcome) (old new : Sender) (before after : FeederCount)
    (result : Result Settled (Outcome × StationFault)) : Type 0 where
  pub ok : IfOk result (λ settled. FinishesAndCounts connection now outcome settled (front_of old) (front_of new)
      before after)
  pub refuses : RefusesOutcome connection now outcome (front_of old) (front_of new) result
  pub pass : sending new ≡ sending old

-- what exceeds the limit is shed (`FrontDesk::shed`)
pub record SaysShed (old new : Sender) (before after : ℕ) (result : Result Shed StationFault) : Type 0 where
  pub ok : IfOk result (λ shed. ShedsAndCounts shed (front_of old) (front_of new) before after)
  pub refuses : RefusesShed (front_of old) result
  pub unchanged : OnErr result (IsSame (front_of old) (front_of new))
  pub pass : sending new ≡ sending old

-- a claim, or a release of all that a connection holds (`FrontDesk::claim`, `release`)
pub record SaysKeep (old new : Sender) : Type 0 where
  pub keeps : KeepsNotes (front_of old) (front_of new)
  pub pass : sending new ≡ sending old

-- a debt is put off (`FrontDesk::put_off`), or a key is given back (`Sender::unclaim`)
pub record SaysMove {T : Type 0} {E : Type 0} (old new : Sender) (result : Result T E) : Type 0 where
  pub ok : OnOk result (KeepsNotes (front_of old) (front_of new))
  pub unchanged : OnErr result (IsSame (front_of old) (front_of new))
  pub pass : sending new ≡ sending old

-- the front learns what a flush has put on the disks (`Sender::settled`, of `FrontDesk::learn`)
pub record SaysLearn (flushed : Flushed) (old new : Sender) (result : Bool) : Type 0 where
  pub answer : IsTrue result ↔ IsAnswered flushed (front_of old)
  pub learns : IsTrue result → OnlyOutbox (Learns (flushed.count - settled_of (front_of old))) (front_of old)
      (front_of new)
  pub unchanged : (IsTrue result → ⊥) → new ≡ old
  pub pass : sending new ≡ sending old

-- the front is told that a flush or a rotation failed (`FrontDesk::fail`)
pub record SaysFail (has_broken : Bool) (old new : Sender) : Type 0 where
  pub breaks : has_broken ≡ true → OnlyOutbox Breaks (front_of old) (front_of new)
  pub keeps : has_broken ≡ false → front_of new ≡ front_of old
  pub pass : sending new ≡ sending old

-- notes are sent (`Sender::send`, of `FrontDesk::send`)
pub record SaysSend (old new : Sender) : Type 0 where
  pub sends : SendsMore old new
  pub keeps : IsOnlySent (front_of old) (front_of new)
