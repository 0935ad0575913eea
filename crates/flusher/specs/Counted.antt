-- What finishing an outcome counts, and shedding.
use Rattle.std.specs.Prelude.{◌≡◌, ◌+◌, ℕ, length}
use Rattle.conn_core.specs.declared.outcome.Outcome.{Outcome}
use Rattle.peer_queue.specs.Front.{limits_of}
use Rattle.peer_queue.specs.FrontCalls.{Finishes, Sheds}
use Rattle.peer_queue.specs.Settled.{settled_by}
use Rattle.peer_queue.specs.declared.front.Front.{Front}
use Rattle.peer_queue.specs.declared.limits.Limits.{Limits}
use Rattle.peer_queue.specs.declared.limits.Shed.{Shed}
use Rattle.peer_queue.specs.declared.settled.Settled.{Settled}
use Rattle.peer_queue.specs.declared.settled.Settled.TheVariants.{Answered, Dropped, Later, Ready}
use Rattle.flusher.specs.Shares.{FeederCount}

-- by how many debts the answered ones rise if this became of a debt
abbrev pub answered_by : Settled → ℕ
answered_by (Answered code) = 1
answered_by (Dropped cause) = 0
answered_by (Later moment) = 0
answered_by Ready = 0

-- by how many the dropped ones rise
abbrev pub dropped_by : Settled → ℕ
dropped_by (Answered code) = 0
dropped_by (Dropped cause) = 1
dropped_by (Later moment) = 0
dropped_by Ready = 0

-- a share counts that a debt became this
pub record Counts (settled : Settled) (old new : FeederCount) : Type 0 where
  pub answered : new.answered ≡ old.answered + answered_by settled
  pub dropped : new.dropped ≡ old.dropped + dropped_by settled

-- A debt became this by its outcome, at this moment, at a station of some limits, and a share counts it.
pub record IsCounted (outcome : Outcome) (now : ℕ) (settled : Settled) (old new : FeederCount) : Type 0 where
  pub limits : Limits
  pub became : settled ≡ settled_by limits now outcome
  pub counts : Counts settled old new

-- A front takes a connection's outcome of a debt, at this moment: this becomes of the debt by the front's limits, and
-- a share counts it.
pub record FinishesAndCounts (connection now : ℕ) (outcome : Outcome) (settled : Settled) (old new : Front)
    (before after : FeederCount) : Type 0 where
  pub finishes : Finishes connection now outcome old new
  pub settles : settled ≡ settled_by (limits_of old) now outcome
  pub counted : IsCounted outcome now settled before after

-- A front sheds these debts, and a share counts them.
pub record ShedsAndCounts (shed : Shed) (old new : Front) (before after : ℕ) : Type 0 where
  pub sheds : Sheds old new shed
  pub counted : after ≡ before + length shed.keys.items
