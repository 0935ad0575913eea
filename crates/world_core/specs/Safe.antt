-- What holds of all tapes at each moment, also within calls: what any stop leaves then.
use Rattle.std.specs.Prelude.{ℕ, List}
use Rattle.std.specs.List.{AllByRecursion}
use Rattle.ledger_core.specs.State.{State}
use Rattle.recovery.specs.Leaving.{EachLedger, IsPrefix}
use Rattle.recovery.specs.Notes.{History}
use Rattle.sections.specs.Tapes.{KeepsLinesOf, PendsAbove}
use Rattle.world_core.specs.Past.{Past, PeerPast}

-- each note that a line up to this number made is acknowledged: no such note pends
abbrev pub HasAcknowledged : ℕ → PeerPast → Type 0
HasAcknowledged mark peer = PendsAbove mark peer.tape.history

-- a peer's tape is that of a prefix of its notes, with every acknowledged one in it
abbrev pub KeepsNotes : PeerPast → State → Type 0
KeepsNotes peer state = IsPrefix peer.tape.history state

-- The intake's tape is that of a prefix of its notes, with every acknowledged one in it; and each note that a line up
-- to its mark made is acknowledged at its peer.
abbrev pub KeepsLines : History → List PeerPast → State → Type 0
KeepsLines intake peers state = KeepsLinesOf (λ (peer : PeerPast). peer.tape.history) intake peers state

-- the same of whatever a stop leaves now of each tape
pub record IsSafe (past : Past) : Type 0 where
  pub peers : AllByRecursion (λ (peer : PeerPast). EachLedger (KeepsNotes peer) peer.tape.log) past.peers
  pub intake : EachLedger (KeepsLines past.intake.history past.peers) past.intake.log
