use Rattle.std.proofs.Common.{ℕ, List, length}
use Rattle.conn_core.specs.declared.outcome.Outcome.{Outcome}
use Rattle.world_core.specs.Past.{ConnPast, PeerPast}
use Rattle.world_core.specs.Pairs.{PairStands, SettledSome, left_at}
use Rattle.world_core.proofs.connection.Connection.settle_all.Given as goal

-- this many outcomes, from the first on, went to the peer
abbrev pub invariant-loop : goal.invariant-loop
invariant-loop g l = (id : ℕ) (conn : ConnPast) (past : PeerPast)
    → PairStands id conn past l.initial.self l.initial.peer
    → (done : List Outcome) × (later : PeerPast)
    × SettledSome id l.now conn past l.initial.outputs.items done later l.self l.peer l.outputs.items

abbrev pub decreases-loop : goal.decreases-loop
decreases-loop g l = length (left_at l.self)
