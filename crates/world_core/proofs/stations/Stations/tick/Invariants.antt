use Rattle.std.proofs.Common.{◌≡◌, vec_len}
use Rattle.world_core.specs.Past.{Life}
use Rattle.world_core.specs.Exchange.{TicksSome}
use Rattle.world_core.specs.Joined.{AreRunning, MadeOn}
use Rattle.world_core.proofs.stations.Stations.tick.Given as goal

-- the moment of the connections so far was set
abbrev pub invariant-loop-index : goal.invariant-loop-index
invariant-loop-index g l = record {
  ticks : (life : Life) → AreRunning life l.initial.self l.initial.connections.items → life.now ≡ l.now
      → MadeOn (TicksSome l.index) life.connected life l.initial.outputs.items l.outputs.items l.self
      l.connections.items;
  count : vec_len l.connections ≡ vec_len l.initial.connections;
}
