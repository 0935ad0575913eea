use Rattle.std.proofs.Common.{◌≡◌, vec_len}
use Rattle.world_core.specs.Past.{Past}
use Rattle.world_core.specs.Stands.{Stands}
use Rattle.world_core.specs.Stepped.{PartedEach}
use Rattle.world_core.proofs.stations.Stations.part_each.Given as goal

-- the peers at the ranks so far were flushed
abbrev pub invariant-loop-rank : goal.invariant-loop-rank
invariant-loop-rank g l = record {
  did : (past : Past) → Stands l.initial.self past → PartedEach past l.rank l.self;
  last : l.self.last ≡ l.initial.self.last;
  count : vec_len l.self.peers ≡ vec_len l.initial.self.peers;
}
