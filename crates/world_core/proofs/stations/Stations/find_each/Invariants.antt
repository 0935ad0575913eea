use Rattle.std.proofs.Common.{vec_len}
use Rattle.world_core.specs.Past.{Past}
use Rattle.world_core.specs.Stands.{Stands}
use Rattle.world_core.specs.Stepped.{AreFound, AreWithin}
use Rattle.world_core.proofs.stations.Stations.find_each.Given as goal

-- the peers of the names so far are found
abbrev pub invariant-loop-name : goal.invariant-loop-name
invariant-loop-name g l = record {
  found : (past : Past) → Stands l.self past → AreFound past l.yielded l.found.entries;
  within : AreWithin (vec_len l.self.peers) l.found.entries;
}
