use Rattle.std.proofs.Common.{◌≡◌, ℕ, ◌+◌, ◌≤◌, ◌++◌, List, length, vec_capacity, vec_len}
use Rattle.world_core.specs.Past.{Past}
use Rattle.world_core.specs.Stands.{Stands}
use Rattle.world_core.specs.Stepped.{AreFound, AreWithin}
use Rattle.world_core.proofs.LineAtNamedPeers.{OwedSome}
use Rattle.world_core.proofs.stations.Stations.owe_each.Given as goal

-- the line was owed at the ranks so far, and there is room for what is reported of the others
abbrev pub invariant-loop-rank : goal.invariant-loop-rank
invariant-loop-rank g l = record {
  can : (goal.iterator-loop-rank g).can_next l.rank-iterator;
  finite : (goal.iterator-loop-rank g).is_finite l.rank-iterator;
  split : l.fn.found.entries ≡ l.yielded ++ l.rank-iterator;
  owed : (past : Past) (named : List (List ℕ)) → Stands l.initial.self past → AreFound past named l.fn.found.entries
      → OwedSome past l.token l.id named (length l.yielded) l.outputs.items l.self;
  within : AreWithin (vec_len l.self.peers) l.rank-iterator;
  room : vec_len l.outputs + length l.rank-iterator ≤ vec_capacity l.outputs;
  last : l.self.last ≡ l.initial.self.last;
  count : vec_len l.self.peers ≡ vec_len l.initial.self.peers;
}
