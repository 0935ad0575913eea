use Rattle.std.proofs.Common.{◌≡◌, ℕ, ◌≤◌, drop, map, vec_len}
use Rattle.world_core.specs.Importing.{HasImported, IsAt, good_of}
use Rattle.world_core.specs.Past.{Past}
use Rattle.world_core.specs.Stands.{Stands}
use Rattle.world_core.proofs.stations.Stations.import_each.Given as goal

-- the lines so far were owed, and no more of them are new than there are
abbrev pub invariant-loop-line : goal.invariant-loop-line
invariant-loop-line g l = record {
  did : (past : Past) (source pending mark : ℕ) → Stands l.initial.self past → IsAt past l.rank source pending mark
      → HasImported past l.rank source pending mark (map good_of l.lines) (map good_of (drop l.line-index l.lines))
      l.new
      l.self;
  few : l.new ≤ l.line-index;
  count : vec_len l.self.peers ≡ vec_len l.initial.self.peers;
}
