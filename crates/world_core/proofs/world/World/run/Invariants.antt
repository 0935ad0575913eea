use Rattle.std.proofs.Common.{◌≡◌, ◌≤◌, length, take, vec_capacity, vec_len}
use Rattle.world_core.specs.Past.{Life}
use Rattle.world_core.specs.Stands.{Ran, WorldStands}
use Rattle.world_core.specs.Output.{views_by}
use Rattle.world_core.proofs.world.World.run.Given as goal

-- the steps so far were taken, and there is room for the lines of the others
abbrev pub invariant-loop-index : goal.invariant-loop-index
invariant-loop-index l = record {
  ran : (life : Life) → WorldStands l.initial.self life
      → Ran (take l.index l.steps) life (views_by l.lines.items) l.self;
  count : vec_len l.lines ≡ l.index;
  room : length l.steps ≤ vec_capacity l.lines;
}
