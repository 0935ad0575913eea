use Rattle.std.proofs.Common.{◌+◌, ◌≤◌, length, map}
use Rattle.world_core.specs.Importing.{good_of}
use Rattle.world_core.proofs.BacklogLines.{HasListed}
use Rattle.world_core.proofs.imports.read_lines.Given as goal

-- the lines so far, and what is left of the text
abbrev pub invariant-loop-line : goal.invariant-loop-line
invariant-loop-line l = record {
  listed : HasListed l.text l.rest l.number (map good_of l.lines.items);
  room : l.number + length l.rest ≤ length l.text;
}

abbrev pub decreases-loop-line : goal.decreases-loop-line
decreases-loop-line l = length l.rest
