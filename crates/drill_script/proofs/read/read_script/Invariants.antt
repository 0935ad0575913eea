use Rattle.std.proofs.Common.{◌+◌, ◌≤◌, length}
use Rattle.drill_script.specs.Draft.{HasRead}
use Rattle.drill_script.proofs.read.read_script.Given as goal

abbrev pub invariant-loop-line : goal.invariant-loop-line
invariant-loop-line l = record {
  read : HasRead l.text l.rest l.line_number l.draft;
  room : l.line_number + length l.rest ≤ length l.text + 1;
}

abbrev pub decreases-loop-line : goal.decreases-loop-line
decreases-loop-line l = length l.rest
