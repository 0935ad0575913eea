use Rattle.std.proofs.Common.{List, ℕ, length}
use Rattle.innd_spool.proofs.Maps.{HasRead}
use Rattle.innd_spool.proofs.groups.groups_in.Given as goal

abbrev pub invariant-loop-line : goal.invariant-loop-line
invariant-loop-line l = (lines : List (List ℕ)) × HasRead l.text l.left l.groups lines

abbrev pub decreases-loop-line : goal.decreases-loop-line
decreases-loop-line l = length l.left
