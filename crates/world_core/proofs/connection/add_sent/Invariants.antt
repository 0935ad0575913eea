use Rattle.std.proofs.Common.{◌≡◌, ◌++◌, length, map}
use Rattle.world_core.specs.Output.{SentLine, lines_in, view_of}
use Rattle.world_core.proofs.connection.add_sent.Given as goal

-- what was reported, and the lines that are left, are together the whole report
abbrev pub invariant-loop-line : goal.invariant-loop-line
invariant-loop-line l = map view_of l.outputs.items ++ map (SentLine l.connection) (lines_in l.rest)
    ≡ map view_of l.initial.outputs.items ++ map (SentLine l.connection) (lines_in l.initial.rest)

abbrev pub decreases-loop-line : goal.decreases-loop-line
decreases-loop-line l = length l.rest
