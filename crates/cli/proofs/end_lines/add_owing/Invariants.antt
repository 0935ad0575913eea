use Rattle.std.proofs.Common.{◌≡◌, ◌++◌, flat_map, take}
use Rattle.cli.specs.FeedLines.{owing_text}
use Rattle.cli.proofs.end_lines.add_owing.Given as goal

-- the lines so far were added
abbrev pub invariant-loop-peer : goal.invariant-loop-peer
invariant-loop-peer l = l.lines.items ≡ l.initial.lines.items ++ flat_map owing_text (take l.peer-index l.owing)
