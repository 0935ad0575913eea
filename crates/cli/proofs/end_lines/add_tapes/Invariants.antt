use Rattle.std.proofs.Common.{◌≡◌, ◌++◌, flat_map, take}
use Rattle.cli.specs.FeedLines.{tape_text}
use Rattle.cli.proofs.end_lines.add_tapes.Given as goal

-- the lines so far were added
abbrev pub invariant-loop-error : goal.invariant-loop-error
invariant-loop-error l = l.lines.items ≡ l.initial.lines.items ++ flat_map tape_text (take l.error-index l.tapes)
