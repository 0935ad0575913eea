use Rattle.std.specs.Prelude.{◌≡◌, ◌≤◌, length, take}
use Rattle.kept_lines.specs.Texts.{unknown_text}
use Rattle.kept_lines.proofs.keeper.first_that_fit.Given as goal

-- the lines so far, which fit
abbrev pub invariant-loop-line : goal.invariant-loop-line
invariant-loop-line l =
    (l.text.items ≡ unknown_text l.left_out (take l.line-index l.lines)) × (length l.text.items ≤ l.room)
