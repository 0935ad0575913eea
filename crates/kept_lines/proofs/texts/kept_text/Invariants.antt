use Rattle.std.specs.Prelude.{◌≡◌, take}
use Rattle.kept_lines.specs.Texts.{kept_text}
use Rattle.kept_lines.proofs.texts.kept_text.Given as goal

-- the lines so far
abbrev pub invariant-loop-line : goal.invariant-loop-line
invariant-loop-line l = l.text.items ≡ kept_text l.name (take l.line-index l.lines)
