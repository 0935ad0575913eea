use Rattle.std.specs.Prelude.{◌≡◌, ◌++◌, take}
use Rattle.kept_lines.specs.Texts.{unknown_lines}
use Rattle.kept_lines.proofs.texts.add_names.Given as goal

-- the names so far
abbrev pub invariant-loop-name : goal.invariant-loop-name
invariant-loop-name l =
    l.text.items ≡ l.initial.text.items ++ unknown_lines l.left_out l.token l.id (take l.name-index l.names)
