use Rattle.std.specs.Prelude.{◌≡◌, take, drop}
use Rattle.kept_lines.specs.Keeps.{KeepsEach}
use Rattle.kept_lines.proofs.keeper.keep_each.Given as goal

-- the peers so far have kept the lines, and the others are as they were
abbrev pub invariant-loop-peer : goal.invariant-loop-peer
invariant-loop-peer g l =
    KeepsEach l.lines (take l.peer-index l.initial.peer-items) (take l.peer-index l.peer-items)
    × (drop l.peer-index l.peer-items ≡ drop l.peer-index l.initial.peer-items)
