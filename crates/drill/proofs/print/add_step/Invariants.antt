use Rattle.std.proofs.Common.{◌≡◌, ◌++◌, flat_map, map, take}
use Rattle.world_core.specs.Lines.{line_text}
use Rattle.world_core.specs.Output.{view_of}
use Rattle.drill.proofs.print.add_step.Given as goal

-- the lines so far were added
abbrev pub invariant-loop-outputs : goal.invariant-loop-outputs
invariant-loop-outputs l = l.out.items ≡ l.initial.out.items ++ flat_map line_text (map view_of (take l.outputs-index
    l.step))
