use Rattle.std.proofs.Common.{◌≡◌, ◌++◌, flat_map, map, take}
use Rattle.std.specs.Global.{Vec}
use Rattle.drill.specs.Printed.{step_text}
use Rattle.world_core.specs.Output.{view_of}
use Rattle.world_core.specs.declared.output.Output.{Output}
use Rattle.drill.proofs.print.add_steps.Given as goal

-- the steps so far were added
abbrev pub invariant-loop-step : goal.invariant-loop-step
invariant-loop-step l =
    l.out.items ≡ l.initial.out.items
    ++ flat_map step_text (map (λ (step : Vec Output). map view_of step.items) (take l.step-index l.lines))
