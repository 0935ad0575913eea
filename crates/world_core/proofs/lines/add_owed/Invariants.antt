use Rattle.std.proofs.Common.{◌≡◌, ◌++◌, flat_map, map, take}
use Rattle.world_core.specs.Lines.{owed_text}
use Rattle.world_core.specs.declared.output.OwedAt.{OwedAt}
use Rattle.world_core.proofs.lines.add_owed.Given as goal

-- the peers so far were added
abbrev pub invariant-loop-at : goal.invariant-loop-at
invariant-loop-at l = l.out.items ≡ l.initial.out.items
    ++ flat_map owed_text (map (λ (at : OwedAt). (at.name, at.owed)) (take l.at-index l.peers))
