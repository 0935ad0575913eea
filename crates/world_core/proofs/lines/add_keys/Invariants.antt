use Rattle.std.proofs.Common.{◌≡◌, ℕ, ◌∷◌, ◌++◌, flat_map, take}
use Rattle.ledger_core.specs.Keys.{key_text}
use Rattle.world_core.proofs.lines.add_keys.Given as goal

-- the keys so far were added
abbrev pub invariant-loop-key : goal.invariant-loop-key
invariant-loop-key l =
    l.out.items ≡ l.initial.out.items ++ flat_map (λ (k : ℕ). 32 ∷ key_text k) (take l.key-index l.keys)
