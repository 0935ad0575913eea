use Rattle.std.specs.Prelude.{take}
use Rattle.run_parts.specs.Targets.{AreTargetsFrom}
use Rattle.run_parts.proofs.targets.targets_of.Given as goal

-- the targets of the peers so far
abbrev pub invariant-loop-index : goal.invariant-loop-index
invariant-loop-index l = AreTargetsFrom l.fn.most l.fn.accounts 0 (take l.index l.peers) l.targets.items
