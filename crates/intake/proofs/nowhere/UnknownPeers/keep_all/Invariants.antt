use Rattle.std.specs.Prelude.{◌≤◌, take, length}
use Rattle.intake.specs.Nowhere.{KeepsAll}
use Rattle.intake.proofs.nowhere.UnknownPeers.keep_all.Given as goal

-- the names so far are kept
abbrev pub invariant-loop-name : goal.invariant-loop-name
invariant-loop-name l = KeepsAll (take l.name-index l.names) l.initial.self l.self × (length l.self.named.items ≤ 16)
