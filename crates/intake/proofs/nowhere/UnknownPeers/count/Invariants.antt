use Rattle.std.specs.Prelude.{◌≡◌, ◌++◌, take, drop, map}
use Rattle.intake.specs.Nowhere.{counted}
use Rattle.intake.proofs.nowhere.UnknownPeers.count.Given as goal

-- the peers so far are counted
abbrev pub invariant-loop-peer : goal.invariant-loop-peer
invariant-loop-peer l =
    l.peer-items ≡ map (counted l.names)
    (take l.peer-index l.initial.peer-items) ++ drop l.peer-index l.initial.peer-items
