use Rattle.std.proofs.Common.{ℕ, List, map, take}
use Rattle.std.specs.Prelude.{◌↔◌, Contains}
use Rattle.owed_list.specs.Names.{names_in}
use Rattle.owed_list.proofs.strangers.names_of.Given as goal

-- the names so far are in the set
abbrev pub invariant-loop-peer : goal.invariant-loop-peer
invariant-loop-peer l = (name : List ℕ) → Contains (names_in l.names) name
    ↔ Contains (map (λ peer. peer.name) (take l.peer-index l.peers)) name
