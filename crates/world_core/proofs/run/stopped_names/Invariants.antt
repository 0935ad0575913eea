use Rattle.std.proofs.Common.{◌≡◌, map, take}
use Rattle.world_core.specs.declared.report.PeerTotals.{PeerTotals}
use Rattle.world_core.proofs.run.stopped_names.Given as goal

-- the names so far
abbrev pub invariant-loop-peer : goal.invariant-loop-peer
invariant-loop-peer l =
    map (λ (peer : PeerTotals). peer.name) l.totals.items ≡ map (λ peer. peer.conf.name) (take l.peer-index l.peers)
