use Rattle.std.proofs.Common.{◌≡◌, map, take}
use Rattle.world_core.specs.Stands.{counts_in}
use Rattle.world_core.specs.declared.report.PeerTotals.{PeerTotals}
use Rattle.world_core.proofs.PeerCounts.{counted}
use Rattle.world_core.proofs.run.count_each.Given as goal

-- those so far are counted, and the names are as they were
abbrev pub invariant-loop-rank : goal.invariant-loop-rank
invariant-loop-rank l = record {
  names : map (λ (peer : PeerTotals). peer.name) l.totals ≡ map (λ (peer : PeerTotals). peer.name) l.initial.totals;
  counts : map (λ (peer : PeerTotals). peer.name) l.initial.totals ≡ map (λ peer. peer.conf.name) l.peers
      → take l.rank (counts_in l.totals) ≡ take l.rank (map counted l.peers);
}
