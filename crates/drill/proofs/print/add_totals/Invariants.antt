use Rattle.std.proofs.Common.{◌≡◌, ◌++◌, flat_map, map, take}
use Rattle.drill.specs.Printed.{totals_text}
use Rattle.world_core.specs.declared.report.PeerTotals.{PeerTotals}
use Rattle.drill.proofs.print.add_totals.Given as goal

-- the peers so far were added
abbrev pub invariant-loop-peer : goal.invariant-loop-peer
invariant-loop-peer l =
    l.out.items ≡ l.initial.out.items
    ++ flat_map totals_text (map (λ (peer : PeerTotals). (peer.name, peer.totals)) (take l.peer-index l.totals))
