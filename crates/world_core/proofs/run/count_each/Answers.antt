-- One more is counted at each turn.
use Rattle.ledger_core.specs.declared.ledger.Totals.{Totals}
use Rattle.std.proofs.Common.{◌≡◌, ◌<◌, ◌+◌, ℕ, List, length, get_or, take, map, refl, sym, ap, ◌∙◌, arith}
use Rattle.std.proofs.lemmas.List.{length-map, take_all}
use Rattle.world_core.specs.Stands.{counts_in}
use Rattle.world_core.specs.declared.report.PeerTotals.{PeerTotals}
use Rattle.ledger_core.specs.Ledger.{totals_of}
use Rattle.peer_queue.specs.Words.{ledger_of}
use Rattle.world_core.proofs.PeerCounts.{below, counted, counted_more, names_more, not_below}
use Rattle.world_core.proofs.run.count_each.Goals as goal
use Rattle.world_core.proofs.run.count_each.Goals.{in-Some, in_default}

pub loop-rank-init : goal.loop-rank-init
loop-rank-init c = record { names = refl; counts = λ same. refl }

pub loop-rank-preserved : goal.loop-rank-preserved
loop-rank-preserved c =
    let l = c.loop-rank in
    let within : l.rank < length l.totals = omega (arith, c.loop-rank-test.true, l.auto.totals) in
    elim c.match-get.branch [
      | in-Some w ↦ (
          let was = w.index-totals-rank.result in
          let name : (get_or l.totals l.rank was).name ≡ was.name =
          sym (ap (λ (p : PeerTotals). p.name) w.index-totals-rank.is) in
          let is : record { name = (get_or l.totals l.rank was).name; totals = w.totals.result }
          ≡ record { name = was.name; totals = totals_of (ledger_of w.in-Some.peer.now.station) } =
          ap (λ n. record { name = n; totals = w.totals.result }) name
          ∙ ap (λ t. record { name = was.name; totals = t }) w.totals.ensures.counts in
          record {
            names = ap (map (λ (p : PeerTotals). p.name)) w.totals-is
                ∙ names_more c.args.totals.now l.totals l.rank was _ l.invariant.names w.index-totals-rank.is name
                within;
            counts = λ same.
                ap (λ t. take (l.rank + 1) (counts_in t)) w.totals-is
                ∙ counted_more c.args.totals.now l.totals c.args.peers.now l.rank was _ w.in-Some.peer.now
                l.invariant.names l.invariant.counts within
                (below l.rank (length c.args.peers.now) w.in-Some.ensures.lookup.0) w.index-totals-rank.is
                w.in-Some.ensures.lookup.1 is same;
          }
          )
      | in_default w ↦ record {
        names = ap (map (λ (p : PeerTotals). p.name)) w.totals-is ∙ l.invariant.names;
        counts = λ same.
            let names = ap length (l.invariant.names ∙ same) in
            let long : length l.totals ≡ length c.args.peers.now =
            omega (
              arith,
              names,
              length-map l.totals (λ (peer : PeerTotals). peer.name),
              length-map c.args.peers.now (λ peer. peer.conf.name),
            ) in
            absurd (not_below l.rank (length c.args.peers.now) w.in_default.ensures.lookup.0
            (omega (arith, long, within)));
      }
    ]

pub returns : goal.returns
returns c = λ same.
    let l = c.loop-rank in
    let names = ap length (l.invariant.names ∙ same) in
    let long : length l.totals ≡ length c.args.peers.now =
    omega (
      arith,
      names,
      length-map l.totals (λ (peer : PeerTotals). peer.name),
      length-map c.args.peers.now (λ peer. peer.conf.name),
    ) in
    sym (take_all l.rank (counts_in l.totals)
    (omega (
      arith,
      c.loop-rank-test.false,
      length-map {B = List ℕ × Totals} l.totals (λ (peer : PeerTotals). (peer.name, peer.totals)),
    )))
    ∙ l.invariant.counts same
    ∙ take_all l.rank (map counted c.args.peers.now)
    (omega (arith, long, c.loop-rank-test.false, length-map c.args.peers.now counted))
