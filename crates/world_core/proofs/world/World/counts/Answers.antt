-- Each peer's counts follow its name.
use Rattle.std.proofs.Common.{◌≡◌, List, length, map, sym, ap, ◌∙◌, arith}
use Rattle.world_core.specs.Stands.{counts_in}
use Rattle.world_core.specs.Turn.{names_at}
use Rattle.world_core.specs.declared.report.PeerTotals.{PeerTotals}
use Rattle.world_core.proofs.PeerCounts.{counted, counts_are, written_back}
use Rattle.world_core.proofs.NamesOverRuns.{names_stage}
use Rattle.world_core.proofs.world.World.counts.Goals as goal

pub returns-in-Running : goal.returns-in-Running
returns-in-Running c = λ life stands names.
    let items = c.args.totals.items in
    let old = c.deref_mut.ensures.value in
    let long : length c.count_each.new.totals ≡ length items = c.count_each.auto.totals ∙ ap length old in
    let whole : c.args.totals.len ≡ length items = omega arith in
    let same = ap (map (λ (peer : PeerTotals). peer.name)) old ∙ names
    ∙ sym (sym (ap names_at c.in-Running.is) ∙ names_stage c.args.self.now life stands)
    ∙ ap (map (λ peer. peer.conf.name)) (sym c.deref.ensures.value) in
    counts_are c.args.self.now life c.in-Running.stations c.in-Running.field-1 _ stands c.in-Running.is
    (ap (λ (l : List PeerTotals). counts_in l) (written_back c.args.totals.len c.count_each.new.totals items long whole)
    ∙ c.count_each.ensures same ∙ ap (map counted) c.deref.ensures.value)
