use Rattle.std.proofs.Common.{◌∙◌}
use Rattle.std.proofs.lemmas.Result.{on_ok_weaker}
use Rattle.funnel.proofs.Cuts.{kept-more, on-ok-items}
use Rattle.funnel.proofs.cutter.extend_clipped.Goals as goal

pub returns-clause-fed : goal.returns-clause-fed
returns-clause-fed c =
    on_ok_weaker c.extend_from_slice.result
    (λ longer line is. kept-more 8193 c.len.result c.saturating_sub-room.result c.min.result line c.args.octets.now c.args.kept.now.items c.extend_from_slice.new.self.items is
    (c.len.ensures ∙ c.args.kept.now.ok.0) c.saturating_sub-room.ensures c.min.ensures longer)
    (on-ok-items c.extend_from_slice.result _ _ _ c.extend_from_slice.ensures.items)
