use Rattle.std.proofs.Common.{sym, ◌∙◌}
use Rattle.funnel.proofs.Cuts.{lines-once}
use Rattle.funnel.proofs.cutter.splits_once.Goals as goal

pub returns : goal.returns
returns c = λ fed a b r s p q. lines-once a b r s p.each q.each p.last q.last (sym p.whole ∙ q.whole)
