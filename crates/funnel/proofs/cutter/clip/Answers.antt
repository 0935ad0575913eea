use Rattle.std.proofs.Common.{take, ap, ◌∙◌}
use Rattle.std.proofs.lemmas.List.{take_min}
use Rattle.std.proofs.lemmas.Result.{IfOk-weaker}
use Rattle.funnel.proofs.cutter.clip.Goals as goal

pub returns : goal.returns
returns c =
    IfOk-weaker c.from_slice.result _ _ (λ kept is. is ∙ ap (λ m. take m c.args.line.now) c.min.ensures ∙ take_min 8193 c.args.line.now) c.from_slice.ensures.items
