use Rattle.std.proofs.Common.{ap, ◌∙◌}
use Rattle.std.proofs.lemmas.Result.{on_ok_weaker}
use Rattle.funnel.specs.Stream.{Held}
use Rattle.funnel.proofs.Cuts.{stands-more}
use Rattle.funnel.proofs.cutter.LineCutter.feed.Goals as goal

pub returns-in-None-clause-fed : goal.returns-in-None-clause-fed
returns-in-None-clause-fed c =
    on_ok_weaker c.extend_clipped.result
    (λ longer fed given s.
    stands-more c.args.self.now _ fed c.args.piece.now given s c.in-None.ensures.line (ap (λ (held : Held). held.lines) c.self.view_is)
    (λ line is. longer line (ap (λ (held : Held). held.rest) c.self.view_is ∙ is)))
    c.extend_clipped.ensures.fed
