use Rattle.std.proofs.Common.{true≢false, sym, ◌∙◌}
use Rattle.flusher.proofs.Unchanged.{same_desk}
use Rattle.flusher.proofs.front_desk.FrontDesk.learn.Goals as goal

pub returns-then-not-settled-clause-unchanged : goal.returns-then-not-settled-clause-unchanged
returns-then-not-settled-clause-unchanged g c none =
    same_desk c.args.self.now c.settled.new.self _ _ _ _
    (c.settled.ensures.unchanged (λ yes. true≢false (sym yes ∙ c.if-not-settled.true)))
