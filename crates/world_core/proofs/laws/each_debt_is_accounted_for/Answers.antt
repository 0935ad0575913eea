use Rattle.world_core.proofs.FinalAnswers.{all_accounted_for}
use Rattle.world_core.proofs.laws.each_debt_is_accounted_for.Goals as goal

pub returns : goal.returns
returns c = all_accounted_for c.verdicts_are_right.ensures.arises c.each_debt_comes_out_once.ensures.own
