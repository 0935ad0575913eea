use Rattle.world_core.proofs.FinalAnswers.{finals_right}
use Rattle.world_core.proofs.laws.all_finals_are_right.Goals as goal

pub returns : goal.returns
returns c = finals_right c.verdicts_are_right.ensures.arises c.each_debt_comes_out_once.ensures.own
