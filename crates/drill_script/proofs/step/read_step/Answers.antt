use Rattle.std.proofs.Common.{option_map}
use Rattle.drill_script.proofs.Saying.{said_whole}
use Rattle.drill_script.proofs.step.read_step.Goals as goal

pub returns : goal.returns
returns c =
    said_whole c.args.line.now c.split_word.result.0.now (option_map (λ t. t.now) c.split_word.result.1)
    c.step_of.result c.split_word.ensures.solid c.split_word.ensures.cut c.step_of.ensures
