use Rattle.std.proofs.Common.{option_map, sym, ◌∙◌}
use Rattle.drill_script.proofs.Saying.{unread, unsaid, unsaid_none}
use Rattle.drill_script.proofs.step.step_on.Goals as goal

pub returns-in_default : goal.returns-in_default
returns-in_default c =
    unread c.args.word.now c.args.rest.now c.split_word.result.0.now
    (option_map (λ t. t.now) c.split_word.result.1) c.split_word.ensures.solid c.split_word.ensures.cut
    (sym c.read_number.ensures ∙ c.in_default.is)

pub returns-in-None : goal.returns-in-None
returns-in-None c =
    unsaid c.args.word.now c.args.rest.now c.split_word.result.0.now
    (option_map (λ t. t.now) c.split_word.result.1) c.split_word.ensures.solid c.split_word.ensures.cut
    (unsaid_none c.args.word.now (option_map (λ t. t.now) c.split_word.result.1) c.in_ok-action.field-0
    c.in-None.is (c.in_ok-action.ensures {u = tt}))
