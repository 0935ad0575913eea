use Rattle.std.proofs.Common.{option_map, ap}
use Rattle.drill_script.proofs.Tapes.{none_behind, none_named}
use Rattle.drill_script.proofs.words.split_name.Goals as goal

pub returns-in_default : goal.returns-in_default
returns-in_default c =
    none_behind c.args.text.now c.split_word.result.0.now (option_map (λ t. t.now) c.split_word.result.1)
    c.split_word.ensures.solid c.split_word.ensures.cut (ap (option_map (λ t. t.now)) c.in_default.is)

pub returns-in-None : goal.returns-in-None
returns-in-None c =
    none_named c.args.text.now c.split_word.result.0.now (option_map (λ t. t.now) c.split_word.result.1)
    c.split_word.ensures.solid c.split_word.ensures.cut c.in_ok-name.field-0 (c.in_ok-name.ensures {u = tt}).found
    c.in-None.is
