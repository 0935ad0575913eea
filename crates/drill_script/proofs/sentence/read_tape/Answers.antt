-- A text that is split at its first space has no other name of a disk before it.
use Rattle.std.proofs.Common.{option_map, ap}
use Rattle.std.proofs.lemmas.Option.{MatchOption-at_none}
use Rattle.drill_script.proofs.Tapes.{no_disk, no_octets, none_given}
use Rattle.drill_script.proofs.sentence.read_tape.Goals as goal

pub returns-in_default : goal.returns-in_default
returns-in_default c =
    none_given c.args.text.now c.split_word.result.0.now (option_map (λ t. t.now) c.split_word.result.1)
    c.split_word.ensures.solid c.split_word.ensures.cut (ap (option_map (λ t. t.now)) c.in_default.is)

pub returns-in_default-2 : goal.returns-in_default-2
returns-in_default-2 c =
    no_disk c.args.text.now c.split_word.result.0.now (option_map (λ t. t.now) c.split_word.result.1)
    c.split_word.ensures.solid c.split_word.ensures.cut
    (MatchOption-at_none _ _ c.in_default-2.is (c.in_ok-name.ensures {u = tt}))

pub returns-in-None : goal.returns-in-None
returns-in-None c =
    no_octets c.args.text.now c.split_word.result.0.now (option_map (λ t. t.now) c.split_word.result.1)
    c.split_word.ensures.solid c.split_word.ensures.cut c.in-Some.digits.now
    (ap (option_map (λ t. t.now)) c.in-Some.is)
    (MatchOption-at_none _ _ c.in-None.is (c.in_ok-octets.ensures {u = tt}))
