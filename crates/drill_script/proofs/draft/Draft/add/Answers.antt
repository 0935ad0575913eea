use Rattle.drill_script.specs.Line.{Blank, Takes}
use Rattle.drill_script.specs.Step.{step_view}
use Rattle.drill_script.specs.declared.sentence.Sentence.TheVariants.{Nothing, Step, Tape}
use Rattle.drill_script.proofs.Growing.{gains_blank, said_of, tape_reported}
use Rattle.drill_script.proofs.draft.Draft.add.Goals as goal

pub returns-in-Some-Nothing-clause-ok : goal.returns-in-Some-Nothing-clause-ok
returns-in-Some-Nothing-clause-ok c = λ before drafts at.
    let says =
    said_of c.args.line.now c.in_ok-read_sentence.field-0 c.in-Some-Nothing.field-0 Nothing
    c.in-Some-Nothing.is c.in-Some-Nothing.field-0-is
    (c.in_ok-read_sentence.ensures {u = tt}) in
    (Blank, says, gains_blank c.args.self.now before drafts)

pub returns-in_ok-take-in-Some-Step-clause-ok : goal.returns-in_ok-take-in-Some-Step-clause-ok
returns-in_ok-take-in-Some-Step-clause-ok c = λ before drafts at.
    let step = c.in-Some-Step.step in
    let says =
    said_of c.args.line.now c.in_ok-read_sentence.field-0 c.in-Some-Step.field-0
    (Step step) c.in-Some-Step.is c.in-Some-Step.field-0-is
    (c.in_ok-read_sentence.ensures {u = tt}) in
    (Takes (step_view step), says, c.in_ok-take-in-Some-Step.ensures before drafts at)

pub returns-in-Some-Tape-clause-broken : goal.returns-in-Some-Tape-clause-broken
returns-in-Some-Tape-clause-broken c =
    let name = c.in-Some-Tape.name in
    let octets = c.in-Some-Tape.octets in
    let says =
    said_of c.args.line.now c.in_ok-read_sentence.field-0 c.in-Some-Tape.field-0 (Tape name octets)
    c.in-Some-Tape.is c.in-Some-Tape.field-0-is (c.in_ok-read_sentence.ensures {u = tt}) in
    tape_reported c.args.self.now c.args.line_number c.args.line.now name octets.items c.give.result says c.give.ensures.broken
