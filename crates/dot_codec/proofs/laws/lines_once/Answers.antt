use Rattle.dot_codec.specs.TextLaws.{lines_each, lines_of_text, lines_once}
use Rattle.dot_codec.proofs.laws.lines_once.Goals as goal

pub returns-clause-once : goal.returns-clause-once
returns-clause-once c = lines_once

pub returns-clause-each : goal.returns-clause-each
returns-clause-each c = lines_each

pub returns-clause-text : goal.returns-clause-text
returns-clause-text c = lines_of_text
