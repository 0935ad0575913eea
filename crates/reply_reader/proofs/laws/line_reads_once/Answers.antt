-- The readings of one line.
use Rattle.reply_reader.specs.LineLaws.{line-apart, line-either, line-once}
use Rattle.reply_reader.proofs.laws.line_reads_once.Goals as goal

pub returns-clause-once : goal.returns-clause-once
returns-clause-once c = line-once

pub returns-clause-either : goal.returns-clause-either
returns-clause-either c = line-either

pub returns-clause-apart : goal.returns-clause-apart
returns-clause-apart c = line-apart
