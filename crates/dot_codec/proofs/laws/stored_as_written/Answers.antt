use Rattle.dot_codec.proofs.Parts.{stored_as_written, stored_end}
use Rattle.dot_codec.proofs.laws.stored_as_written.Goals as goal

pub returns-clause-lines : goal.returns-clause-lines
returns-clause-lines c = stored_as_written

pub returns-clause-end : goal.returns-clause-end
returns-clause-end c = stored_end
