use Rattle.dot_codec.proofs.Forms.{text_is_read, written_is_read}
use Rattle.dot_codec.proofs.laws.written_is_read.Goals as goal

pub returns-clause-lines : goal.returns-clause-lines
returns-clause-lines c = written_is_read

pub returns-clause-text : goal.returns-clause-text
returns-clause-text c = text_is_read
