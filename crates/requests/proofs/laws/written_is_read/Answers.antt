use Rattle.requests.proofs.Written.{written_is_read}
use Rattle.requests.proofs.laws.written_is_read.Goals as goal

pub returns : goal.returns
returns c = written_is_read
