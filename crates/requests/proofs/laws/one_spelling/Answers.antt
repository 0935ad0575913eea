use Rattle.requests.proofs.Spelling.{one_spelling}
use Rattle.requests.proofs.laws.one_spelling.Goals as goal

pub returns : goal.returns
returns c = one_spelling
