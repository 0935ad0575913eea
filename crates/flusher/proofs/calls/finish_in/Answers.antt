use Rattle.std.proofs.Common.{inr, rules}
use Rattle.flusher.proofs.calls.finish_in.Goals as goal

pub returns-in-Err-clause-refuses : goal.returns-in-Err-clause-refuses
returns-in-Err-clause-refuses g c = inr (search rules)
