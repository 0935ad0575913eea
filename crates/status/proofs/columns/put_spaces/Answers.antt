use Rattle.std.proofs.Common.{ℕ}
use Rattle.std.proofs.lemmas.List.{take-replicate}
use Rattle.status.proofs.columns.put_spaces.Goals as goal

pub returns-clause-whole : goal.returns-clause-whole
returns-clause-whole g c = rw (take-replicate {X = ℕ} c.args.count 20 32 c.requires) at c.put.ensures.whole

pub returns-clause-prefix : goal.returns-clause-prefix
returns-clause-prefix g c = rw (take-replicate {X = ℕ} c.args.count 20 32 c.requires) at c.put.ensures.prefix
