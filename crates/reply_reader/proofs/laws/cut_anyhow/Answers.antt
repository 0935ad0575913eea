-- Two readings of the same octets agree, line by line.
use Rattle.std.proofs.Common.{sym, ◌∙◌}
use Rattle.reply_reader.proofs.Readings.{both-same, one-begins}
use Rattle.reply_reader.proofs.laws.cut_anyhow.Goals as goal

pub returns-clause-begins : goal.returns-clause-begins
returns-clause-begins c = λ fed a b u v p q. one-begins p.lines q.lines a b u v p.answers q.answers (sym p.whole ∙ q.whole)

pub returns-clause-same : goal.returns-clause-same
returns-clause-same c = λ fed a b u v p q s t. both-same p.lines q.lines a b u v p.answers q.answers s.line t.line (sym p.whole ∙ q.whole)
