-- The text is cut at its first LF.
use Rattle.std.proofs.Common.{sym, ◌∙◌}
use Rattle.feed_conf.proofs.Lines.{last-line, next-line}
use Rattle.feed_conf.proofs.read.first_line.Goals as goal

pub returns-in-None-clause-lines : goal.returns-in-None-clause-lines
returns-in-None-clause-lines c = last-line c.args.text.now (sym c.line_end.ensures ∙ c.in-None.is)

pub returns-in-Some-clause-lines : goal.returns-in-Some-clause-lines
returns-in-Some-clause-lines c =
    rw (c.split_at.ensures.front, c.split_at-in-Some.ensures.back) (next-line c.args.text.now c.in-Some.end (sym c.line_end.ensures ∙ c.in-Some.is))
