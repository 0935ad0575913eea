use Rattle.std.proofs.Common.{◌≡◌, get_or, length, []}
use Rattle.feed_conf.specs.Explanation.{line_at}
use Rattle.feed_conf.specs.Reading.{lines_of}
use Rattle.feed_conf.proofs.explanation.line_at.Given as goal

abbrev pub invariant-lines : goal.invariant-lines
invariant-lines l = get_or (lines_of l.rest) l.left [] ≡ line_at l.line l.text

abbrev pub decreases-lines : goal.decreases-lines
decreases-lines l = length l.rest
