-- The search gives the first index.
use Rattle.feed_conf.proofs.Firsts.{first-index}
use Rattle.feed_conf.proofs.read.line_end.Goals as goal

pub returns : goal.returns
returns c = first-index 10 c.args.text.now c.memchr.result c.memchr.ensures
