use Rattle.dot_codec.proofs.Counts.{sized_all, sized_more}
use Rattle.dot_codec.proofs.read.block_size.Goals as goal

pub loop-line-preserved : goal.loop-line-preserved
loop-line-preserved c =
    let line = c.in-Some.line in
    sized_more c.args.octets.now c.loop-line.rest.now line.octets.now line.rest.now c.loop-line.text c.loop-line.invariant (rw c.in-Some.is at c.in_ok-line.ensures.line)

pub returns-clause-read : goal.returns-clause-read
returns-clause-read c =
    sized_all c.args.octets.now c.loop-line.rest.now c.loop-line.text c.loop-line.invariant (rw c.in_default.is at c.in_ok-line.ensures.end)
