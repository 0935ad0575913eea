use Rattle.dot_codec.proofs.Puts.{so_far_more}
use Rattle.dot_codec.proofs.write.put_lines.Goals as goal

pub loop-rest-preserved : goal.loop-rest-preserved
loop-rest-preserved c =
    so_far_more c.args.text.now c.loop-rest.rest.now c.in-Some.next.now c.args.output.now c.loop-rest.output c.put_next.new.output c.loop-rest.invariant
    (rw c.in-Some.is at c.in_ok-next.ensures.lines)
    c.put_next.ensures.extends
