use Rattle.std.proofs.Common.{sym, ◌∙◌}
use Rattle.dot_codec.proofs.Parts.{at_end, so_far_more}
use Rattle.dot_codec.proofs.stored.stored_text.Goals as goal

pub returns-then-is_dot : goal.returns-then-is_dot
returns-then-is_dot c =
    let line = c.in-Some.line in
    c.text_at_end.ensures
    ∙ sym (at_end c.args.octets.now c.loop-line.rest.now line.octets.now line.rest.now c.loop-line.text.items
    c.loop-line.invariant c.in-Some.ensures.part (sym c.is_dot.ensures ∙ c.if-is_dot.true))

pub loop-line-preserved : goal.loop-line-preserved
loop-line-preserved c =
    let line = c.in-Some.line in
    so_far_more c.args.octets.now c.loop-line.rest.now line.octets.now line.rest.now c.loop-line.text.items
    c.loop-line.invariant c.in-Some.ensures.part (sym c.is_dot.ensures ∙ c.if-is_dot.false)
    c.put_unstuffed.new.text.items c.in_ok-put_unstuffed.ensures
