use Rattle.std.proofs.Common.{sym, ◌∙◌}
use Rattle.dot_codec.proofs.Counts.{read_all, read_more}
use Rattle.dot_codec.proofs.Nexts.{end_told, line_told}
use Rattle.dot_codec.proofs.read.lines_of.Goals as goal

pub loop-line-preserved : goal.loop-line-preserved
loop-line-preserved c =
    let line = c.in-Some.line in
    let rest = c.loop-line.rest.now in
    let told = line_told rest c.next_line.result line c.next_line.ensures.line (sym c.unwrap_or.ensures ∙ c.in-Some.is) in
    read_more c.args.octets.now rest line.octets.now line.rest.now c.loop-line.text.items c.push.new.self.items c.loop-line.invariant told (cc (c.in_ok-push.ensures.items, c.in_ok-extend_from_slice.ensures.items))

pub returns : goal.returns
returns c =
    let rest = c.loop-line.rest.now in
    let final = end_told rest c.next_line.result c.next_line.ensures.end c.next_line.ensures.fault (sym c.unwrap_or.ensures ∙ c.in_default.is) in
    read_all c.args.octets.now rest c.loop-line.text.items c.loop-line.invariant final
