use Rattle.std.proofs.Common.{◌++◌, map, sym, ap, ◌∙◌, append-nil}
use Rattle.world_core.specs.Output.{SentLine, view_of}
use Rattle.world_core.proofs.OutputLines.{no_line, tells_line}
use Rattle.world_core.proofs.connection.add_sent.Goals as goal

pub loop-line-preserved : goal.loop-line-preserved
loop-line-preserved c =
    tells_line c.args.connection c.loop-line.outputs.items c.push.new.self.items _ c.loop-line.rest.now c.in-Some.line.now
    c.in-Some.behind.now c.in_ok-push.ensures.items
    (ap (λ l. SentLine c.args.connection l) (c.in_ok-line.ensures.items ∙ c.without_cr.ensures)) c.in-Some.ensures.line
    ∙ c.loop-line.invariant

pub returns : goal.returns
returns c =
    sym (append-nil (map view_of c.loop-line.outputs.items))
    ∙ ap (λ ls. map view_of c.loop-line.outputs.items ++ map (SentLine c.args.connection) ls)
    (sym (no_line c.loop-line.rest.now c.in_default.ensures.line))
    ∙ c.loop-line.invariant
