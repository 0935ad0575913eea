use Rattle.std.proofs.Common.{◌++◌, ◌∷◌, [], sym, ◌∙◌}
use Rattle.dot_codec.specs.Block.{stuffed}
use Rattle.dot_codec.proofs.Puts.{none_at, puts_line}
use Rattle.dot_codec.proofs.write.put_next.Goals as goal

pub returns-then-not-ends_line-clause-none : goal.returns-then-not-ends_line-clause-none
returns-then-not-ends_line-clause-none c =
    let run = c.first_run-run.result in
    none_at c.args.text.now run.octets.now run.rest.now run.stop (sym c.ends_line.ensures ∙ c.if-not-ends_line.true) c.requires c.first_run-run.ensures

pub returns-clause-lines : goal.returns-clause-lines
returns-clause-lines c =
    let run = c.first_run-run.result in
    let puts = puts_line c.args.text.now run.octets.now run.rest.now run.stop (sym c.ends_line.ensures ∙ c.if-not-ends_line.false) c.requires c.first_run-run.ensures in
    (stuffed run.octets.now ++ 13 ∷ 10 ∷ [], puts.0, c.in_ok-put_line.ensures.line)
