-- One more line was read.
use Rattle.std.proofs.Common.{◌∷◌, [], ◌++◌}
use Rattle.funnel.specs.Stream.{BeginsWithLine}
use Rattle.innd_spool.proofs.Maps.{read_more}
use Rattle.innd_spool.proofs.groups.groups_in.Goals as goal

pub loop-line-preserved : goal.loop-line-preserved
loop-line-preserved c =
    let lines = c.loop-line.invariant.0 in
    let line = c.in-Some.line.now in
    let behind = c.in-Some.behind.now in
    let begins : BeginsWithLine c.loop-line.left.now line behind = c.in-Some.ensures.line in (
      lines ++ line ∷ [],
      read_more c.args.text.now c.loop-line.left.now line behind c.loop-line.groups c.add_line.new.groups lines
          c.loop-line.invariant.1 begins c.in_ok-add_line.ensures,
    )
