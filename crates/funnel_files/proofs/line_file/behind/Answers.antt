use Rattle.funnel_files.proofs.Passes.{behind_short}
use Rattle.funnel_files.proofs.line_file.behind.Goals as goal

pub returns-in-None-clause-missing : goal.returns-in-None-clause-missing
returns-in-None-clause-missing c =
    behind_short c.loop-passed.passed c.args.lines c.args.piece.now c.loop-passed.rest.now c.loop-passed.invariant
    (search c.in-None.ensures.line)
    c.loop-passed-test.true
