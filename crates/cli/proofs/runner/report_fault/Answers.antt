use Rattle.cli.proofs.Reporting.{has_line, line_is_lost}
use Rattle.cli.proofs.runner.report_fault.Goals as goal

pub returns-in-Err : goal.returns-in-Err
returns-in-Err g c =
    let line = has_line c.args.fault.now in
    (line.0, line.1, line_is_lost (g.E.Write.contents c.args.err.now) c.from.result line.0)
