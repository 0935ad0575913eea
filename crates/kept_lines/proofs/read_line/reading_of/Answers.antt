use Rattle.kept_lines.proofs.Readings.{are_readings}
use Rattle.kept_lines.proofs.read_line.reading_of.Goals as goal

pub returns-in-Ok : goal.returns-in-Ok
returns-in-Ok c =
    are_readings c.args.names.now c.args.text.now c.in-Ok.line c.good_of.result (search c.in-Ok.ensures.good)
    (search c.good_of.ensures)
