use Rattle.std.proofs.Common.{sym, subst}
use Rattle.dot_codec.specs.Lines.{IsLine}
use Rattle.dot_codec.proofs.scan.first_run.Goals as goal

pub returns : goal.returns
returns c = (c.split_at.result.1.now, c.split_at.ensures.by_index.0, subst IsLine (sym c.split_at.ensures.front) c.run_len.ensures.run, c.stop_of-stop.ensures)
