use Rattle.sections.proofs.OverRuns.{run_stays}
use Rattle.sections.proofs.all_stay_acknowledged.Goals as goal

pub returns : goal.returns
returns c = run_stays
