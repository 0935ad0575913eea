use Rattle.sections.proofs.OverRuns.{recover_all}
use Rattle.sections.proofs.all_are_recovered.Goals as goal

pub returns : goal.returns
returns c = recover_all
