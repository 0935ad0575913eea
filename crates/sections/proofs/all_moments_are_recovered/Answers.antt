use Rattle.sections.proofs.OverRuns.{moments_recover}
use Rattle.sections.proofs.all_moments_are_recovered.Goals as goal

pub returns : goal.returns
returns c = moments_recover
