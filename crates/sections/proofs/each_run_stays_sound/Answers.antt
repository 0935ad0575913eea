use Rattle.sections.proofs.OverRuns.{begins, run_keeps}
use Rattle.sections.proofs.each_run_stays_sound.Goals as goal

pub returns : goal.returns
returns c = record { begins = begins; keeps = run_keeps }
