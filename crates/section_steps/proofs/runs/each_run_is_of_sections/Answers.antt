use Rattle.section_steps.proofs.Machines.{comes_by_runs}
use Rattle.section_steps.proofs.runs.each_run_is_of_sections.Goals as goal

pub returns : goal.returns
returns g c = comes_by_runs
