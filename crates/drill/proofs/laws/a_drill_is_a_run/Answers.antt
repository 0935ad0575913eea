use Rattle.drill.proofs.Coming.{refused_comes, runs_come}
use Rattle.drill.proofs.laws.a_drill_is_a_run.Goals as goal

pub returns : goal.returns
returns c = record {
  taken = λ script printed was. runs_come was.begun script.steps.items was.lines was.later was.runs;
  refused = refused_comes;
}
