use Rattle.world_core.proofs.RunsComeAbout.{begins_so, ran_comes, refused_comes}
use Rattle.world_core.proofs.laws.each_run_comes_about.Goals as goal

pub returns : goal.returns
returns c = record {
  begins = begins_so;
  reports = λ begun life before steps outputs lines new. ran_comes begun before steps outputs lines life new;
  ends = λ begun life before steps outputs fault new. refused_comes begun before steps outputs life fault new;
}
