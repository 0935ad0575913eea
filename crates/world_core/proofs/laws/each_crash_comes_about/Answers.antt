use Rattle.world_core.proofs.CrashesComeAbout.{any_kill, any_power_failure}
use Rattle.world_core.proofs.laws.each_crash_comes_about.Goals as goal

pub returns : goal.returns
returns c = record { kill = any_kill; power = any_power_failure }
