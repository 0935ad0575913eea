use Rattle.std.proofs.Common.{length}
use Rattle.script_fault_text.proofs.misfit.+add_parts.Given as goal

abbrev pub decreases-add_parts : goal.decreases-add_parts
decreases-add_parts l = length l.parts.now
