use Rattle.std.proofs.Common.{◌∙◌}
use Rattle.funnel_files.proofs.Rests.{rest_left}
use Rattle.funnel_files.proofs.line_file.LineFile.has_rest.Goals as goal

pub returns : goal.returns
returns g c read given rest stands splits = stands.rest ∙ rest_left read given rest splits
