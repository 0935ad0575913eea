use Rattle.section_steps.proofs.OfEnds.{sent_there}
use Rattle.section_steps.proofs.ends.what_was_sent_is_there.Goals as goal

pub returns : goal.returns
returns g c = sent_there
