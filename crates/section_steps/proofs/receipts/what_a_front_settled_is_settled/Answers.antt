use Rattle.section_steps.proofs.OfReceipts.{settled}
use Rattle.section_steps.proofs.receipts.what_a_front_settled_is_settled.Goals as goal

pub returns : goal.returns
returns c = settled
