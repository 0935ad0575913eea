use Rattle.section_steps.proofs.OfReceipts.{see_due}
use Rattle.section_steps.proofs.receipts.what_is_due_is_all_noted.Goals as goal

pub returns : goal.returns
returns c = see_due
