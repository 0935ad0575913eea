use Rattle.section_steps.proofs.OfReceipts.{add}
use Rattle.section_steps.proofs.receipts.a_place_is_counted.Goals as goal

pub returns : goal.returns
returns c = add
