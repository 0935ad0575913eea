use Rattle.section_steps.proofs.OfReceipts.{seal}
use Rattle.section_steps.proofs.receipts.a_number_is_sealed.Goals as goal

pub returns : goal.returns
returns g c = seal
