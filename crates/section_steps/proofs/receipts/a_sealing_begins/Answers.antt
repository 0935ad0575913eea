use Rattle.section_steps.proofs.OfReceipts.{begin}
use Rattle.section_steps.proofs.receipts.a_sealing_begins.Goals as goal

pub returns : goal.returns
returns c = begin
