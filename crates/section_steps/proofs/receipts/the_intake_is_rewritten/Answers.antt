use Rattle.section_steps.proofs.OfReceipts.{rewrite, rewrite_not_due}
use Rattle.section_steps.proofs.receipts.the_intake_is_rewritten.Goals as goal

pub returns : goal.returns
returns g c = record { due = rewrite; not_due = rewrite_not_due }
