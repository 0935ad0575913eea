-- The octets decide, and not their pieces.
use Rattle.conn_laws.proofs.Receipts.{joined, received_once}
use Rattle.conn_laws.proofs.cut_anyhow.Goals as goal

pub returns-clause-joined : goal.returns-clause-joined
returns-clause-joined c = joined

pub returns-clause-once : goal.returns-clause-once
returns-clause-once c = received_once
