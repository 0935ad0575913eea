-- What a found article is handed in as.
use Rattle.conn_laws.proofs.Receipts.{handed_as_one}
use Rattle.conn_laws.proofs.handed_once.Goals as goal

pub returns : goal.returns
returns c = handed_as_one
