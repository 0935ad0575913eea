-- A debt that is offered.
use Rattle.connections.proofs.Calls.{offered_nothing}
use Rattle.connections.proofs.conn_calls.offer_to.Goals as goal

pub returns : goal.returns
returns c = offered_nothing c.offer.result _ _ c.args.debt c.offer.ensures.ok c.offer.ensures.unchanged
