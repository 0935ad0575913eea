use Rattle.event_loop.proofs.Orders.{gave_replies}
use Rattle.event_loop.proofs.laws.gave_replies.Goals as goal

pub returns : goal.returns
returns g c = gave_replies g.L.Link.took g.L.Link.gave g.L.Link.takes g.L.Link.gives
