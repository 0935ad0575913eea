use Rattle.event_loop.proofs.Orders.{took_in_order}
use Rattle.event_loop.proofs.laws.took_in_order.Goals as goal

pub returns : goal.returns
returns g c = took_in_order g.L.Link.took g.L.Link.gave g.L.Link.takes g.L.Link.gives
