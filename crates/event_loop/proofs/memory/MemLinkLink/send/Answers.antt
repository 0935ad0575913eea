use Rattle.event_loop.specs.Link.{moved}
use Rattle.std.proofs.Common.{arith}
use Rattle.event_loop.proofs.Pieces.{none_moved}
use Rattle.event_loop.proofs.memory.MemLinkLink.send.Goals as goal

pub returns-in-Some-clause-within : goal.returns-in-Some-clause-within
returns-in-Some-clause-within c = omega (arith, c.in-Some.ensures.moves)

pub returns-in-Some-clause-took : goal.returns-in-Some-clause-took
returns-in-Some-clause-took c = none_moved (moved c.in-Some.ending) _ _ c.in-Some.ensures.moves
