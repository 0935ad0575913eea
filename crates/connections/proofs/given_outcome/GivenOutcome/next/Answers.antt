-- An outcome that is taken.
use Rattle.connections.proofs.Calls.{taken_nothing}
use Rattle.connections.proofs.given_outcome.GivenOutcome.next.Goals as goal

pub returns-in-Some-clause-nothing : goal.returns-in-Some-clause-nothing
returns-in-Some-clause-nothing c = taken_nothing c.outcome.result _ _ c.outcome.ensures.stands

pub returns-in-None-clause-nothing : goal.returns-in-None-clause-nothing
returns-in-None-clause-nothing c = taken_nothing c.outcome.result _ _ c.outcome.ensures.stands
