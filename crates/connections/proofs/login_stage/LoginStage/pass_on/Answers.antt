-- A login that was not accepted.
use Rattle.connections.proofs.Calls.{same_nothing}
use Rattle.connections.proofs.login_stage.LoginStage.pass_on.Goals as goal

pub returns-then-ne-clause-nothing : goal.returns-then-ne-clause-nothing
returns-then-ne-clause-nothing c = same_nothing _
