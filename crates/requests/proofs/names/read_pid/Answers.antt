use Rattle.std.proofs.Common.{◌∙◌, sym}
use Rattle.requests.proofs.Decimals.{no_pid, pid_of}
use Rattle.requests.proofs.names.read_pid.Goals as goal

pub returns-in-Some : goal.returns-in-Some
returns-in-Some c pid =
    let read = sym c.read_number.ensures ∙ c.in-Some.is in
    rw c.ok.ensures.value (pid_of _ _ c.try_from.result read c.try_from.ensures pid)

pub returns-in-None : goal.returns-in-None
returns-in-None c pid = (
  λ e. absurd (cc e),
  λ both. absurd (no_pid _ (sym c.read_number.ensures ∙ c.in-None.is) pid both.0 both.1),
)
