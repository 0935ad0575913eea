-- The debt at which a connection failed (profile).
use Rattle.std.specs.Prelude.{◌&&◌, ◌||◌, not, ℕ, Bool, true, false, Option, Some, None}
use Rattle.conn_core.specs.declared.reason.Reason.{Reason}
use Rattle.conn_core.specs.declared.reason.Reason.TheVariants.{Greeting, Reader, Unmatched, Ended, Timeout}
use Rattle.conn_core.specs.declared.reason.Reason.TheVariants.{Broken, Quit}
use Rattle.connections.specs.declared.setbacks.Failure.{Failure}
use Rattle.connections.specs.declared.setbacks.Failure.TheVariants.{AtDebt, Broke}
use Rattle.connections.specs.declared.blame.Blame.{Blame}
use Rattle.connections.specs.declared.blame.Blame.TheVariants.{Nobody, Debt, Named}
use Rattle.connections.specs.declared.blame.ConnectionEnd.{ConnectionEnd}

-- the first debt without an answer, if there is one
abbrev pub at_first : Option ℕ → Failure → Blame
at_first (Some key) failure = Debt key failure
at_first None failure = Nobody

-- the debt that is the cause, by why the connection closed
abbrev pub blame_by : Option Reason → (names_id : Bool) → (unanswered : Option ℕ) → Blame
blame_by None names_id unanswered = Nobody
blame_by (Some Unmatched) true unanswered = Named
blame_by (Some Unmatched) false unanswered = at_first unanswered AtDebt
blame_by (Some Broken) names_id unanswered = at_first unanswered Broke
blame_by (Some (Reader fault)) names_id unanswered = at_first unanswered Broke
blame_by (Some Timeout) names_id unanswered = at_first unanswered Broke
blame_by (Some (Greeting code)) names_id unanswered = Nobody
blame_by (Some (Ended code)) names_id unanswered = Nobody
blame_by (Some Quit) names_id unanswered = Nobody

-- the debt whose article could not be read, or else by why it closed
abbrev pub blame_unread : (unread : Option ℕ) → Blame → Blame
blame_unread (Some key) blame = Debt key AtDebt
blame_unread None blame = blame

-- the debt that is the likely cause; none if the feeder itself or the system ended the connection
abbrev pub blame_for : (is_by_us : Bool) → Blame → Blame
blame_for true blame = Nobody
blame_for false blame = blame

abbrev pub blame_of : ConnectionEnd → Blame
blame_of end = blame_for end.is_by_us (blame_unread end.unread (blame_by end.reason end.names_id end.unanswered))

-- whether a debt is the likely cause
abbrev pub is_somebody : Blame → Bool
is_somebody Nobody = false
is_somebody (Debt key failure) = true
is_somebody Named = true

-- whether the connection closed because a reply came that answers nothing
abbrev pub is_unmatched : Option Reason → Bool
is_unmatched None = false
is_unmatched (Some Unmatched) = true
is_unmatched (Some Broken) = false
is_unmatched (Some (Reader fault)) = false
is_unmatched (Some Timeout) = false
is_unmatched (Some (Greeting code)) = false
is_unmatched (Some (Ended code)) = false
is_unmatched (Some Quit) = false

-- whether the slot is tried again at once: the peer had agreed to a mode, and then a debt was the cause or a reply came
-- that answers nothing
abbrev pub is_retried : ConnectionEnd → Bool
is_retried end =
    end.has_agreed && not end.is_by_us && not end.is_without_spool
    && (is_somebody (blame_of end) || is_unmatched end.reason)
