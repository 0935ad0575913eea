-- The mode in the state is that of the transcript.
use Rattle.std.proofs.Common.{◌≡◌, List, refl, Option, Some, None}
use Rattle.conn_core.specs.History.{Event, reason}
use Rattle.conn_core.specs.Mode.{mode, mode_at}
use Rattle.conn_core.specs.State.{State}
use Rattle.conn_core.specs.Stands.{Matches}
use Rattle.conn_core.specs.declared.options.Options.{Options}
use Rattle.conn_core.specs.declared.reason.Reason.{Reason}

mode-step : (options : Options) (s : State) (h : List Event) (r : Option Reason) → reason options h ≡ r
    → Matches options s h → mode_at s ≡ mode options h
mode-step options s h None e st = let o = st.while_open e in rw (st.closed_is, e, o.phase_is) refl
mode-step options s h (Some why) e st = rw (st.closed_is, e) refl

pub mode-is : (options : Options) (s : State) (h : List Event) → Matches options s h → mode_at s ≡ mode options h
mode-is options s h st = mode-step options s h (reason options h) refl st
