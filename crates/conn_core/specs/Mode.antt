-- The mode of a connection.
use Rattle.std.specs.Prelude.{Option, Some, None, is_some, if◌then◌else◌, List}
use Rattle.conn_core.specs.History.{Event, phase, reason}
use Rattle.conn_core.specs.State.{State}
use Rattle.conn_core.specs.declared.mode.Mode.{Mode}
use Rattle.conn_core.specs.declared.mode.Mode.TheVariants.{Streaming, Ihave}
use Rattle.conn_core.specs.declared.options.Options.{Options}
use Rattle.conn_core.specs.declared.phase.Phase.{Phase}
use Rattle.conn_core.specs.declared.phase.Phase.TheVariants.{Greeting, Asking, OneByOne, Leaving}
use Rattle.conn_core.specs.declared.phase.Phase.TheVariants.{Streaming as InStreaming}

-- the mode of a stage: none before one is agreed and after QUIT (RFC 4644, section 2.3; RFC 3977, section 5.4)
abbrev pub mode_in : Phase → Option Mode
mode_in Greeting = None
mode_in Asking = None
mode_in InStreaming = Some Streaming
mode_in OneByOne = Some Ihave
mode_in Leaving = None

-- the mode after a transcript; none once closed (RFC 4644, section 2.3)
abbrev pub mode : Options → List Event → Option Mode
mode options h = if is_some (reason options h) then None else mode_in (phase options h)

-- the mode, read from the state
abbrev pub mode_at : State → Option Mode
mode_at s = if is_some s.closed then None else mode_in s.phase
