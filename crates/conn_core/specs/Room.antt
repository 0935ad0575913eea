-- The room that a connection keeps, so that ending it takes no memory.
use Rattle.std.specs.Prelude.{ℕ}
use Rattle.conn_core.specs.declared.phase.Phase.{Phase}
use Rattle.conn_core.specs.declared.phase.Phase.TheVariants.{Greeting, Asking, Streaming, OneByOne, Leaving}

-- the octets that are still to come in any case: QUIT and its line end, until it is out (RFC 3977, section 5.4)
abbrev pub quit_room : Phase → ℕ
quit_room Greeting = 6
quit_room Asking = 6
quit_room Streaming = 6
quit_room OneByOne = 6
quit_room Leaving = 0
