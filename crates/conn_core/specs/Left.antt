-- A connection between two replies.
use Rattle.std.specs.Prelude.{◌≡◌, ℕ, ◌+◌, Bool, true, false, None, List, length}
use Rattle.reply_reader.specs.Stream.{Given, Held as Reading, Working, Broken, BeginsWithReply}
use Rattle.conn_core.specs.History.{Event, Came, reason, after}
use Rattle.conn_core.specs.Receipt.{Receives, ReceivesSome}
use Rattle.conn_core.specs.Stands.{Arises, StandsFor, Matches}
use Rattle.conn_core.specs.State.{Holding}
use Rattle.conn_core.specs.declared.options.Options.{Options}

-- the connection is open, and stands for this transcript, whatever its reader holds
pub record IsLeftOpen (options : Options) (conn : Holding) (h : List Event) : Type 0 where
  pub arises : Arises options h
  pub stands : Matches options conn.state h
  pub running : reason options h ≡ None

-- and its reader holds these octets
pub record IsReading (options : Options) (conn : Holding) (waiting : List ℕ) (h : List Event) : Type 0 where
  pub left_open : IsLeftOpen options conn h
  pub reader : conn.reader ≡ Working waiting

-- one more reply was read, and it is still open; or all was received that there is
abbrev pub ReadsOne : Options → (waiting : List ℕ) → List Event → Holding → (more : Bool) → Type 0
ReadsOne options waiting h new true =
    (reply : Given) × (rest : List ℕ) × BeginsWithReply waiting reply rest × IsReading options new rest (after options h (Came reply))
ReadsOne options waiting h new false = (later : List Event) × (left : List ℕ) × Receives options waiting h later left × StandsFor options new left later

-- how much a reader has still to read
abbrev pub size_of : Reading → ℕ
size_of (Working waiting) = length waiting + 1
size_of Broken = 0

-- what is received after the second transcript while these octets wait is received after the first
pub record IsAhead (options : Options) (start : List ℕ) (h : List Event) (waiting : List ℕ) (later : List Event) : Type 0 where
  pub all : (last : List Event) (left : List ℕ) → Receives options waiting later last left → Receives options start h last left
  pub some : (last : List Event) → ReceivesSome options waiting later last → ReceivesSome options start h last
