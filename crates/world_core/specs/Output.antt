-- What steps report, as values; docs/FORMATS.md has the line of each.
use Rattle.std.specs.Prelude.{◌==◌, ℕ, if◌then◌else◌, Option, None, Some, List, [], ◌∷◌, ◌++◌, map}
use Rattle.std.specs.Global.{Vec}
use Rattle.funnel.specs.Line.{without_cr}
use Rattle.funnel.specs.declared.line.LineFault.{LineFault}
use Rattle.ledger_core.specs.State.{keys}
use Rattle.conn_core.specs.declared.reason.Reason.{Reason}
use Rattle.peer_queue.specs.declared.limits.Owed.{Owed as Answer}
use Rattle.peer_queue.specs.declared.settled.Settled.{Settled as Settling}
use Rattle.sections.specs.Tapes.{ledger_at, mark_at}
use Rattle.world_core.specs.Past.{PeerPast}
use Rattle.world_core.specs.declared.output.Handed.{Handed as Handing}
use Rattle.world_core.specs.declared.output.OwedAt.{OwedAt}
use Rattle.world_core.specs.declared.output.Output.{Output}
use Rattle.world_core.specs.declared.output.Output.TheVariants.{Owed as OutputOwed, Bad as OutputBad}
use Rattle.world_core.specs.declared.output.Output.TheVariants.{Taken as OutputTaken}
use Rattle.world_core.specs.declared.output.Output.TheVariants.{Connected as OutputConnected}
use Rattle.world_core.specs.declared.output.Output.TheVariants.{Handed as OutputHanded, Settled as OutputSettled}
use Rattle.world_core.specs.declared.output.Output.TheVariants.{SentLine as OutputSentLine, Need as OutputNeed}
use Rattle.world_core.specs.declared.output.Output.TheVariants.{Closed as OutputClosed, Shed as OutputShed}
use Rattle.world_core.specs.declared.output.Output.TheVariants.{Rotated as OutputRotated, Imported as OutputImported}
use Rattle.world_core.specs.declared.output.Output.TheVariants.{Stopped as OutputStopped}
use Rattle.world_core.specs.declared.output.Output.TheVariants.{Mark as OutputMark}

-- One thing that a step reports.
pub data View : Type 0 where
  -- a good line, and what came of it at each peer that it names
  Owed : (number : ℕ) (peers : List (List ℕ × Answer)) → View
  Bad : (number : ℕ) (fault : LineFault) → View  -- a malformed line
  Taken : (mark : ℕ) → View  -- the lines up to this one are acknowledged
  Connected : (connection : ℕ) (name : List ℕ) → View  -- a connection was made
  Handed : (connection : ℕ) (handed : Handing) → View  -- what became of the least candidate
  Settled : (connection key : ℕ) (settled : Settling) → View  -- what became of the debt of this key, which it had
  SentLine : (connection : ℕ) (line : List ℕ) → View  -- a line went out
  Need : (connection : ℕ) (key : ℕ) → View  -- an article is wanted
  Closed : (connection : ℕ) (reason : Reason) → View  -- a connection closed
  Shed : (name : List ℕ) (keys : List ℕ) → View  -- what was dropped of a peer's backlog
  Rotated : (name : List ℕ) (generation : ℕ) → View  -- a peer's tape was rewritten
  Imported : (name : List ℕ) (source new : ℕ) → View  -- a backlog file was imported
  Stopped : View  -- all has stopped
  Mark : (name : List ℕ) (mark : ℕ) (owes : List ℕ) → View  -- a peer's tape was opened

-- what a value of the program reports
abbrev pub view_of : Output → View
view_of (OutputOwed number peers) = Owed number (map (λ (at : OwedAt). (at.name, at.owed)) peers.items)
view_of (OutputBad number fault) = Bad number fault
view_of (OutputTaken mark) = Taken mark
view_of (OutputConnected connection name) = Connected connection name
view_of (OutputHanded connection handed) = Handed connection handed
view_of (OutputSettled connection key settled) = Settled connection key settled
view_of (OutputSentLine connection line) = SentLine connection line.items
view_of (OutputNeed connection key) = Need connection key
view_of (OutputClosed connection reason) = Closed connection reason
view_of (OutputShed name debts) = Shed name debts.items
view_of (OutputRotated name generation) = Rotated name generation
view_of (OutputImported name source new) = Imported name source new
view_of OutputStopped = Stopped
view_of (OutputMark name mark owes) = Mark name mark owes.items

-- what each step reports
abbrev pub views_by : List (Vec Output) → List (List View)
views_by lines = map (λ (outputs : Vec Output). map view_of outputs.items) lines

-- ---- what is reported of an output, and of a peer

-- Each line up to an LF, without the one CR before it. What follows the last LF is no line.
abbrev pub lines_from : List ℕ → List ℕ → List (List ℕ)
lines_from line [] = []
lines_from line (octet ∷ rest) =
    if octet == 10 then without_cr line ∷ lines_from [] rest else lines_from (line ++ octet ∷ []) rest

abbrev pub lines_in : List ℕ → List (List ℕ)
lines_in octets = lines_from [] octets

-- the article that is wanted
abbrev pub need_view : ℕ → Option ℕ → List View
need_view id None = []
need_view id (Some key) = Need id key ∷ []

-- why a connection closed, if it was open before
abbrev pub closed_view : ℕ → (was now : Option Reason) → List View
closed_view id None None = []
closed_view id None (Some reason) = Closed id reason ∷ []
closed_view id (Some before) now = []

-- a peer whose tape was opened
abbrev pub mark_view : PeerPast → View
mark_view peer = Mark peer.conf.name (mark_at peer.tape) (keys (ledger_at peer.tape))
