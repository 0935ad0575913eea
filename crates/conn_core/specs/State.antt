-- The state of a connection, in plain lists.
use Rattle.std.specs.Prelude.{ℕ, Bool, Option, is_some, if◌then◌else◌, List, [], ◌∷◌, ◌++◌, map}
use Rattle.reply_reader.specs.Stream.{Held as Reading}
use Rattle.conn_core.specs.Commands.{Ask, Held, Want}
use Rattle.conn_core.specs.declared.codes.Verb.{Verb}
use Rattle.conn_core.specs.declared.codes.Verb.TheVariants.{Check, Takethis, Ihave, Block}
use Rattle.conn_core.specs.declared.options.CxnId.{CxnId}
use Rattle.conn_core.specs.declared.options.Options.{Options}
use Rattle.conn_core.specs.declared.phase.Phase.{Phase}
use Rattle.conn_core.specs.declared.reason.Reason.{Reason}
use Rattle.conn_core.specs.declared.outcome.Outcome.{Outcome}
use Rattle.conn_core.specs.declared.outcome.Outcome.TheVariants.{Back}

-- a command whose answer is awaited, and the ticket of its debt: its octets are not kept (profile)
pub record Awaited : Type 0 where
  pub verb : Verb
  pub ticket : ℕ

-- what is kept of a command until its answer (profile)
abbrev pub awaited_of : Ask → Awaited
awaited_of ask = record { verb = ask.verb; ticket = ask.ticket }

-- the block that a command keeps for its answer: that of an IHAVE (RFC 3977, section 6.3.2)
abbrev pub kept_for : Verb → List ℕ → List (List ℕ)
kept_for Check block = []
kept_for Takethis block = []
kept_for Ihave block = block ∷ []
kept_for Block block = []

-- the blocks that these commands keep, in order (RFC 3977, section 6.3.2)
abbrev pub kept_blocks : List Ask → List (List ℕ)
kept_blocks [] = []
kept_blocks (ask ∷ asks) = kept_for ask.verb ask.block ++ kept_blocks asks

-- the state of a connection, without its number and its reader (profile)
pub record State : Type 0 where
  pub options : Options
  pub phase : Phase
  pub held : List Held
  pub window : List Awaited  -- the commands without an answer
  pub blocks : List (List ℕ)  -- the blocks that those keep
  pub wanted : List Want
  pub output : List ℕ
  pub found : List Outcome  -- what came out and was not taken
  pub closed : Option Reason
  pub unanswered : Option ℕ  -- the key of the debt whose command was the first without an answer at the close
  pub quitting : Bool
  pub accepted : ℕ
  pub recent : List Bool  -- the last of the counted answers, newest first
  pub off : Bool  -- whether checks are off
  pub has_answered : Bool  -- whether a reply answered a command about a debt
  pub stirred : Bool
  pub quiet : Option ℕ

-- a whole connection: its number, its reader with the octets that wait, and the rest (profile)
pub record Holding : Type 0 where
  pub id : CxnId
  pub reader : Reading
  pub state : State

-- what is still to be taken: what was found, and once closed all that is held, in the order offered (profile)
abbrev pub untold : State → List Outcome
untold s = s.found ++ (if is_some s.closed then map (λ (x : Held). Back x.debt) s.held else [])

-- the octets that are still to be sent; none once closed (profile)
abbrev pub output_of : State → List ℕ
output_of s = if is_some s.closed then [] else s.output

-- the octets that a connection still has to send (profile)
abbrev pub output_at : Holding → List ℕ
output_at conn = output_of conn.state

-- the outcomes that a connection still has to give (profile)
abbrev pub untold_at : Holding → List Outcome
untold_at conn = untold conn.state
