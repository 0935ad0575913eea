-- What the private code says of what it keeps.
use Rattle.std.specs.Prelude.{◌≡◌, ℕ, ◌+◌, ◌++◌, ◌∷◌, [], Bool, Option, Some, None, List, find}
use Rattle.reply_reader.specs.Stream.{Given}
use Rattle.std.specs.Set.{remove_key}
use Rattle.dot_codec.specs.Lines.{IsSendable}
use Rattle.conn_core.specs.Commands.{Handing, Sendable, Gone, Unsendable, Held, is_of, outcome_by}
use Rattle.conn_core.specs.Receipt.{IsBlockOf}
use Rattle.ledger_core.specs.State.{Owing}
use Rattle.conn_core.specs.State.{Awaited, State}
use Rattle.conn_core.specs.Machine.{answered_by, handed, fits_awaited, belongs_to_awaited, newly, parted}
use Rattle.conn_core.specs.declared.codes.Meaning.{Meaning}
use Rattle.conn_core.specs.declared.codes.Meaning.TheVariants.{Wanted, SendBlock, Later, Final}
use Rattle.conn_core.specs.declared.machine.articles.Loss.{Loss}
use Rattle.conn_core.specs.declared.machine.articles.Loss.TheVariants.{Missing, Unfit}
use Rattle.conn_core.specs.declared.mode.Mode.{Mode}
use Rattle.conn_core.specs.declared.mode.Mode.TheVariants.{Streaming, Ihave}

-- whether a reply can be the answer to an awaited command: in streaming mode it must also name the id of its debt
-- (RFC 4644, sections 2.4 and 2.5)
abbrev pub can_answer : Mode → List Held → Given → Awaited → Bool
can_answer Streaming held reply = fits_awaited held reply
can_answer Ihave held reply = belongs_to_awaited reply

-- a reply once a mode is agreed
abbrev pub answered_with : State → Mode → Given → State
answered_with s mode reply = answered_by s (can_answer mode s.held reply) reply.code
    (find (can_answer mode s.held reply) s.window)

-- what an answer of this meaning makes of the debt at that ticket, if it is held
abbrev pub parted_by : State → ℕ → Meaning → Option Held → State
parted_by s ticket meaning None = s
parted_by s ticket meaning (Some x) = parted s ticket (outcome_by meaning x.debt)

-- what an answer that neither wants an article nor sends a block makes of that debt
abbrev pub settled_by : State → Option Meaning → ℕ → Option Held → State
settled_by s None ticket x = s
settled_by s (Some Wanted) ticket x = s
settled_by s (Some SendBlock) ticket x = s
settled_by s (Some Later) ticket x = parted_by s ticket Later x
settled_by s (Some (Final code)) ticket x = parted_by s ticket (Final code) x

-- what is handed in for an article that is not there (profile)
abbrev pub handing_of : Loss → Handing
handing_of Missing = Gone
handing_of Unfit = Unsendable

-- what is handed in with a text (profile)
abbrev pub IsTextAs : List ℕ → Handing → Type 0
IsTextAs text (Sendable block) = IsBlockOf text block
IsTextAs text Gone = ⊥
IsTextAs text Unsendable = ¬ (IsSendable text)

-- a text is sent for the first want of that key
abbrev pub Sends : State → ℕ → List ℕ → State → Type 0
Sends old number text new = (block : List ℕ) × IsBlockOf text block × (new ≡ handed old number (Sendable block))

-- the first want of that key is gone
abbrev pub without_want : State → ℕ → State
without_want s number = record s { wanted = remove_key (is_of number) s.wanted }

-- one more debt is held
abbrev pub with_newly : State → Owing → State
with_newly s debt = record s { held = s.held ++ newly s debt ∷ []; accepted = s.accepted + 1 }
