-- What is put out, and what comes of debts.
use Rattle.std.specs.Prelude.{◌==◌, ℕ, Bool, true, false, Option, Some, None, List, [], ◌∷◌, ◌++◌, codes, find}
use Rattle.reply_reader.specs.Stream.{Given}
use Rattle.ledger_core.specs.State.{Owing}
use Rattle.ledger_core.specs.declared.note.Cause.TheVariants.{Missing, Unsendable as Unfit}
use Rattle.conn_core.specs.Codes.{belongs, fits}
use Rattle.conn_core.specs.declared.codes.Verb.{Verb}
use Rattle.conn_core.specs.declared.codes.Verb.TheVariants.{Check, Takethis, Ihave, Block}
use Rattle.conn_core.specs.declared.codes.Meaning.{Meaning}
use Rattle.conn_core.specs.declared.codes.Meaning.TheVariants.{Wanted, SendBlock, Later, Final}
use Rattle.conn_core.specs.declared.outcome.Outcome.{Outcome}
use Rattle.conn_core.specs.declared.outcome.Outcome.TheVariants.{Final as Ended_by, Deferred, Lost, Back}

-- A command about a debt: the debt's ticket among those accepted, from 0, its message-id, and its block: the octets that go
-- out with the command, or those that an IHAVE offers; none for a CHECK (profile).
pub record Ask : Type 0 where
  pub verb : Verb
  pub ticket : ℕ
  pub id : List ℕ
  pub block : List ℕ

-- what is put out (RFC 4644, section 2; RFC 3977, sections 5.4 and 6.3.2)
pub data Command : Type 0 where
  ModeStream : Command
  Asks : Ask → Command
  Quit : Command

-- CR LF (RFC 3977, section 3.1)
abbrev pub line_end : List ℕ
line_end = 13 ∷ 10 ∷ []

-- the octets of a command about a debt (RFC 4644, sections 2.4 and 2.5; RFC 3977, section 6.3.2)
abbrev pub octets_of : Verb → List ℕ → List ℕ → List ℕ
octets_of Check id block = codes "CHECK " ++ id ++ line_end
octets_of Takethis id block = codes "TAKETHIS " ++ id ++ line_end ++ block
octets_of Ihave id block = codes "IHAVE " ++ id ++ line_end
octets_of Block id block = block

-- the octets of a command (RFC 4644, section 2.3; RFC 3977, section 5.4)
abbrev pub octets : Command → List ℕ
octets ModeStream = codes "MODE STREAM" ++ line_end
octets (Asks ask) = octets_of ask.verb ask.id ask.block
octets Quit = codes "QUIT" ++ line_end

-- what was handed in as an article: its block, or why there is none (profile)
pub data Handing : Type 0 where
  Sendable : (block : List ℕ) → Handing
  Gone : Handing
  Unsendable : Handing

-- a debt held: its ticket among those accepted, from 0 (profile)
pub record Held : Type 0 where
  pub ticket : ℕ
  pub debt : Owing

-- an article is wanted for the debt at that ticket, whose key this is (profile)
pub record Want : Type 0 where
  pub ticket : ℕ
  pub key : ℕ

-- whether this is the debt at that ticket (profile)
abbrev pub is_at : ℕ → Held → Bool
is_at ticket x = x.ticket == ticket

-- whether the want is of this key (profile)
abbrev pub is_of : ℕ → Want → Bool
is_of key want = want.key == key

-- the debt that a want is about, if it is still held (profile)
abbrev pub held_for : List Held → Option Want → Option Held
held_for held None = None
held_for held (Some want) = find (is_at want.ticket) held

-- the want of a debt's article (profile)
abbrev pub want_of : Held → Want
want_of x = record { ticket = x.ticket; key = x.debt.0 }

-- a CHECK of the debt at that ticket (RFC 4644, section 2.4)
abbrev pub check_of : Held → Ask
check_of x = record { verb = Check; ticket = x.ticket; id = x.debt.1.1; block = [] }

-- the command that offers or sends an article with this block: TAKETHIS while streaming, otherwise IHAVE (RFC 4644,
-- section 2.5; RFC 3977, section 6.3.2)
abbrev pub ask_with : (streaming : Bool) → Held → (block : List ℕ) → Ask
ask_with true x block = record { verb = Takethis; ticket = x.ticket; id = x.debt.1.1; block = block }
ask_with false x block = record { verb = Ihave; ticket = x.ticket; id = x.debt.1.1; block = block }

-- the block of an IHAVE, as a command of its own (RFC 3977, section 6.3.2)
abbrev pub block_of : Ask → Ask
block_of ask = record { verb = Block; ticket = ask.ticket; id = ask.id; block = ask.block }

-- whether a reply fits a command in streaming mode, by its code and its id (RFC 4644, sections 2.4 and 2.5)
abbrev pub fits_ask : Given → Ask → Bool
fits_ask reply ask = fits reply ask.verb ask.id

-- whether a reply fits a command in IHAVE mode, by its code (RFC 3977, section 6.3.2)
abbrev pub belongs_to : Given → Ask → Bool
belongs_to reply ask = belongs reply ask.verb

-- what an answer of this meaning makes of a debt: an outcome, or none yet (profile)
abbrev pub outcome_by : Meaning → Owing → List Outcome
outcome_by Wanted debt = []
outcome_by SendBlock debt = []
outcome_by Later debt = Deferred (record { debt = debt }) ∷ []
outcome_by (Final code) debt = Ended_by (record { debt = debt; code = code }) ∷ []

-- the loss of a debt whose article is not there (profile)
abbrev pub loss_of : Handing → Owing → List Outcome
loss_of (Sendable block) debt = []
loss_of Gone debt = Lost debt Missing ∷ []
loss_of Unsendable debt = Lost debt Unfit ∷ []

-- the debt that an outcome is about (profile)
abbrev pub debt_in : Outcome → Owing
debt_in (Ended_by verdict) = verdict.debt
debt_in (Deferred deferral) = deferral.debt
debt_in (Lost debt cause) = debt
debt_in (Back debt) = debt
