-- The codes of replies: what each means to the command that awaits it.
use Rattle.std.specs.Prelude.{ℕ, Bool, false, ◌==◌, ◌&&◌, ◌||◌, Option, Some, None, is_some, if◌then◌else◌, List}
use Rattle.std.specs.Str.{bytes_eq}
use Rattle.reply_reader.specs.Stream.{Given}
use Rattle.ledger_core.specs.declared.note.FinalCode.TheVariants.{IhaveReceived, TakethisReceived, IhaveNotWanted, IhaveRejected, CheckNotWanted, TakethisRejected}
use Rattle.conn_core.specs.declared.codes.Verb.{Verb}
use Rattle.conn_core.specs.declared.codes.Verb.TheVariants.{Check, Takethis, Ihave, Block}
use Rattle.conn_core.specs.declared.codes.Meaning.{Meaning}
use Rattle.conn_core.specs.declared.codes.Meaning.TheVariants.{Wanted, SendBlock, Later, Final}
use Rattle.conn_core.specs.declared.reason.Reason.{Reason}
use Rattle.conn_core.specs.declared.reason.Reason.TheVariants.{Unmatched, Ended}

-- The meaning of a code to a command; None if it is no answer to it (CHECK and TAKETHIS: RFC 4644, sections 2.4 and
-- 2.5; IHAVE and its block: RFC 3977, section 6.3.2).
abbrev pub meaning : Verb → ℕ → Option Meaning
meaning Check code =
    if code == 238 then Some Wanted else if code == 431 then Some Later else if code == 438 then Some (Final CheckNotWanted) else None
meaning Takethis code =
    if code == 239 then Some (Final TakethisReceived) else if code == 439 then Some (Final TakethisRejected) else None
meaning Ihave code =
    if code == 335 then Some SendBlock else if code == 435 then Some (Final IhaveNotWanted) else if code == 436 then Some Later else None
meaning Block code =
    if code == 235 then Some (Final IhaveReceived) else if code == 437 then Some (Final IhaveRejected) else if code == 436 then Some Later else None

-- whether a greeting is good (RFC 3977, section 5.1)
abbrev pub is_welcome : ℕ → Bool
is_welcome code = code == 200 || code == 201

-- whether the code ends the connection if it answers no command (RFC 3977, section 3.2.1)
abbrev pub ends_all : ℕ → Bool
ends_all code = code == 400 || code == 480 || code == 502

-- why a reply of this code closes the connection if it answers no command (profile)
abbrev pub stray : ℕ → Reason
stray code = if ends_all code then Ended code else Unmatched

-- whether a reply names this message-id (RFC 4644, sections 2.4 and 2.5)
abbrev pub names : Option (List ℕ) → List ℕ → Bool
names None id = false
names (Some named) id = bytes_eq named id

-- whether the code of a reply is an answer to the command (RFC 3977, section 3.2)
abbrev pub belongs : Given → Verb → Bool
belongs reply verb = is_some (meaning verb reply.code)

-- whether a reply of streaming mode can be the answer to a command: it names the id too (RFC 4644, sections 2.4 and
-- 2.5)
abbrev pub fits : Given → Verb → List ℕ → Bool
fits reply verb id = belongs reply verb && names reply.id id
