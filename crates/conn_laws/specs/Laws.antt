-- What holds over whole transcripts.
use Rattle.std.specs.Prelude.{◌≡◌, ℕ, ◌+◌, ◌<◌, Bool, true, false, Option, Some, None, is_some, List, [], ◌∷◌, ◌++◌}
use Rattle.std.specs.Prelude.{length, map, option_map, slice_get, if◌then◌else◌, ◌&&◌, ◌==◌, ◌⊎◌}
use Rattle.std.specs.List.{AllByRecursion}
use Rattle.std.specs.List.Sorted.{IsStrictlyIncreasing}
use Rattle.reply_reader.specs.Stream.{Given}
use Rattle.ledger_core.specs.State.{Owing}
use Rattle.ledger_core.specs.Codes.{code_number}
use Rattle.conn_core.specs.Codes.{meaning}
use Rattle.conn_core.specs.Used.{has, times}
use Rattle.ledger_core.specs.declared.note.Cause.{Cause}
use Rattle.ledger_core.specs.declared.note.Cause.TheVariants.{Missing, Unsendable as Unfit}
use Rattle.conn_core.specs.Commands.{Ask, Command, ModeStream, Asks, Quit, Handing, Sendable, Gone, Unsendable, Held}
use Rattle.conn_core.specs.Commands.{Want, block_of, check_of, debt_in, fits_ask, belongs_to}
use Rattle.conn_core.specs.History.{Event, Offered, Put, Came, Faulted, Handed, Sent, Tick, Broke, Leave, Taken, End}
use Rattle.conn_core.specs.History.{accepted, asks, answered, checks, closes, ends, ended_tickets, held, is_mode}
use Rattle.conn_core.specs.History.{is_streaming, newcomer, phase, reason, wanted, window, story, first_want}
use Rattle.conn_core.specs.declared.codes.Verb.{Verb}
use Rattle.conn_core.specs.declared.codes.Verb.TheVariants.{Check, Takethis, Ihave, Block}
use Rattle.conn_core.specs.declared.codes.Meaning.{Meaning}
use Rattle.conn_core.specs.declared.codes.Meaning.TheVariants.{Wanted, Later, Final}
use Rattle.conn_core.specs.declared.options.Options.{Options}
use Rattle.conn_core.specs.declared.outcome.Outcome.{Outcome}
use Rattle.conn_core.specs.declared.outcome.Outcome.TheVariants.{Final as Ended_by, Deferred, Lost, Back}

-- how often the debt at a ticket came out (profile)
abbrev pub times_out : Options → List Event → ℕ → ℕ
times_out options h ticket = times (ended_tickets (ends options h)) ticket

-- how often it is among those held (profile)
abbrev pub times_held : Options → List Event → ℕ → ℕ
times_held options h ticket = times (map (λ (x : Held). x.ticket) (held options h)) ticket

-- how many commands about it have no answer (profile)
abbrev pub open_commands : Options → List Event → ℕ → ℕ
open_commands options h ticket = times (map (λ (ask : Ask). ask.ticket) (window options h)) ticket

-- how many articles are wanted for it (profile)
abbrev pub open_wants : Options → List Event → ℕ → ℕ
open_wants options h ticket = times (map (λ (want : Want). want.ticket) (wanted options h)) ticket

-- each command about a debt names the message-id of the debt that was accepted at its ticket (RFC 4644, sections 2.4 and
-- 2.5)
abbrev pub AllNameTheirDebt : List Event → Type 0
AllNameTheirDebt h =
    AllByRecursion (λ (ask : Ask). option_map (λ (debt : Owing). debt.1.1) (slice_get (accepted h) ask.ticket) ≡ Some ask.id) (asks h)

-- each outcome is about the very debt that was accepted at its ticket (profile)
abbrev pub AllAreTheirOwn : Options → List Event → Type 0
AllAreTheirOwn options h = AllByRecursion (λ (x : End). slice_get (accepted h) x.ticket ≡ Some (debt_in x.outcome)) (ends options h)

-- whether a reply fits a command: in streaming mode by its code and its id, otherwise by its code (RFC 4644, sections
-- 2.4 and 2.5; RFC 3977, section 6.3.2)
abbrev pub fits_in : (streaming : Bool) → Given → Ask → Bool
fits_in streaming reply ask = if streaming then fits_ask reply ask else belongs_to reply ask

-- a mode is agreed, and of the commands put out this is the first that the reply fits and that no earlier reply
-- answers (RFC 4644, sections 2.4 and 2.5)
pub record IsFirstOpen (options : Options) (h : List Event) (reply : Given) (command : ℕ × Ask) : Type 0 where
  pub mode : is_mode (phase options h) ≡ true
  pub is_command : slice_get (asks h) command.0 ≡ Some command.1
  pub fit : fits_in (is_streaming (phase options h)) reply command.1 ≡ true
  pub unanswered : has (answered options h) command.0 ≡ false
  pub no_earlier : (k : ℕ) (ask : Ask) → k < command.0 → slice_get (asks h) k ≡ Some ask
      → fits_in (is_streaming (phase options h)) reply ask ≡ true → has (answered options h) k ≡ true

-- each of the commands put out that the reply fits has its answer (RFC 4644, sections 2.4 and 2.5)
abbrev pub FitsNoneOpen : Options → List Event → Given → Type 0
FitsNoneOpen options h reply =
    (k : ℕ) (ask : Ask) → slice_get (asks h) k ≡ Some ask → fits_in (is_streaming (phase options h)) reply ask ≡ true
    → has (answered options h) k ≡ true

-- a reply, when it came, answered a command about the debt at that ticket, and its code meant this; the connection was open
-- (RFC 3977, section 3.2)
pub record IsAnswered (options : Options) (h : List Event) (ticket : ℕ) (code : ℕ) (says : Meaning) : Type 0 where
  pub later : List Event
  pub earlier : List Event
  pub reply : Given
  pub command : ℕ × Ask
  pub split : h ≡ later ++ Came reply ∷ earlier
  pub running : reason options earlier ≡ None
  pub first : IsFirstOpen options earlier reply command
  pub about : command.1.ticket ≡ ticket
  pub code_is : reply.code ≡ code
  pub meant : meaning command.1.verb code ≡ Some says

-- why what is handed in for a debt loses it: the article is gone, or its text cannot be sent (profile)
abbrev pub cause_of : Handing → Option Cause
cause_of (Sendable block) = None
cause_of Gone = Some Missing
cause_of Unsendable = Some Unfit

-- an article of the debt's key was handed in for that very debt, whose want was the first of the key, and this is why
-- it was lost (profile)
pub record IsLost (options : Options) (h : List Event) (ticket : ℕ) (debt : Owing) (cause : Cause) : Type 0 where
  pub later : List Event
  pub earlier : List Event
  pub number : ℕ
  pub handing : Handing
  pub want : ℕ × Want
  pub split : h ≡ later ++ Handed number handing ∷ earlier
  pub running : reason options earlier ≡ None
  pub first : first_want (story options earlier) number ≡ Some want
  pub about : want.1.ticket ≡ ticket
  pub numbered : debt.0 ≡ number
  pub caused : cause_of handing ≡ Some cause

-- the connection was open and held the debt, and then something came that closed it (profile)
pub record IsReturned (options : Options) (h : List Event) (ticket : ℕ) : Type 0 where
  pub later : List Event
  pub earlier : List Event
  pub event : Event
  pub split : h ≡ later ++ event ∷ earlier
  pub running : reason options earlier ≡ None
  pub closing : is_some (closes options earlier event) ≡ true
  pub was_held : times_held options earlier ticket ≡ 1

-- An outcome is right: a final answer says what the verdict says, and an answer that asks for it later what the
-- deferral says; an article that is lost was handed in as that; what comes back was held when the connection was
-- closed (RFC 3977, section 6.3.2; RFC 4644, section 2).
abbrev pub IsRightAt : Options → List Event → ℕ → Outcome → Type 0
IsRightAt options h ticket (Ended_by verdict) = IsAnswered options h ticket (code_number verdict.code) (Final verdict.code)
IsRightAt options h ticket (Deferred deferral) = (code : ℕ) × IsAnswered options h ticket code Later
IsRightAt options h ticket (Lost debt cause) = IsLost options h ticket debt cause
IsRightAt options h ticket (Back debt) = IsReturned options h ticket

-- each outcome of a transcript is right (profile)
abbrev pub AllRight : Options → List Event → Type 0
AllRight options h = AllByRecursion (λ (x : End). IsRightAt options h x.ticket x.outcome) (ends options h)

-- whether a debt came back (profile)
abbrev pub is_back : Outcome → Bool
is_back (Ended_by verdict) = false
is_back (Deferred deferral) = false
is_back (Lost debt cause) = false
is_back (Back debt) = true

-- What was found comes out first; what came back follows it, in the order offered; nothing comes back while the
-- connection is open (profile).
pub record ReturnsLast (options : Options) (h : List Event) : Type 0 where
  pub found : List End
  pub returned : List End
  pub split : ends options h ≡ found ++ returned
  pub none_back : AllByRecursion (λ (x : End). is_back x.outcome ≡ false) found
  pub all_back : AllByRecursion (λ (x : End). is_back x.outcome ≡ true) returned
  pub in_order : IsStrictlyIncreasing (ended_tickets returned)
  pub while_open : reason options h ≡ None → returned ≡ []

-- the debt at that ticket was accepted in IHAVE mode, or while checks were off (RFC 4644, section 2.5; innfeed.conf(5),
-- no-check-high)
pub record IsUnchecked (options : Options) (h : List Event) (ticket : ℕ) : Type 0 where
  pub later : List Event
  pub earlier : List Event
  pub debt : Owing
  pub split : h ≡ later ++ Offered debt ∷ earlier
  pub about : length (accepted earlier) ≡ ticket
  pub mode : is_mode (phase options earlier) ≡ true
  pub off : (is_streaming (phase options earlier) ≡ false) ⊎ (checks options earlier ≡ false)

-- why the article of the debt at that ticket is wanted: no CHECK goes before it, or 238 answered the CHECK (RFC 4644, section 2.4)
abbrev pub IsWanted : Options → List Event → ℕ → Type 0
IsWanted options h ticket = IsUnchecked options h ticket ⊎ IsAnswered options h ticket 238 Wanted

-- a CHECK of the debt that is accepted now, in streaming mode while checks are on (RFC 4644, section 2.4; innfeed.conf(5),
-- no-check-high)
pub record IsCheckOf (options : Options) (h : List Event) (debt : Owing) (ask : Ask) : Type 0 where
  pub streaming : is_streaming (phase options h) ≡ true
  pub on : checks options h ≡ true
  pub check : ask ≡ check_of (newcomer h debt)

-- a TAKETHIS while streaming, otherwise an IHAVE, with the block that is handed in now for the first want of that
-- key, which is that very debt's (RFC 4644, section 2.5; RFC 3977, section 6.3.2)
pub record IsHandedFor (options : Options) (h : List Event) (number : ℕ) (handing : Handing) (ask : Ask) : Type 0 where
  pub want : ℕ × Want
  pub first : first_want (story options h) number ≡ Some want
  pub about : want.1.ticket ≡ ask.ticket
  pub reason : IsWanted options h ask.ticket
  pub block : handing ≡ Sendable ask.block
  pub verb : ask.verb ≡ (if is_streaming (phase options h) then Takethis else Ihave)

-- the block of an IHAVE, to which 335 is the answer now (RFC 3977, section 6.3.2)
pub record IsBlockAfter (options : Options) (h : List Event) (reply : Given) (ask : Ask) : Type 0 where
  pub command : ℕ × Ask
  pub first : IsFirstOpen options h reply command
  pub offer : command.1.verb ≡ Ihave
  pub code : reply.code ≡ 335
  pub block : ask ≡ block_of command.1

-- the newest event is why the command goes out (profile)
abbrev pub IsCausedBy : Options → List Event → Ask → Type 0
IsCausedBy options [] ask = ⊥
IsCausedBy options (Offered debt ∷ h) ask = IsCheckOf options h debt ask
IsCausedBy options (Handed number handing ∷ h) ask = IsHandedFor options h number handing ask
IsCausedBy options (Came reply ∷ h) ask = IsBlockAfter options h reply ask
IsCausedBy options (Put command ∷ h) ask = ⊥
IsCausedBy options (Faulted fault ∷ h) ask = ⊥
IsCausedBy options (Sent count ∷ h) ask = ⊥
IsCausedBy options (Tick now ∷ h) ask = ⊥
IsCausedBy options (Broke ∷ h) ask = ⊥
IsCausedBy options (Leave ∷ h) ask = ⊥
IsCausedBy options (Taken ∷ h) ask = ⊥

-- each command about a debt went out directly after its cause (profile)
abbrev pub AllHaveTheirCause : Options → List Event → Type 0
AllHaveTheirCause options [] = Unit {0}
AllHaveTheirCause options (Put (Asks ask) ∷ h) = IsCausedBy options h ask × AllHaveTheirCause options h
AllHaveTheirCause options (e ∷ h) = AllHaveTheirCause options h

-- whether these are the same verb (profile)
abbrev pub is_verb : Verb → Verb → Bool
is_verb Check Check = true
is_verb Takethis Takethis = true
is_verb Ihave Ihave = true
is_verb Block Block = true
is_verb verb other = false

-- whether a block goes out with it (RFC 4644, section 2.5; RFC 3977, section 6.3.2)
abbrev pub sends_block : Verb → Bool
sends_block Check = false
sends_block Takethis = true
sends_block Ihave = false
sends_block Block = true

-- whether an article is sent or offered by it (RFC 4644, section 2.5; RFC 3977, section 6.3.2)
abbrev pub offers_article : Verb → Bool
offers_article Check = false
offers_article Takethis = true
offers_article Ihave = true
offers_article Block = false

-- how many of these commands are about the debt at that ticket and have such a verb (profile)
abbrev pub times_asked : (Verb → Bool) → ℕ → List Ask → ℕ
times_asked test ticket [] = 0
times_asked test ticket (ask ∷ asks) = (if test ask.verb && ask.ticket == ticket then 1 else 0) + times_asked test ticket asks

-- whether it is MODE STREAM (RFC 4644, section 2.3)
abbrev pub is_mode_stream : Command → Bool
is_mode_stream ModeStream = true
is_mode_stream (Asks ask) = false
is_mode_stream Quit = false

-- whether it is QUIT (RFC 3977, section 5.4)
abbrev pub is_quit : Command → Bool
is_quit ModeStream = false
is_quit (Asks ask) = false
is_quit Quit = true

-- how many of these commands pass the test (profile)
abbrev pub times_put : (Command → Bool) → List Command → ℕ
times_put test [] = 0
times_put test (command ∷ commands) = (if test command then 1 else 0) + times_put test commands
