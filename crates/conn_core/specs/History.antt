-- The transcript of a connection, newest event first, and what it says. Each definition reads the whole list, and
-- none of them keeps a window of commands without an answer.
use Rattle.std.specs.Prelude.{ℕ, ◌+◌, ◌-◌, Bool, true, false, ◌==◌, ◌&&◌, ◌||◌, not, nat_lt, nat_le, Option, Some, None, is_some, is_none, option_map, if◌then◌else◌, List, [], ◌∷◌, ◌++◌, length, find, map, drop, slice_get}
use Rattle.std.specs.List.{flat_map}
use Rattle.reply_reader.specs.Stream.{Given}
use Rattle.reply_reader.specs.declared.fault.ReplyFault.{ReplyFault}
use Rattle.ledger_core.specs.State.{Owing}
use Rattle.conn_core.specs.Used.{has, is_empty, first_left, left_from, with_ticket}
use Rattle.conn_core.specs.Codes.{meaning, is_welcome, ends_all, stray}
use Rattle.conn_core.specs.Checks.{counts, are_off}
use Rattle.conn_core.specs.Commands.{Ask, Command, ModeStream, Asks, Quit, octets, Handing, Sendable, Gone, Unsendable, Held, Want, is_at, is_of, held_for, want_of, check_of, ask_with, block_of, fits_ask, belongs_to, outcome_by, loss_of}
use Rattle.conn_core.specs.declared.codes.Meaning.{Meaning}
use Rattle.conn_core.specs.declared.codes.Meaning.TheVariants.{Wanted, SendBlock, Later, Final}
use Rattle.conn_core.specs.declared.phase.Phase.{Phase}
use Rattle.conn_core.specs.declared.phase.Phase.TheVariants.{Greeting, Asking, Streaming, OneByOne, Leaving}
use Rattle.conn_core.specs.declared.options.Options.{Options}
use Rattle.conn_core.specs.declared.reason.Reason.{Reason}
use Rattle.conn_core.specs.declared.reason.Reason.TheVariants.{Greeting as BadGreeting, Reader, Ended, Timeout, Broken, Quit as Left}
use Rattle.conn_core.specs.declared.outcome.Outcome.{Outcome}
use Rattle.conn_core.specs.declared.outcome.Outcome.TheVariants.{Back}

-- what happens on a connection (profile)
pub data Event : Type 0 where
  Offered : (debt : Owing) → Event  -- a debt is accepted
  Put : (command : Command) → Event  -- a command is put out
  Came : (reply : Given) → Event  -- a whole reply line comes in
  Faulted : (fault : ReplyFault) → Event  -- what comes in is no reply line
  Handed : (number : ℕ) → (handing : Handing) → Event  -- an article is handed in for a wanted key
  Sent : (count : ℕ) → Event  -- this many octets of the output count as sent
  Tick : (now : ℕ) → Event  -- the moment, in seconds
  Broke : Event  -- the connection broke
  Leave : Event  -- the connection is asked to quit
  Taken : Event  -- an outcome is taken

-- the debts accepted, in the order offered; a debt's ticket is its index here, from 0 (profile)
abbrev pub accepted : List Event → List Owing
accepted [] = []
accepted (Offered debt ∷ h) = accepted h ++ debt ∷ []
accepted (e ∷ h) = accepted h

-- the command, if it is about a debt (profile)
abbrev pub ask_in : Command → List Ask
ask_in ModeStream = []
ask_in (Asks ask) = ask ∷ []
ask_in Quit = []

-- every command put out, in order (profile)
abbrev pub put_out : List Event → List Command
put_out [] = []
put_out (Put command ∷ h) = put_out h ++ command ∷ []
put_out (e ∷ h) = put_out h

-- the commands about debts, in the order put out; a command's ticket is its index here, from 0 (profile)
abbrev pub asks : List Event → List Ask
asks [] = []
asks (Put command ∷ h) = asks h ++ ask_in command
asks (e ∷ h) = asks h

-- the octets put out (RFC 3977, section 3.1)
abbrev pub put_octets : List Event → List ℕ
put_octets h = flat_map octets (put_out h)

-- how many of them count as sent (profile)
abbrev pub sent : List Event → ℕ
sent [] = 0
sent (Sent count ∷ h) = sent h + count
sent (e ∷ h) = sent h

-- how many outcomes were taken (profile)
abbrev pub taken : List Event → ℕ
taken [] = 0
taken (Taken ∷ h) = taken h + 1
taken (e ∷ h) = taken h

-- whether it was asked to quit (profile)
abbrev pub is_leaving : List Event → Bool
is_leaving [] = false
is_leaving (Leave ∷ h) = true
is_leaving (e ∷ h) = is_leaving h

-- what is awaited after a reply: after a good greeting the answer to MODE STREAM, if streaming is set; after 203
-- streaming mode is agreed, after any other answer to MODE STREAM IHAVE mode (RFC 4644, section 2.3; RFC 3977,
-- section 5.1)
abbrev pub phase_after : (streaming : Bool) → Phase → ℕ → Phase
phase_after streaming Greeting code = if is_welcome code then (if streaming then Asking else OneByOne) else Greeting
phase_after streaming Asking code = if code == 203 then Streaming else OneByOne
phase_after streaming Streaming code = Streaming
phase_after streaming OneByOne code = OneByOne
phase_after streaming Leaving code = Leaving

-- what is awaited after a command (RFC 3977, section 5.4)
abbrev pub phase_put : Phase → Command → Phase
phase_put phase ModeStream = phase
phase_put phase (Asks ask) = phase
phase_put phase Quit = Leaving

-- whether the mode is streaming (RFC 4644, section 2.3)
abbrev pub is_streaming : Phase → Bool
is_streaming Greeting = false
is_streaming Asking = false
is_streaming Streaming = true
is_streaming OneByOne = false
is_streaming Leaving = false

-- whether a mode is agreed and QUIT is not out (profile)
abbrev pub is_mode : Phase → Bool
is_mode Greeting = false
is_mode Asking = false
is_mode Streaming = true
is_mode OneByOne = true
is_mode Leaving = false

-- how many debts may be held: as many as are set while streaming, one in IHAVE mode (innfeed.conf(5), max-queue-size)
abbrev pub room : Options → Phase → ℕ
room options Greeting = 0
room options Asking = 0
room options Streaming = options.max_queue
room options OneByOne = 1
room options Leaving = 0

-- the first reason stays (profile)
abbrev pub first_reason : Option Reason → Option Reason → Option Reason
first_reason None now = now
first_reason (Some reason) now = Some reason

-- the quiet moment after a tick: it stays if all was still, otherwise it is the moment of the tick (profile)
abbrev pub moment : Option ℕ → (still : Bool) → (now : ℕ) → ℕ
moment None still now = now
moment (Some quiet) still now = if still then quiet else now

-- the command that a reply answers: in streaming mode the first without an answer that it fits, in IHAVE mode the
-- first whose answer its code can be, otherwise none (RFC 4644, sections 2.4 and 2.5; RFC 3977, section 3.5)
abbrev pub answered_now : Phase → Given → List ℕ → List Ask → Option (ℕ × Ask)
answered_now Greeting reply answered asks = None
answered_now Asking reply answered asks = None
answered_now Streaming reply answered asks = first_left (fits_ask reply) answered 0 asks
answered_now OneByOne reply answered asks = first_left (belongs_to reply) answered 0 asks
answered_now Leaving reply answered asks = None

-- why a reply closes the connection: a bad greeting, 400, 480 or 502 in place of a mode, a reply that answers no
-- command, any reply after QUIT (RFC 3977, sections 3.2.1, 5.1 and 5.4; RFC 4644, section 2.3)
abbrev pub closes_in : Phase → Option (ℕ × Ask) → ℕ → Option Reason
closes_in Greeting command code = if is_welcome code then None else Some (BadGreeting code)
closes_in Asking command code = if ends_all code then Some (Ended code) else None
closes_in Streaming None code = Some (stray code)
closes_in Streaming (Some command) code = None
closes_in OneByOne None code = Some (stray code)
closes_in OneByOne (Some command) code = None
closes_in Leaving command code = Some Left

-- what an answered command counts as for the check switch (profile)
abbrev pub counts_as : Option (ℕ × Ask) → ℕ → List Bool
counts_as None code = []
counts_as (Some command) code = counts code

module _ (options : Options) where
  -- what is awaited, and the mode (RFC 3977, section 5; RFC 4644, section 2.3)
  abbrev pub phase : List Event → Phase
  phase [] = Greeting
  phase (Came reply ∷ h) = phase_after options.streaming (phase h) reply.code
  phase (Put command ∷ h) = phase_put (phase h) command
  phase (e ∷ h) = phase h

  -- the tickets of the commands that have an answer (RFC 4644, sections 2.4 and 2.5)
  abbrev pub answered : List Event → List ℕ
  answered [] = []
  answered (Came reply ∷ h) = with_ticket (answered_now (phase h) reply (answered h) (asks h)) (answered h)
  answered (e ∷ h) = answered h

  -- the command that a reply answers, if it comes now, with its ticket (RFC 4644, sections 2.4 and 2.5)
  abbrev pub answered_ask : List Event → Given → Option (ℕ × Ask)
  answered_ask h reply = answered_now (phase h) reply (answered h) (asks h)

  -- the commands that no reply has answered, in the order put out (RFC 3977, section 3.5)
  abbrev pub window : List Event → List Ask
  window h = left_from 0 (asks h) (answered h)

  -- whether a reply has answered a command about a debt with one of its codes; the greeting, the answer to MODE
  -- STREAM and a reply after QUIT do not count (RFC 4644, sections 2.3 to 2.5; RFC 3977, section 6.3.2)
  abbrev pub has_answered : List Event → Bool
  has_answered [] = false
  has_answered (Came reply ∷ h) = is_some (answered_ask h reply) || has_answered h
  has_answered (e ∷ h) = has_answered h

  -- the counted answers, newest first: whether the article was taken (profile)
  abbrev pub counted : List Event → List Bool
  counted [] = []
  counted (Came reply ∷ h) = counts_as (answered_ask h reply) reply.code ++ counted h
  counted (e ∷ h) = counted h

  -- whether a CHECK goes before a TAKETHIS (innfeed.conf(5), no-check-high)
  abbrev pub checks : List Event → Bool
  checks h = not (are_off options (counted h))

  -- whether a whole reply was read or octets were sent since the last tick (profile)
  abbrev pub stirred : List Event → Bool
  stirred [] = false
  stirred (Tick now ∷ h) = false
  stirred (Came reply ∷ h) = true
  stirred (Sent count ∷ h) = nat_lt 0 count || stirred h
  stirred (e ∷ h) = stirred h

  -- whether an answer is awaited: the greeting, that to MODE STREAM or QUIT, or one to a command (profile)
  abbrev pub awaits : List Event → Bool
  awaits h = not (is_mode (phase h)) || not (is_empty (window h))

  -- whether nothing stirred since the last tick while an answer is awaited (profile)
  abbrev pub is_still : List Event → Bool
  is_still h = not (stirred h) && awaits h

  -- the quiet moment, once a tick has set it (profile)
  abbrev pub quiet : List Event → Option ℕ
  quiet [] = None
  quiet (Tick now ∷ h) = Some (moment (quiet h) (is_still h) now)
  quiet (e ∷ h) = quiet h

  -- whether an answer is late at this moment (innfeed.conf(5), response-timeout)
  abbrev pub is_late : List Event → ℕ → Bool
  is_late h now = awaits h && nat_le options.response_timeout (now - moment (quiet h) (is_still h) now)

  -- why this event, if it comes now, closes the connection (RFC 3977, section 3.2.1; innfeed.conf(5),
  -- response-timeout)
  abbrev pub closes : List Event → Event → Option Reason
  closes h (Came reply) = closes_in (phase h) (answered_ask h reply) reply.code
  closes h (Faulted fault) = Some (Reader fault)
  closes h (Tick now) = if is_late h now then Some Timeout else None
  closes h Broke = Some Broken
  closes h e = None

  -- why the connection is closed: the first reason (profile)
  abbrev pub reason : List Event → Option Reason
  reason [] = None
  reason (e ∷ h) = first_reason (reason h) (closes h e)

-- a debt that came out: its ticket, and what became of it (profile)
pub record End : Type 0 where
  pub ticket : ℕ
  pub outcome : Outcome

-- the tickets of these debts (profile)
abbrev pub ended_tickets : List End → List ℕ
ended_tickets ends = map (λ x. x.ticket) ends

-- the debts from ticket n on, without those that came out (profile)
abbrev pub held_from : ℕ → List Owing → List ℕ → List Held
held_from n [] gone = []
held_from n (debt ∷ later) gone =
    if has gone n then held_from (n + 1) later gone else record { ticket = n; debt = debt } ∷ held_from (n + 1) later gone

-- the debt comes out as this, if it does (profile)
abbrev pub end_of : Held → List Outcome → List End
end_of x outcomes = map (λ outcome. record { ticket = x.ticket; outcome = outcome }) outcomes

-- what an answer of this meaning ends: the debt that it is about, if that is still held (profile)
abbrev pub ends_by_meaning : Option Meaning → Option Held → List End
ends_by_meaning says None = []
ends_by_meaning None (Some x) = []
ends_by_meaning (Some says) (Some x) = end_of x (outcome_by says x.debt)

-- what a reply ends, if it answers this command (profile)
abbrev pub ends_by_answer : List Held → ℕ → Option (ℕ × Ask) → List End
ends_by_answer held code None = []
ends_by_answer held code (Some command) = ends_by_meaning (meaning command.1.verb code) (find (is_at command.1.ticket) held)

-- what an article that is not there ends (profile)
abbrev pub ends_by_loss : Handing → Option Held → List End
ends_by_loss handing None = []
ends_by_loss handing (Some x) = end_of x (loss_of handing x.debt)

-- the debts held come back, in the order offered (profile)
abbrev pub backs : List Held → List End
backs held = map (λ x. record { ticket = x.ticket; outcome = Back x.debt }) held

-- and they do if there is a reason to close (profile)
abbrev pub ends_at_close : Option Reason → List Held → List End
ends_at_close None held = []
ends_at_close (Some reason) held = backs held

-- the key of the debt held that this command is about (profile)
abbrev pub number_asked : List Held → Option Ask → Option ℕ
number_asked held None = None
number_asked held (Some ask) = option_map (λ (x : Held). x.debt.0) (find (is_at ask.ticket) held)

-- and that is the first without an answer, if there is a reason to close (profile)
abbrev pub unanswered_at_close : Option Reason → List Held → List Ask → Option ℕ
unanswered_at_close None held asks = None
unanswered_at_close (Some reason) held asks = number_asked held (slice_get asks 0)

-- what an answer of this meaning makes wanted: the article, after 238 (RFC 4644, section 2.4)
abbrev pub wants_by_meaning : Option Meaning → Option Held → List Want
wants_by_meaning None x = []
wants_by_meaning (Some Wanted) None = []
wants_by_meaning (Some Wanted) (Some x) = want_of x ∷ []
wants_by_meaning (Some SendBlock) x = []
wants_by_meaning (Some Later) x = []
wants_by_meaning (Some (Final code)) x = []

-- what a reply makes wanted, if it answers this command (RFC 4644, section 2.4)
abbrev pub wants_by_answer : List Held → ℕ → Option (ℕ × Ask) → List Want
wants_by_answer held code None = []
wants_by_answer held code (Some command) = wants_by_meaning (meaning command.1.verb code) (find (is_at command.1.ticket) held)

-- Which debts came out and as what, in order; which articles were ever wanted, in order; for which of these wants, by their
-- tickets, one was handed in (profile).
pub record Story : Type 0 where
  pub ends : List End
  pub wants : List Want
  pub handed : List ℕ

-- the debts held, in the order offered: each that was accepted and has not come out (profile)
abbrev pub held_in : List Event → Story → List Held
held_in h story = held_from 0 (accepted h) (ended_tickets story.ends)

-- the first want of that key for which no article was handed in, with its ticket (profile)
abbrev pub first_want : Story → ℕ → Option (ℕ × Want)
first_want story number = first_left (is_of number) story.handed 0 story.wants

-- the debt held that this want is about (profile)
abbrev pub held_wanting : List Event → Story → ℕ → Option Held
held_wanting h story number = held_for (held_in h story) (option_map (λ (want : ℕ × Want). want.1) (first_want story number))

-- the story, with these debts that came out as well (profile)
abbrev pub with_ends : Story → List End → Story
with_ends story more = record story { ends = story.ends ++ more }

-- a debt that is accepted now (profile)
abbrev pub newcomer : List Event → Owing → Held
newcomer h debt = record { ticket = length (accepted h); debt = debt }

-- what an article handed in for a debt puts out (RFC 4644, section 2.5; RFC 3977, section 6.3.2)
abbrev pub puts_article : (streaming : Bool) → Handing → Option Held → List Command
puts_article streaming (Sendable block) None = []
puts_article streaming (Sendable block) (Some x) = Asks (ask_with streaming x block) ∷ []
puts_article streaming Gone x = []
puts_article streaming Unsendable x = []

-- what an answer of this meaning puts out: the block, after 335 (RFC 3977, section 6.3.2)
abbrev pub puts_block : Option Meaning → Ask → List Command
puts_block None ask = []
puts_block (Some Wanted) ask = []
puts_block (Some SendBlock) ask = Asks (block_of ask) ∷ []
puts_block (Some Later) ask = []
puts_block (Some (Final code)) ask = []

-- what a reply puts out, if it answers this command (RFC 3977, section 6.3.2)
abbrev pub puts_answer : ℕ → Option (ℕ × Ask) → List Command
puts_answer code None = []
puts_answer code (Some command) = puts_block (meaning command.1.verb code) command.1

-- a good greeting puts MODE STREAM out, if streaming is set (RFC 4644, section 2.3)
abbrev pub puts_greeting : (streaming : Bool) → Phase → ℕ → List Command
puts_greeting streaming Greeting code = if is_welcome code && streaming then ModeStream ∷ [] else []
puts_greeting streaming Asking code = []
puts_greeting streaming Streaming code = []
puts_greeting streaming OneByOne code = []
puts_greeting streaming Leaving code = []

-- these commands are put out, in order (profile)
abbrev pub with_puts : List Command → List Event → List Event
with_puts [] h = h
with_puts (command ∷ commands) h = with_puts commands (Put command ∷ h)

module _ (options : Options) where
  -- whether an article is wanted as soon as its debt is accepted: in IHAVE mode, and while checks are off (RFC 4644, section
  -- 2.5; innfeed.conf(5), no-check-high)
  abbrev pub wants_at_once : List Event → Bool
  wants_at_once h = not (is_streaming (phase options h) && checks options h)

  -- what an event adds to the story (profile)
  abbrev pub story_after : List Event → Story → Event → Story
  story_after h story (Offered debt) =
      if wants_at_once h then record story { wants = story.wants ++ want_of (newcomer h debt) ∷ [] } else story
  story_after h story (Came reply) = record {
    ends = (story.ends ++ ends_by_answer (held_in h story) reply.code (answered_ask options h reply))
        ++ ends_at_close (closes options h (Came reply)) (held_in h story);
    wants = story.wants ++ wants_by_answer (held_in h story) reply.code (answered_ask options h reply);
    handed = story.handed;
  }
  story_after h story (Handed number handing) = record {
    ends = story.ends ++ ends_by_loss handing (held_wanting h story number);
    wants = story.wants;
    handed = with_ticket (first_want story number) story.handed;
  }
  story_after h story (Faulted fault) = with_ends story (ends_at_close (closes options h (Faulted fault)) (held_in h story))
  story_after h story (Tick now) = with_ends story (ends_at_close (closes options h (Tick now)) (held_in h story))
  story_after h story Broke = with_ends story (ends_at_close (closes options h Broke) (held_in h story))
  story_after h story e = story

  -- what became of the debts of a transcript, and of the articles wanted (profile)
  unfoldable pub story : List Event → Story
  story [] = record { ends = []; wants = []; handed = [] }
  story (e ∷ h) = story_after h (story h) e

  -- the debts that came out, in order (profile)
  abbrev pub ends : List Event → List End
  ends h = (story h).ends

  -- what came out, in order (profile)
  abbrev pub outcomes : List Event → List Outcome
  outcomes h = map (λ x. x.outcome) (ends h)

  -- the debts held, in the order offered (profile)
  abbrev pub held : List Event → List Held
  held h = held_in h (story h)

  -- the articles wanted for which none was handed in, in the order in which they came to be wanted (profile)
  abbrev pub wanted : List Event → List Want
  wanted h = left_from 0 (story h).wants (story h).handed

  -- the key of the debt whose command was the first without an answer when the connection closed; none while it is
  -- open, and if each command had its answer (profile)
  abbrev pub first_unanswered : List Event → Option ℕ
  first_unanswered [] = None
  first_unanswered (e ∷ h) =
      if is_some (reason options h) then first_unanswered h
      else unanswered_at_close (closes options h e) (held h) (window options h)

  -- what an event puts out at once, apart from QUIT (RFC 4644, section 2; RFC 3977, section 6.3.2)
  abbrev pub puts : List Event → Event → List Command
  puts h (Offered debt) = if wants_at_once h then [] else Asks (check_of (newcomer h debt)) ∷ []
  puts h (Came reply) = puts_greeting options.streaming (phase options h) reply.code ++ puts_answer reply.code (answered_ask options h reply)
  puts h (Handed number handing) = puts_article (is_streaming (phase options h)) handing (held_wanting h (story h) number)
  puts h e = []

  -- QUIT is due if the connection was asked to quit, a mode is agreed, nothing is held, and it is not closed (RFC
  -- 3977, section 5.4)
  abbrev pub is_quit_due : List Event → Bool
  is_quit_due h = is_leaving h && (is_mode (phase options h) && (is_empty (held h) && is_none (reason options h)))

  -- QUIT is put out if it is due (RFC 3977, section 5.4)
  abbrev pub with_quit : List Event → List Event
  with_quit h = if is_quit_due h then Put Quit ∷ h else h

  -- the transcript after an event that comes from outside, with what it puts out (profile)
  unfoldable pub after : List Event → Event → List Event
  after h e = with_quit (with_puts (puts h e) (e ∷ h))

  -- the same, but once closed the event is ignored (profile)
  abbrev pub outside : List Event → Event → List Event
  outside h e = if is_some (reason options h) then h else after h e

  -- the transcript after an event that makes nothing due; once closed the event is ignored (profile)
  abbrev pub noted : List Event → Event → List Event
  noted h e = if is_some (reason options h) then h else e ∷ h

  -- the octets put out and not sent; none once closed (profile)
  abbrev pub output : List Event → List ℕ
  output h = if is_some (reason options h) then [] else drop (sent h) (put_octets h)

  -- the first want of that key, if an article of it is wanted (profile)
  abbrev pub needed : List Event → ℕ → Option (ℕ × Want)
  needed h number = if is_some (reason options h) then None else first_want (story h) number

  -- the key whose article has been wanted longest; none once closed (profile)
  abbrev pub need : List Event → Option ℕ
  need h = if is_some (reason options h) then None else option_map (λ (want : Want). want.key) (slice_get (wanted h) 0)

  -- the debt whose article has been wanted longest; none once closed (profile)
  abbrev pub first_wanted : List Event → Option Owing
  first_wanted h =
      if is_some (reason options h) then None
      else option_map (λ (x : Held). x.debt) (held_for (held h) (slice_get (wanted h) 0))
