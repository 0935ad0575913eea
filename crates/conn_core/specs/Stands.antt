-- When a connection stands for a transcript.
use Rattle.std.specs.Prelude.{◌≡◌, ℕ, ◌+◌, ◌≤◌, ◌<◌, Bool, true, false, Option, None, Some, is_some, if◌then◌else◌}
use Rattle.std.specs.Prelude.{List, [], ◌∷◌, length, drop, find, take, map, nat_lt, option_map, slice_get}
use Rattle.std.specs.List.{AllByRecursion}
use Rattle.reply_reader.specs.Stream.{Held as Reading, Working, IsShort}
use Rattle.conn_core.specs.Checks.{are_off}
use Rattle.conn_core.specs.Used.{times}
use Rattle.conn_core.specs.Commands.{Ask, Held, Want, is_at}
use Rattle.conn_core.specs.State.{Holding, State, awaited_of, kept_blocks, untold}
use Rattle.conn_core.specs.History.{Event, Offered, Put, Handed, Sent, Taken, accepted, put_octets, sent, taken, is_leaving, phase, room, reason, window, counted, stirred, quiet, held, wanted, outcomes, output, needed, after, outside, noted}
use Rattle.conn_core.specs.History.{has_answered, first_unanswered}
use Rattle.conn_core.specs.declared.options.Options.{Options}
use Rattle.conn_core.specs.declared.outcome.Outcome.{Outcome}
use Rattle.conn_core.specs.declared.ready.Ready.{Ready}
use Rattle.conn_core.specs.declared.ready.Ready.TheVariants.{Yes, Busy as NotNow, Shut}
use Rattle.conn_core.specs.declared.offer.OfferFault.{OfferFault}
use Rattle.conn_core.specs.declared.offer.OfferFault.TheVariants.{Busy, Closed, NoMemory}
use Rattle.conn_core.specs.declared.article.ArticleFault.{ArticleFault}
use Rattle.conn_core.specs.declared.article.ArticleFault.TheVariants.{NotNeeded, NoMemory as NoArticleMemory}

-- Shut if closed or asked to quit, otherwise Yes if there is room (profile)
abbrev pub ready_when : (closed quitting has_room : Bool) → Ready
ready_when true quitting has_room = Shut
ready_when false true has_room = Shut
ready_when false false true = Yes
ready_when false false false = NotNow

-- whether a debt can be offered: there is room while fewer are held than the mode allows (innfeed.conf(5),
-- max-queue-size)
abbrev pub ready_of : Options → List Event → Ready
ready_of options h = ready_when (is_some (reason options h)) (is_leaving h) (nat_lt (length (held options h)) (room options (phase options h)))

-- when each refusal of a debt comes (profile)
abbrev pub Refuses : OfferFault → Ready → Type 0
Refuses Busy ready = ready ≡ NotNow
Refuses Closed ready = ready ≡ Shut
Refuses NoMemory ready = ready ≡ Yes

-- when each refusal of an article comes (profile)
abbrev pub RefusesArticle : ArticleFault → Option (ℕ × Want) → Type 0
RefusesArticle NotNeeded want = want ≡ None
RefusesArticle NoArticleMemory want = is_some want ≡ true

-- whether a call may bring this event: a debt if there is room, an article that is wanted, a count of octets that are
-- put out, an outcome that is left; what comes from outside always, and a command never (profile)
abbrev pub Allows : (options : Options) (h : List Event) → Event → Type 0
Allows options h (Offered debt) = ready_of options h ≡ Yes
Allows options h (Put command) = ⊥
Allows options h (Handed number handing) = is_some (needed options h number) ≡ true
Allows options h (Sent count) = count ≤ length (output options h)
Allows options h Taken = taken h < length (outcomes options h)
Allows options h e = Unit {0}

-- the transcript after a call that brings this event (profile)
abbrev pub transcript_after : (options : Options) (h : List Event) → Event → List Event
transcript_after options h (Offered debt) = after options h (Offered debt)
transcript_after options h (Handed number handing) = after options h (Handed number handing)
transcript_after options h (Sent count) = noted options h (Sent count)
transcript_after options h Taken = Taken ∷ h
transcript_after options h e = outside options h e

-- the transcripts that calls can make (profile)
pub data Arises (options : Options) : List Event → Type 0 where
  Starts : Arises options []
  Goes_on : (h : List Event) (e : Event) → Arises options h → Allows options h e
      → Arises options (transcript_after options h e)

-- whether the debt held at a command's ticket has the message-id that the command names (RFC 4644, sections 2.4 and
-- 2.5)
abbrev pub IsOfDebt : List Held → Ask → Type 0
IsOfDebt held ask = option_map (λ (x : Held). x.debt.1.1) (find (is_at ask.ticket) held) ≡ Some ask.id

-- whether the debt held at a want's ticket has the key of the want (profile)
abbrev pub IsWantOfDebt : List Held → Want → Type 0
IsWantOfDebt held want = option_map (λ (x : Held). x.debt.0) (find (is_at want.ticket) held) ≡ Some want.key

-- how many of these commands and wants are about the debt at a ticket (profile)
abbrev pub claims : List Ask → List Want → (ticket : ℕ) → ℕ
claims asks wants ticket = times (map (λ (ask : Ask). ask.ticket) asks) ticket
    + times (map (λ (want : Want). want.ticket) wants) ticket

-- each command without an answer is about a debt held, and names its message-id; each want is about a debt held, and
-- has its key; no debt has two commands without an answer, two wants, or one of each; and none is about a debt that
-- is still to be accepted (profile)
pub record AreTied (held : List Held) (asks : List Ask) (wants : List Want) (accepted : ℕ) : Type 0 where
  pub named : AllByRecursion (IsOfDebt held) asks
  pub numbered : AllByRecursion (IsWantOfDebt held) wants
  pub once : (ticket : ℕ) → claims asks wants ticket ≤ 1
  pub below : (ticket : ℕ) → accepted ≤ ticket → claims asks wants ticket ≡ 0

-- the state agrees with the transcript while the connection is open (profile)
pub record MatchesWhileOpen (options : Options) (s : State) (h : List Event) : Type 0 where
  pub phase_is : s.phase ≡ phase options h
  pub held_is : s.held ≡ held options h
  pub window_is : s.window ≡ map awaited_of (window options h)
  pub blocks_is : s.blocks ≡ kept_blocks (window options h)
  pub wanted_is : s.wanted ≡ wanted options h
  pub output_is : s.output ≡ drop (sent h) (put_octets h)
  pub sent_few : sent h ≤ length (put_octets h)
  pub stirred_is : s.stirred ≡ stirred options h
  pub quiet_is : s.quiet ≡ quiet options h
  pub tied : AreTied s.held (window options h) s.wanted s.accepted

-- the state agrees with the transcript (profile)
pub record Matches (options : Options) (s : State) (h : List Event) : Type 0 where
  pub options_is : s.options ≡ options
  pub closed_is : s.closed ≡ reason options h
  pub unanswered_is : s.unanswered ≡ first_unanswered options h
  pub quitting_is : s.quitting ≡ is_leaving h
  pub accepted_is : s.accepted ≡ length (accepted h)
  pub recent_is : s.recent ≡ take options.check_filter (counted options h)
  pub off_is : s.off ≡ are_off options (counted options h)
  pub answered_is : s.has_answered ≡ has_answered options h
  pub untold_is : untold s ≡ drop (taken h) (outcomes options h)
  pub taken_few : taken h ≤ length (outcomes options h)
  pub while_open : reason options h ≡ None → MatchesWhileOpen options s h

-- what is held back of a reply: nothing once closed, otherwise what waits in the reader, with no whole line and not
-- too much for one (RFC 3977, section 3.1)
abbrev pub HoldsBack : (closed : Bool) → Reading → List ℕ → Type 0
HoldsBack true reader unread = unread ≡ []
HoldsBack false reader unread = (reader ≡ Working unread) × IsShort unread

-- the octets held back after a transcript; none once closed (profile)
abbrev pub left_behind : Options → List ℕ → List Event → List ℕ
left_behind options unread h = if is_some (reason options h) then [] else unread

-- A connection with these options stands for this transcript and holds these octets back: calls can have made the
-- transcript, and the connection holds what it says (profile).
unfoldable pub StandsFor : Options → Holding → (unread : List ℕ) → List Event → Type 0
StandsFor options conn unread h =
    Arises options h × HoldsBack (is_some (reason options h)) conn.reader unread × Matches options conn.state h

-- an outcome is taken, the first that was not; or all were taken, and nothing changes (profile)
abbrev pub Takes : Options → (unread : List ℕ) → List Event → Option Outcome → Holding → Type 0
Takes options unread h None new = (taken h ≡ length (outcomes options h)) × StandsFor options new unread h
Takes options unread h (Some outcome) new =
    (slice_get (outcomes options h) (taken h) ≡ Some outcome) × StandsFor options new unread (Taken ∷ h)
