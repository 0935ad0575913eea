-- What a chain of sends and receipts makes of a transcript.
use Rattle.std.specs.Prelude.{◌≡◌, ◌≤◌, ◌⊎◌, ◌&&◌, ◌+◌, ℕ, Bool, true, false, not}
use Rattle.std.specs.Prelude.{List, [], ◌∷◌, ◌++◌, length, take, Option, None, is_some}
use Rattle.conn_core.specs.History.{Event, Sent, Broke, output, noted, outside, after, reason}
use Rattle.conn_core.specs.Receipt.{Receives, ReceivesSome}
use Rattle.conn_core.specs.declared.options.Options.{Options}
use Rattle.event_loop.specs.Link.{moved, is_wait, Tells}
use Rattle.event_loop.specs.declared.moved.Moved.{Moved}
use Rattle.event_loop.specs.declared.moved.Moved.TheVariants.{Done, Later, Closed, Fault}
use Rattle.event_loop.specs.declared.turn.Driven.{Driven}
use Rattle.event_loop.specs.declared.turn.Driven.TheVariants.{Idle, Turns, Shut}

-- the transcript after a send that did this: its octets count as sent, or the connection broke
abbrev pub after_send : Options → List Event → Moved → List Event
after_send options h (Done n) = noted options h (Sent n)
after_send options h Later = h
after_send options h Closed = outside options h Broke
after_send options h Fault = outside options h Broke

-- the octets held back of a reply after it
abbrev pub left_by : Moved → List ℕ → List ℕ
left_by (Done n) unread = unread
left_by Later unread = unread
left_by Closed unread = []
left_by Fault unread = []

-- Octets that came were received; or memory was refused after some of the whole replies, and the connection broke.
pub data Input (options : Options) (waiting : List ℕ) (h : List Event) : List ℕ → List Event → Type 0 where
  Is_received : (later : List Event) (left : List ℕ)
      → Receives options waiting h later left → Input options waiting h left later
  Is_refused : (some : List Event)
      → ReceivesSome options waiting h some → Input options waiting h [] (after options some Broke)

-- what a receipt that did this makes of a transcript, if these octets came
abbrev pub TakesIn : Options → Moved → (octets : List ℕ) → (unread : List ℕ) → List Event
    → (left : List ℕ) → List Event → Type 0
TakesIn options (Done n) octets unread h left later = Input options (unread ++ octets) h left later
TakesIn options Later octets unread h left later = (left ≡ unread) × (later ≡ h)
TakesIn options Closed octets unread h left later = (left ≡ []) × (later ≡ outside options h Broke)
TakesIn options Fault octets unread h left later = (left ≡ []) × (later ≡ outside options h Broke)

-- one step of a chain, and what the link did in it
pub data Step : Type 0 where
  Send : Moved → Step
  Receipt : Moved → Step

-- whether the last two steps are a send and a receipt that both could not move
abbrev pub is_rest : List Step → Bool
is_rest [] = false
is_rest (Receipt into ∷ Send out ∷ steps) = is_wait out && is_wait into
is_rest (Receipt into ∷ Receipt before ∷ steps) = false
is_rest (Receipt into ∷ []) = false
is_rest (Send out ∷ steps) = false

-- whether the steps are turns, newest first: each a send and then a receipt, with none after a rest
abbrev pub are_turns : List Step → Bool
are_turns [] = true
are_turns (Receipt into ∷ Send out ∷ steps) = not (is_rest steps) && are_turns steps
are_turns (Receipt into ∷ Receipt before ∷ steps) = false
are_turns (Receipt into ∷ []) = false
are_turns (Send out ∷ steps) = false

-- how many receipts are among them: one for each turn
abbrev pub receipts : List Step → ℕ
receipts [] = 0
receipts (Send out ∷ steps) = receipts steps
receipts (Receipt into ∷ steps) = receipts steps + 1

-- Whether a link is asked to take these octets: once if there are some, and this is what came of it; not at all if
-- there are none.
abbrev pub Asks : {L : Type 0} → (takes : L → List ℕ → Moved → L → Type 0) → List ℕ → L → Moved → L → Type 0
Asks takes [] old made new = (made ≡ Later) × (new ≡ old)
Asks takes (octet ∷ octets) old made new = takes old (octet ∷ octets) made new

-- A send of these octets: what the link did, and that it took a prefix of them, as long as it says.
pub record Sends {L : Type 0} (took : L → Option (List ℕ)) (takes : L → List ℕ → Moved → L → Type 0)
    (octets : List ℕ) (old : L) (made : Moved) (new : L) : Type 0 where
  pub asks : Asks takes octets old made new
  pub within : moved made ≤ length octets
  pub told : Tells (took old) (take (moved made) octets) (took new)

-- A receipt with room for `room` octets, and the octets that came: what the link did, and that it gave these.
pub record Gets {L : Type 0} (gave : L → Option (List ℕ)) (gives : L → ℕ → Moved → L → Type 0)
    (room : ℕ) (old : L) (made : Moved) (octets : List ℕ) (new : L) : Type 0 where
  pub asks : gives old room made new
  pub count : length octets ≡ moved made
  pub told : Tells (gave old) octets (gave new)

-- From one transcript, with the octets held back after it, to a later one, by sends and receipts alone, each at most
-- one call of the link; the steps, newest first; and the link before and after them.
pub data Moves {L : Type 0} (took gave : L → Option (List ℕ)) (takes : L → List ℕ → Moved → L → Type 0)
    (gives : L → ℕ → Moved → L → Type 0) (options : Options) (room : ℕ) (unread : List ℕ) (h : List Event) (link : L)
    : List Step → List ℕ → List Event → L → Type 0 where
  None_yet : Moves took gave takes gives options room unread h link [] unread h link
  Sends_on : (steps : List Step) (left : List ℕ) (mid : List Event) (between new : L) (made : Moved)
      → Moves took gave takes gives options room unread h link steps left mid between
      → Sends took takes (output options mid) between made new → gave new ≡ gave between
      → Moves took gave takes gives options room unread h link
      (Send made ∷ steps) (left_by made left) (after_send options mid made) new
  Takes_on : (steps : List Step) (left rest : List ℕ) (mid later : List Event) (between new : L)
      (made : Moved) (octets : List ℕ)
      → Moves took gave takes gives options room unread h link steps left mid between
      → Gets gave gives room between made octets new → took new ≡ took between
      → TakesIn options made octets left mid rest later
      → Moves took gave takes gives options room unread h link (Receipt made ∷ steps) rest later new

-- What an answer says of the steps and of the transcript after them, if `turns` turns were asked for. Shut exactly
-- if there is a reason to close; otherwise Idle exactly if the last turn was a rest, and then the link would give
-- nothing now, and there is nothing to send or the link would take nothing; Turns if all were made and the last was
-- not a rest.
abbrev pub IsAnswered : Options → Driven → (turns : ℕ) → (full dry : Type 0) → List Step → List Event → Type 0
IsAnswered options Idle turns full dry steps later =
    (reason options later ≡ None) × (receipts steps ≤ turns) × (is_rest steps ≡ true)
    × ((output options later ≡ []) ⊎ full) × dry
IsAnswered options Turns turns full dry steps later =
    (reason options later ≡ None) × (receipts steps ≡ turns) × (is_rest steps ≡ false)
IsAnswered options Shut turns full dry steps later =
    (is_some (reason options later) ≡ true) × (receipts steps ≤ turns)
