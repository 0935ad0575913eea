-- The steps of the state of a connection, one for each event. Only the private code cites them; History says what
-- they mean over a whole transcript.
use Rattle.std.specs.Prelude.{◌≡◌, ℕ, ◌+◌, ◌-◌, Bool, true, false, ◌==◌, ◌&&◌, ◌||◌, not, nat_lt, nat_le, Option, Some, None, is_some, is_none, if◌then◌else◌, List, [], ◌∷◌, ◌++◌, length, find, drop, take, option_to_list}
use Rattle.std.specs.Prelude.{option_map, slice_get}
use Rattle.std.specs.Set.{remove_key}
use Rattle.reply_reader.specs.Stream.{Given}
use Rattle.reply_reader.specs.declared.fault.ReplyFault.{ReplyFault}
use Rattle.ledger_core.specs.State.{Owing}
use Rattle.conn_core.specs.Used.{is_empty}
use Rattle.conn_core.specs.Codes.{meaning, is_welcome, ends_all, stray, belongs, names}
use Rattle.conn_core.specs.Checks.{counts, is_high, is_low}
use Rattle.conn_core.specs.Commands.{Ask, ModeStream, Asks, Quit, octets, Handing, Sendable, Gone, Unsendable, Held, is_at, is_of, held_for, want_of, check_of, ask_with, outcome_by, loss_of}
use Rattle.conn_core.specs.History.{is_streaming, is_mode, room, moment}
use Rattle.conn_core.specs.State.{Awaited, State, awaited_of, kept_for, untold}
use Rattle.conn_core.specs.Stands.{ready_when}
use Rattle.conn_core.specs.declared.codes.Verb.{Verb}
use Rattle.conn_core.specs.declared.codes.Verb.TheVariants.{Check, Takethis, Ihave, Block}
use Rattle.conn_core.specs.declared.codes.Meaning.{Meaning}
use Rattle.conn_core.specs.declared.codes.Meaning.TheVariants.{Wanted, SendBlock, Later, Final}
use Rattle.conn_core.specs.declared.phase.Phase.{Phase}
use Rattle.conn_core.specs.declared.phase.Phase.TheVariants.{Greeting, Asking, Streaming, OneByOne, Leaving}
use Rattle.conn_core.specs.declared.options.Options.{Options}
use Rattle.conn_core.specs.declared.ready.Ready.{Ready}
use Rattle.conn_core.specs.declared.reason.Reason.{Reason}
use Rattle.conn_core.specs.declared.reason.Reason.TheVariants.{Greeting as BadGreeting, Reader, Ended, Timeout, Quit as Left}
use Rattle.conn_core.specs.declared.outcome.Outcome.{Outcome}

-- what a new connection holds
abbrev pub fresh : Options → State
fresh options = record {
  options = options;
  phase = Greeting;
  held = [];
  window = [];
  blocks = [];
  wanted = [];
  output = [];
  found = [];
  closed = None;
  unanswered = None;
  quitting = false;
  accepted = 0;
  recent = [];
  off = false;
  has_answered = false;
  stirred = false;
  quiet = None;
}

-- the key of the debt held that this command is about
abbrev pub number_awaited : List Held → Option Awaited → Option ℕ
number_awaited held None = None
number_awaited held (Some awaited) = option_map (λ (x : Held). x.debt.0) (find (is_at awaited.ticket) held)

-- closed for this reason
abbrev pub close : Reason → State → State
close reason s = record s {
  closed = Some reason;
  unanswered = number_awaited s.held (slice_get s.window 0);
  output = [];
}

-- a command about a debt goes out, and its answer is awaited
abbrev pub asked : State → Ask → State
asked s ask = record s {
  window = s.window ++ awaited_of ask ∷ [];
  blocks = s.blocks ++ kept_for ask.verb ask.block;
  output = s.output ++ octets (Asks ask);
}

-- QUIT goes out once nothing is held
abbrev pub quit_if_due : State → State
quit_if_due s =
    if s.quitting && (is_mode s.phase && (is_empty s.held && is_none s.closed))
    then record s { phase = Leaving; output = s.output ++ octets Quit }
    else s

-- the debt at that ticket leaves with what became of it, if something did
abbrev pub parted : State → ℕ → List Outcome → State
parted s ticket [] = s
parted s ticket (outcome ∷ outcomes) = record s { held = remove_key (is_at ticket) s.held; found = s.found ++ outcome ∷ outcomes }

-- a debt is accepted
abbrev pub newly : State → Owing → Held
newly s debt = record { ticket = s.accepted; debt = debt }

abbrev pub wants_or_asks : State → Held → State
wants_or_asks s x = if is_streaming s.phase && not s.off then asked s (check_of x) else record s { wanted = s.wanted ++ want_of x ∷ [] }

abbrev pub offered : State → Owing → State
offered s debt = wants_or_asks (record s { held = s.held ++ newly s debt ∷ []; accepted = s.accepted + 1 }) (newly s debt)

-- the check switch after an answer that counts
abbrev pub are_off_with : Options → Bool → List Bool → Bool
are_off_with options off recent = nat_le options.check_filter (length recent) && (is_high options recent || (not (is_low options recent) && off))

abbrev pub counted_by : State → List Bool → State
counted_by s [] = s
counted_by s (answer ∷ answers) = record s {
  recent = take s.options.check_filter (answer ∷ s.recent);
  off = are_off_with s.options s.off (take s.options.check_filter (answer ∷ s.recent));
}

-- whether a reply names the message-id of this debt
abbrev pub names_debt : (named : Option (List ℕ)) → Option Held → Bool
names_debt named None = false
names_debt named (Some x) = names named x.debt.1.1

-- which of the awaited commands a reply fits: each is about a debt held
abbrev pub fits_awaited : List Held → Given → Awaited → Bool
fits_awaited held reply awaited = belongs reply awaited.verb && names_debt reply.id (find (is_at awaited.ticket) held)

abbrev pub belongs_to_awaited : Given → Awaited → Bool
belongs_to_awaited reply awaited = belongs reply awaited.verb

-- the first of the blocks kept, and the others
abbrev pub first_block : List (List ℕ) → List ℕ
first_block [] = []
first_block (block ∷ blocks) = block

-- an IHAVE with an answer no longer keeps its block
abbrev pub let_go : Verb → List (List ℕ) → List (List ℕ)
let_go Check blocks = blocks
let_go Takethis blocks = blocks
let_go Ihave blocks = drop 1 blocks
let_go Block blocks = blocks

-- the block of an answered IHAVE goes out
abbrev pub sends_block : State → Awaited → List ℕ → State
sends_block s awaited block = record s {
  window = s.window ++ record { verb = Block; ticket = awaited.ticket } ∷ [];
  output = s.output ++ block;
}

-- what an answer makes of the debt that it is about
abbrev pub told : State → Option Meaning → Awaited → List ℕ → Option Held → State
told s None awaited block x = s
told s (Some SendBlock) awaited block x = sends_block s awaited block
told s (Some Wanted) awaited block None = s
told s (Some Wanted) awaited block (Some x) = record s { wanted = s.wanted ++ want_of x ∷ [] }
told s (Some Later) awaited block None = s
told s (Some Later) awaited block (Some x) = parted s awaited.ticket (outcome_by Later x.debt)
told s (Some (Final code)) awaited block None = s
told s (Some (Final code)) awaited block (Some x) = parted s awaited.ticket (outcome_by (Final code) x.debt)

-- a reply once a mode is agreed, and the first of the awaited commands that it fits by this test
abbrev pub answered_by : State → (Awaited → Bool) → ℕ → Option Awaited → State
answered_by s test code None = close (stray code) s
answered_by s test code (Some awaited) =
    told (counted_by (record s {
      window = remove_key test s.window;
      blocks = let_go awaited.verb s.blocks;
      has_answered = true;
    }) (counts code))
    (meaning awaited.verb code) awaited (first_block s.blocks) (find (is_at awaited.ticket) s.held)

-- a reply at the greeting
abbrev pub on_greeting : State → ℕ → State
on_greeting s code =
    if is_welcome code
    then (if s.options.streaming then record s { phase = Asking; output = s.output ++ octets ModeStream } else record s { phase = OneByOne })
    else close (BadGreeting code) s

-- the answer to MODE STREAM
abbrev pub on_mode_answer : State → ℕ → State
on_mode_answer s code =
    if code == 203 then record s { phase = Streaming } else if ends_all code then close (Ended code) s else record s { phase = OneByOne }

abbrev pub dispatch_reply : State → Given → Phase → State
dispatch_reply s reply Greeting = on_greeting s reply.code
dispatch_reply s reply Asking = on_mode_answer s reply.code
dispatch_reply s reply Streaming = answered_by s (fits_awaited s.held reply) reply.code
    (find (fits_awaited s.held reply) s.window)
dispatch_reply s reply OneByOne = answered_by s (belongs_to_awaited reply) reply.code (find (belongs_to_awaited reply) s.window)
dispatch_reply s reply Leaving = close Left s

-- a reply
abbrev pub on_reply : State → Given → State
on_reply s reply = quit_if_due (dispatch_reply (record s { stirred = true }) reply s.phase)

-- what comes in is no reply
abbrev pub on_fault : State → ReplyFault → State
on_fault s fault = close (Reader fault) s

-- an article is handed in for a debt held
abbrev pub handed_for : State → Handing → Option Held → State
handed_for s handing None = s
handed_for s (Sendable block) (Some x) = asked s (ask_with (is_streaming s.phase) x block)
handed_for s Gone (Some x) = parted s x.ticket (loss_of Gone x.debt)
handed_for s Unsendable (Some x) = parted s x.ticket (loss_of Unsendable x.debt)

-- and for the first wanted key of these
abbrev pub handed : State → ℕ → Handing → State
handed s number handing =
    quit_if_due (handed_for (record s { wanted = remove_key (is_of number) s.wanted }) handing (held_for s.held (find (is_of number) s.wanted)))

-- a tick
abbrev pub is_awaiting : State → Bool
is_awaiting s = not (is_mode s.phase) || not (is_empty s.window)

abbrev pub quiet_at : State → ℕ → ℕ
quiet_at s now = moment s.quiet (not s.stirred && is_awaiting s) now

abbrev pub late_or : State → Bool → State
late_or s late = if late then close Timeout s else s

abbrev pub ticked : State → ℕ → State
ticked s now =
    quit_if_due (late_or (record s { stirred = false; quiet = Some (quiet_at s now) })
    (is_awaiting s && nat_le s.options.response_timeout (now - quiet_at s now)))

-- it is to quit
abbrev pub asked_to_quit : State → State
asked_to_quit s = quit_if_due (record s { quitting = true })

-- this many of the first octets of the output count as sent
abbrev pub sent_off : State → ℕ → State
sent_off s count = record s { output = drop count s.output; stirred = nat_lt 0 count || s.stirred }

-- an outcome is taken: nothing changes but what is still to be taken
pub record TakesOne (old : State) (outcome : Option Outcome) (new : State) : Type 0 where
  pub first : untold old ≡ option_to_list outcome ++ untold new
  pub others : new ≡ record old { found = new.found; held = new.held }
  pub held_open : old.closed ≡ None → new.held ≡ old.held
  pub none_left : outcome ≡ None → untold new ≡ []

-- whether a debt can be offered
abbrev pub ready_at : State → Ready
ready_at s = ready_when (is_some s.closed) s.quitting (nat_lt (length s.held) (room s.options s.phase))
