-- From a step of the state to the transcript, as the public calls promise it.
use Rattle.std.proofs.Common.{◌≡◌, ℕ, suc, zero, ◌+◌, ◌<◌, ◌≤◌, Bool, true, false, List, [], ◌∷◌, length, refl, sym, ap}
use Rattle.std.proofs.Common.{subst, ◌∙◌, arith, Option, Some, None, find, drop, take, add-one}
use Rattle.std.specs.Prelude.{is_some, option_map, slice_get, if◌then◌else◌, not}
use Rattle.std.specs.List.{AllByRecursion}
use Rattle.std.proofs.lemmas.List.{length-drop}
use Rattle.reply_reader.specs.Stream.{Given}
use Rattle.reply_reader.specs.declared.fault.ReplyFault.{ReplyFault}
use Rattle.ledger_core.specs.State.{Owing}
use Rattle.conn_core.specs.Commands.{Handing, Held, Want, held_for, is_at, is_of}
use Rattle.conn_core.specs.History.{Event, Offered, Came, Faulted, Handed, Sent, Tick, Broke, Leave, Taken, accepted}
use Rattle.conn_core.specs.History.{taken, is_leaving, reason, checks, counted, story, outcomes, after, output, needed}
use Rattle.conn_core.specs.History.{need, window, has_answered, first_unanswered, first_wanted}
use Rattle.conn_core.specs.State.{State, untold, output_of}
use Rattle.conn_core.specs.Stands.{Arises, AreTied, IsWantOfDebt, MatchesWhileOpen, Matches, ready_of, ready_when}
use Rattle.conn_core.specs.Machine.{fresh, offered, on_reply, on_fault, handed, ticked, close, asked_to_quit, sent_off, TakesOne, ready_at}
use Rattle.conn_core.specs.declared.options.Options.{Options}
use Rattle.conn_core.specs.declared.ready.Ready.TheVariants.{Yes}
use Rattle.conn_core.specs.declared.reason.Reason.{Reason}
use Rattle.conn_core.specs.declared.reason.Reason.TheVariants.{Broken}
use Rattle.conn_core.specs.declared.outcome.Outcome.{Outcome}
use Rattle.conn_core.proofs.Modes.{arises-plain}
use Rattle.conn_core.proofs.Steps.{first_reason-none, stands_offered, unanswered-same}
use Rattle.conn_core.proofs.Clock.{stands_ticked}
use Rattle.conn_core.proofs.Replies.{stands_came}
use Rattle.conn_core.proofs.Articles.{stands_handed, stands_faulted, stands_broke, stands_leave, stands_sent, wanted_first}

-- what is left of a list
drop-first : {A : Type 0} (n : ℕ) (xs : List A) (x : A) (ys : List A) → drop n xs ≡ x ∷ ys → (slice_get xs n ≡ Some x) × (drop (n + 1) xs ≡ ys) × (n < length xs)
drop-first zero [] x ys e = cc
drop-first (suc n) [] x ys e = cc
drop-first zero (z ∷ zs) x ys e = let a : z ≡ x = cc in let b : zs ≡ ys = cc in (ap Some a, b, omega arith)
drop-first (suc n) (z ∷ zs) x ys e = let r = drop-first n zs x ys e in let q = rw (add-one n) at r.1 in (r.0, rw (add-one (suc n)) q, omega arith)

ready-stays : (b q has_room : Bool) → ready_when b q has_room ≡ Yes → q ≡ false
ready-stays true q has_room e = cc
ready-stays false true has_room e = cc
ready-stays false false has_room e = refl

-- a new connection stands for the empty transcript
pub fresh-stands : (options : Options) → Matches options (fresh options) []
unfolding story
fresh-stands options = record {
  options_is = refl;
  closed_is = refl;
  unanswered_is = refl;
  quitting_is = refl;
  accepted_is = refl;
  recent_is = nothing options.check_filter;
  off_is = refl;
  answered_is = refl;
  untold_is = refl;
  taken_few = omega arith;
  while_open = λ _. record {
    phase_is = refl;
    held_is = refl;
    window_is = refl;
    blocks_is = refl;
    wanted_is =
        refl;
    output_is = refl;
    sent_few = omega arith;
    stirred_is = refl;
    quiet_is = refl;
    tied =
        record { named = tt; numbered = tt; once = λ t. omega arith; below = λ t high. refl };
  };
}
  where
    nothing : (n : ℕ) → (let none : List Bool = [] in none ≡ take n none)
    nothing zero = refl
    nothing (suc n) = refl

-- a debt is accepted
pub offered-stands : (options : Options) (s : State) (h : List Event) (debt : Owing) → Matches options s h → reason options h ≡ None → ready_of options h ≡ Yes
    → Matches options (offered s debt) (after options h (Offered debt))
offered-stands options s h debt st running is_ready = stands_offered options s h debt st running (ready-stays _ (is_leaving h) _ is_ready)

-- a reply comes in; which calls came before matters, since no IHAVE is awaited in streaming mode
pub on_reply-stands : (options : Options) (s : State) (h : List Event) (reply : Given) → Arises options h → Matches options s h → reason options h ≡ None
    → Matches options (on_reply s reply) (after options h (Came reply))
on_reply-stands options s h reply arises st running = stands_came options s h reply (arises-plain options h arises) st running

-- what comes in is no reply
pub on_fault-stands : (options : Options) (s : State) (h : List Event) (fault : ReplyFault) → Matches options s h → reason options h ≡ None
    → Matches options (on_fault s fault) (after options h (Faulted fault))
on_fault-stands options s h fault st running = stands_faulted options s h fault st running

-- an article is handed in
pub handed-stands : (options : Options) (s : State) (h : List Event) (number : ℕ) (handing : Handing) → Matches options s h → reason options h ≡ None
    → Matches options (handed s number handing) (after options h (Handed number handing))
handed-stands options s h number handing st running = stands_handed options s h number handing st running

-- a tick
pub ticked-stands : (options : Options) (s : State) (h : List Event) (now : ℕ) → Matches options s h → reason options h ≡ None
    → Matches options (ticked s now) (after options h (Tick now))
ticked-stands options s h now st running = stands_ticked options s h now st running

-- the connection broke
pub broke-stands : (options : Options) (s : State) (h : List Event) → Matches options s h → reason options h ≡ None
    → Matches options (close Broken s) (after options h Broke)
broke-stands options s h st running = stands_broke options s h st running

-- the connection is asked to quit
pub quit_if_due-stands : (options : Options) (s : State) (h : List Event) → Matches options s h → reason options h ≡ None
    → Matches options (asked_to_quit s) (after options h Leave)
quit_if_due-stands options s h st running = stands_leave options s h st running

-- octets are sent
pub sent-stands : (options : Options) (s : State) (h : List Event) (count : ℕ) → Matches options s h → reason options h ≡ None → count ≤ length s.output
    → Matches options (sent_off s count) (Sent count ∷ h)
sent-stands options s h count st running few = stands_sent options s h count st running few

-- only what is still to be taken has changed
told-stands : (options : Options) (old new : State) (o : Option Outcome) (h g : List Event) → Matches options old h → TakesOne old o new
    → reason options g ≡ reason options h → is_leaving g ≡ is_leaving h → accepted g ≡ accepted h → counted options g ≡ counted options h
    → has_answered options g ≡ has_answered options h → first_unanswered options g ≡ first_unanswered options h
    → untold new ≡ drop (taken g) (outcomes options g) → taken g ≤ length (outcomes options g) → (MatchesWhileOpen options new h → MatchesWhileOpen options new g)
    → Matches options new g
told-stands options old new o h g st t same_reason same_leaving same_accepted same_counted same_answered same_unanswered
    told few open_same =
    let same = t.others in
    record {
      options_is = ap (λ (x : State). x.options) same ∙ st.options_is;
      closed_is = ap (λ (x : State). x.closed) same ∙ st.closed_is ∙ sym same_reason;
      unanswered_is = ap (λ (x : State). x.unanswered) same ∙ st.unanswered_is ∙ sym same_unanswered;
      quitting_is = ap (λ (x : State). x.quitting) same ∙ st.quitting_is ∙ sym same_leaving;
      accepted_is = ap (λ (x : State). x.accepted) same ∙ st.accepted_is ∙ ap length (sym same_accepted);
      recent_is = rw same_counted (ap (λ (x : State). x.recent) same ∙ st.recent_is);
      off_is = rw same_counted (ap (λ (x : State). x.off) same ∙ st.off_is);
      answered_is = ap (λ (x : State). x.has_answered) same ∙ st.answered_is ∙ sym same_answered;
      untold_is = told;
      taken_few = few;
      while_open = λ e.
          let r : reason options h ≡ None = sym same_reason ∙ e in
          let w = st.while_open r in
          open_same (record {
            phase_is = ap (λ (x : State). x.phase) same ∙ w.phase_is;
            held_is = t.held_open (st.closed_is ∙ r) ∙ w.held_is;
            window_is = ap (λ (x : State). x.window) same ∙ w.window_is;
            blocks_is = ap (λ (x : State). x.blocks) same ∙ w.blocks_is;
            wanted_is = ap (λ (x : State). x.wanted) same ∙ w.wanted_is;
            output_is = ap (λ (x : State). x.output) same ∙ w.output_is;
            sent_few = w.sent_few;
            stirred_is = ap (λ (x : State). x.stirred) same ∙ w.stirred_is;
            quiet_is = ap (λ (x : State). x.quiet) same ∙ w.quiet_is;
            tied = subst (λ (x : State). AreTied new.held (window options h) x.wanted x.accepted) (sym same)
                (subst (λ hs. AreTied hs (window options h) old.wanted old.accepted)
                (sym (t.held_open (st.closed_is ∙ r))) w.tied);
          });
    }

-- an outcome is taken: the first that was not
pub taken-stands : (options : Options) (old new : State) (h : List Event) (outcome : Outcome) → Matches options old h → TakesOne old (Some outcome) new
    → (slice_get (outcomes options h) (taken h) ≡ Some outcome) × Matches options new (Taken ∷ h)
unfolding story
taken-stands options old new h outcome st t =
    let first = drop-first (taken h) (outcomes options h) outcome (untold new) (sym st.untold_is ∙ t.first) in (
      first.0,
      told-stands options old new (Some outcome) h (Taken ∷ h) st t (first_reason-none _) refl refl refl refl
          (unanswered-same options h Taken refl) (sym first.1) (omega arith)
          (λ w. record {
            phase_is = w.phase_is;
            held_is = w.held_is;
            window_is = w.window_is;
            blocks_is = w.blocks_is;
            wanted_is = w.wanted_is;
            output_is = w.output_is;
            sent_few = w.sent_few;
            stirred_is = w.stirred_is;
            quiet_is = w.quiet_is;
            tied = w.tied;
          }),
    )

-- or all were taken
pub none_taken-stands : (options : Options) (old new : State) (h : List Event) → Matches options old h → TakesOne old None new
    → (taken h ≡ length (outcomes options h)) × Matches options new h
none_taken-stands options old new h st t =
    let told : untold new ≡ drop (taken h) (outcomes options h) = sym t.first ∙ st.untold_is in
    let nothing : drop (taken h) (outcomes options h) ≡ [] = sym told ∙ t.none_left refl in
    let few = st.taken_few in (
      omega (arith, length-drop (taken h) (outcomes options h), ap length nothing),
      told-stands options old new None h h st t refl refl refl refl refl refl told few (λ w. w),
    )

-- why the state is closed is what the transcript says
pub closed-is : (options : Options) (s : State) (h : List Event) → Matches options s h → s.closed ≡ reason options h
closed-is options s h st = st.closed_is

ready-step : (options : Options) (s : State) (h : List Event) (r : Option Reason) → reason options h ≡ r → Matches options s h → ready_at s ≡ ready_of options h
ready-step options s h None e st = let o = st.while_open e in rw (st.closed_is, st.quitting_is, st.options_is, o.phase_is, o.held_is) refl
ready-step options s h (Some why) e st = rw (st.closed_is, e) refl

pub ready-is : (options : Options) (s : State) (h : List Event) → Matches options s h → ready_at s ≡ ready_of options h
ready-is options s h st = ready-step options s h (reason options h) refl st

output-step : (options : Options) (s : State) (h : List Event) (r : Option Reason) → reason options h ≡ r → Matches options s h → output_of s ≡ output options h
output-step options s h None e st = let o = st.while_open e in rw (st.closed_is, e, o.output_is) refl
output-step options s h (Some why) e st = rw (st.closed_is, e) refl

pub output-is : (options : Options) (s : State) (h : List Event) → Matches options s h → output_of s ≡ output options h
output-is options s h st = output-step options s h (reason options h) refl st

pub checks-is : (options : Options) (s : State) (h : List Event) → Matches options s h → not s.off ≡ checks options h
checks-is options s h st = ap not st.off_is

pub unanswered-is : (options : Options) (s : State) (h : List Event) → Matches options s h
    → s.unanswered ≡ first_unanswered options h
unanswered-is options s h st = st.unanswered_is

pub answered-is : (options : Options) (s : State) (h : List Event) → Matches options s h
    → s.has_answered ≡ has_answered options h
answered-is options s h st = st.answered_is

-- the debt that the first want is about
abbrev first_held : State → Option Owing
first_held s =
    if is_some s.closed then None
    else option_map (λ (x : Held). x.debt) (held_for s.held (slice_get s.wanted 0))

first_wanted-step : (options : Options) (s : State) (h : List Event) (r : Option Reason) → reason options h ≡ r
    → Matches options s h → first_held s ≡ first_wanted options h
first_wanted-step options s h None e st = let o = st.while_open e in rw (st.closed_is, e, o.held_is, o.wanted_is) refl
first_wanted-step options s h (Some why) e st = rw (st.closed_is, e) refl

pub first_wanted-is : (options : Options) (s : State) (h : List Event) → Matches options s h
    → first_held s ≡ first_wanted options h
first_wanted-is options s h st = first_wanted-step options s h (reason options h) refl st

number-step : (held : List Held) (wants : List Want) → AllByRecursion (IsWantOfDebt held) wants
    → option_map (λ (debt : Owing). debt.0) (option_map (λ (x : Held). x.debt) (held_for held (slice_get wants 0)))
    ≡ option_map (λ (want : Want). want.key) (slice_get wants 0)
number-step held [] all = refl
number-step held (want ∷ wants) all = twice (find (is_at want.ticket) held) all.0
  where
    twice : (x : Option Held) → option_map (λ (y : Held). y.debt.0) x ≡ Some want.key
        → option_map (λ (debt : Owing). debt.0) (option_map (λ (y : Held). y.debt) x) ≡ Some want.key
    twice None e = cc
    twice (Some x) e = e

wanted_number-step : (options : Options) (s : State) (h : List Event) (r : Option Reason) → reason options h ≡ r
    → Matches options s h
    → option_map (λ (debt : Owing). debt.0) (first_wanted options h) ≡ need options h
wanted_number-step options s h None e st =
    let o = st.while_open e in
    let tied = o.tied.numbered in
    rw (e, ← o.held_is, ← o.wanted_is) (number-step s.held s.wanted tied)
wanted_number-step options s h (Some why) e st = rw e refl

-- the debt whose article has been wanted longest has the key that is needed
pub wanted_number-is : (options : Options) (s : State) (h : List Event) → Matches options s h
    → option_map (λ (debt : Owing). debt.0) (first_wanted options h) ≡ need options h
wanted_number-is options s h st = wanted_number-step options s h (reason options h) refl st

need-step : (options : Options) (s : State) (h : List Event) (r : Option Reason) → reason options h ≡ r → Matches options s h
    → (if is_some s.closed then None else option_map (λ (want : Want). want.key) (slice_get s.wanted 0)) ≡ need options h
need-step options s h None e st = let o = st.while_open e in rw (st.closed_is, e, o.wanted_is) refl
need-step options s h (Some why) e st = rw (st.closed_is, e) refl

pub need-is : (options : Options) (s : State) (h : List Event) → Matches options s h
    → (if is_some s.closed then None else option_map (λ (want : Want). want.key) (slice_get s.wanted 0)) ≡ need options h
need-is options s h st = need-step options s h (reason options h) refl st

needed-step : (options : Options) (s : State) (h : List Event) (number : ℕ) (r : Option Reason) → reason options h ≡ r → Matches options s h
    → (if is_some s.closed then None else find (is_of number) s.wanted) ≡ option_map (λ (want : ℕ × Want). want.1) (needed options h number)
needed-step options s h number None e st = rw (st.closed_is, e) (wanted_first options s h number st e)
needed-step options s h number (Some why) e st = rw (st.closed_is, e) refl

-- the want of that key, if its article is wanted
pub needed-is : (options : Options) (s : State) (h : List Event) (number : ℕ) → Matches options s h
    → (if is_some s.closed then None else find (is_of number) s.wanted) ≡ option_map (λ (want : ℕ × Want). want.1) (needed options h number)
needed-is options s h number st = needed-step options s h number (reason options h) refl st
