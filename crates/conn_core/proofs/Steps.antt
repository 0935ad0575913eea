-- A connection still stands for its transcript after each event: one that leaves it open, one that closes it, and a
-- command that is put out.
use Rattle.std.proofs.Common.{◌≡◌, ℕ, ◌+◌, ◌≤◌, ◌<◌, Bool, true, false, List, [], ◌∷◌, ◌++◌, length, refl, sym, ap}
use Rattle.std.proofs.Common.{subst, ◌∙◌, arith, Option, Some, None, drop, take, map, length-append}
use Rattle.std.specs.Prelude.{◌&&◌, not, if◌then◌else◌, is_none, is_some, slice_get}
use Rattle.std.specs.List.{flat_map}
use Rattle.std.proofs.lemmas.Bool.{false≢true}
use Rattle.std.proofs.lemmas.List.{drop-append-le, append-nil, map-append}
use Rattle.std.proofs.lemmas.List.Concat.{flat_map-append}
use Rattle.ledger_core.specs.State.{Owing}
use Rattle.conn_core.specs.Used.{is_empty, left_from}
use Rattle.conn_core.specs.Checks.{are_off}
use Rattle.conn_core.specs.Commands.{Ask, Command, ModeStream, Asks, Quit, octets, Held, Want, check_of, want_of}
use Rattle.conn_core.specs.History.{Event, Offered, Put, accepted, asks, put_out, put_octets, sent, taken, is_leaving, is_mode, is_streaming, phase, answered, window, counted, checks, closes, first_reason, reason, story, ends, held, outcomes, End, ended_tickets, backs, newcomer, wants_at_once, is_quit_due, with_quit, with_puts, after}
use Rattle.conn_core.specs.History.{has_answered, first_unanswered, unanswered_at_close, number_asked}
use Rattle.conn_core.specs.State.{State, Awaited, awaited_of, kept_for, kept_blocks, untold}
use Rattle.conn_core.specs.Stands.{AreTied, IsOfDebt, MatchesWhileOpen, Matches, claims}
use Rattle.conn_core.specs.Machine.{close, number_awaited, asked, quit_if_due, offered, newly}
use Rattle.conn_core.specs.declared.phase.Phase.TheVariants.{Leaving}
use Rattle.conn_core.specs.declared.options.Options.{Options}
use Rattle.conn_core.specs.declared.reason.Reason.{Reason}
use Rattle.conn_core.specs.declared.outcome.Outcome.TheVariants.{Back}
use Rattle.conn_core.specs.UsedLaws.{AllBelow, left_from-append}
use Rattle.conn_core.specs.HeldLaws.{held_from-append, tickets}
use Rattle.conn_core.specs.StoryLaws.{answered_below, handed_below, ends_below, ends-offered, tickets-below}
use Rattle.conn_core.proofs.Blocks.{kept-more}
use Rattle.conn_core.proofs.Ties.{accepted-own, accepted-want, tied-accepted, tied-asked, tied-wanted}

pub first_reason-none : (r : Option Reason) → first_reason r None ≡ r
first_reason-none None = refl
first_reason-none (Some reason) = refl

-- while a connection is open, only what was found is still to be taken
pub untold_open : (s : State) → s.closed ≡ None → untold s ≡ s.found
untold_open s e = rw e (append-nil s.found)

-- a longer list without its first items
pub drop-more : {A : Type 0} (n : ℕ) (xs ys : List A) → n ≤ length xs → drop n xs ++ ys ≡ drop n (xs ++ ys)
drop-more n xs ys h = sym (drop-append-le n xs ys h)

-- the octets of one more command
octets-more : (commands : List Command) (command : Command) → flat_map octets (commands ++ command ∷ []) ≡ flat_map octets commands ++ octets command
octets-more commands command = flat_map-append octets commands (command ∷ []) ∙ ap (λ xs. flat_map octets commands ++ xs) (append-nil (octets command))

outcome-backs : (hs : List Held) → map (λ x. x.outcome) (backs hs) ≡ map (λ x. Back x.debt) hs
outcome-backs [] = refl
outcome-backs (x ∷ hs) = ap (λ os. Back x.debt ∷ os) (outcome-backs hs)

pub false-last : (a b c : Bool) → (a && (b && (c && false))) ≡ false
false-last true true true = refl
false-last true true false = refl
false-last true false c = refl
false-last false b c = refl

-- QUIT is due only while the connection is open
due-running : (a b c : Bool) (r : Option Reason) → (a && (b && (c && is_none r))) ≡ true → r ≡ None
due-running a b c None e = refl
due-running a b c (Some r) e = absurd (false≢true (sym (false-last a b c) ∙ e))

due-off : (a b c : Bool) (r : Option Reason) → is_some r ≡ true → (a && (b && (c && is_none r))) ≡ false
due-off a b c None e = cc
due-off a b c (Some r) e = false-last a b c

-- the first command that is awaited is the first without an answer
number-first : (held : List Held) (commands : List Ask)
    → number_awaited held (slice_get (map awaited_of commands) 0) ≡ number_asked held (slice_get commands 0)
number-first held [] = refl
number-first held (ask ∷ commands) = refl

open-step : (r now : Option Reason) (before : Option ℕ) (held : List Held) (commands : List Ask)
    → first_reason r now ≡ None
    → (if is_some r then before else unanswered_at_close now held commands) ≡ None
open-step None None before held commands e = refl
open-step None (Some why) before held commands e = cc
open-step (Some why) now before held commands e = cc

module _ (options : Options) where
  -- while it is open, none counts as unanswered
  unanswered-open : (h : List Event) → reason options h ≡ None → first_unanswered options h ≡ None
  unanswered-open [] e = refl
  unanswered-open (x ∷ h) e = open-step (reason options h) (closes options h x) _ _ _ e

  unanswered-step : (h : List Event) (e : Event) (r : Option Reason) → reason options h ≡ r → closes options h e ≡ None
      → first_unanswered options (e ∷ h) ≡ first_unanswered options h
  unanswered-step h e None running still = rw (running, still) (sym (unanswered-open h running))
  unanswered-step h e (Some why) closed still = rw closed refl

  -- an event that does not close leaves it unchanged
  pub unanswered-same : (h : List Event) (e : Event) → closes options h e ≡ None
      → first_unanswered options (e ∷ h) ≡ first_unanswered options h
  unanswered-same h e still = unanswered-step h e (reason options h) refl still

  -- the key that is kept at a close
  number-same : (s : State) (h : List Event) → MatchesWhileOpen options s h
      → number_awaited s.held (slice_get s.window 0) ≡ number_asked (held options h) (slice_get (window options h) 0)
  number-same s h o =
      ap (λ hs. number_awaited hs (slice_get s.window 0)) o.held_is
      ∙ ap (λ (ws : List Awaited). number_awaited (held options h) (slice_get ws 0)) o.window_is
      ∙ number-first (held options h) (window options h)

  -- outcomes that follow those that are there
  outcomes-more : (s : State) (h : List Event) (more : List End) → Matches options s h → reason options h ≡ None
      → s.found ++ map (λ x. x.outcome) more ≡ drop (taken h) (map (λ x. x.outcome) (ends options h ++ more))
  outcomes-more s h more st running =
      let e : s.found ≡ drop (taken h) (outcomes options h) = sym (untold_open s (st.closed_is ∙ running)) ∙ st.untold_is in
      rw (e, map-append (λ (x : End). x.outcome) (ends options h) more) (drop-more (taken h) (outcomes options h) _ st.taken_few)

  few-more : (n : ℕ) (h : List Event) (more : List End) → n ≤ length (outcomes options h) → n ≤ length (map (λ x. x.outcome) (ends options h ++ more))
  few-more n h more f =
      rw (map-append (λ (x : End). x.outcome) (ends options h) more) (omega (arith, length-append (outcomes options h) (map (λ (x : End). x.outcome) more)))

  -- an event that does not close, and brings these out
  pub goes_on : (s next : State) (h : List Event) (e : Event) (more : List End) → Matches options s h → reason options h ≡ None → closes options h e ≡ None
      → ends options (e ∷ h) ≡ ends options h ++ more → taken (e ∷ h) ≡ taken h
      → next.options ≡ s.options → next.closed ≡ s.closed → next.quitting ≡ is_leaving (e ∷ h) → next.accepted ≡ length (accepted (e ∷ h))
      → next.recent ≡ take options.check_filter (counted options (e ∷ h)) → next.off ≡ are_off options (counted options (e ∷ h))
      → next.has_answered ≡ has_answered options (e ∷ h) → next.unanswered ≡ s.unanswered
      → next.found ≡ s.found ++ map (λ x. x.outcome) more → MatchesWhileOpen options next (e ∷ h) → Matches options next (e ∷ h)
  goes_on s next h e more st running stays ends_same taken_same same_options same_closed quitting accepts recent off
      answered_same same_unanswered told o = record {
        options_is = same_options ∙ st.options_is;
        closed_is = rw (running, stays) (same_closed ∙ st.closed_is ∙ running);
        unanswered_is = same_unanswered ∙ st.unanswered_is ∙ sym (unanswered-same h e stays);
        quitting_is = quitting;
        accepted_is = accepts;
        recent_is = recent;
        off_is = off;
        answered_is = answered_same;
        untold_is = untold_open next (same_closed ∙ st.closed_is ∙ running) ∙ told ∙ rw (taken_same, ends_same) (outcomes-more s h more st running);
        taken_few = rw (taken_same, ends_same) (few-more (taken h) h more st.taken_few);
        while_open = λ _. o;
      }

  -- an event that closes, and brings out all that is held
  pub shut_by : (s : State) (h : List Event) (e : Event) (why : Reason) (stirs : Bool) (moment : Option ℕ) → Matches options s h → reason options h ≡ None → closes options h e ≡ Some why
      → ends options (e ∷ h) ≡ ends options h ++ backs (held options h) → taken (e ∷ h) ≡ taken h
      → is_leaving (e ∷ h) ≡ is_leaving h → accepted (e ∷ h) ≡ accepted h → counted options (e ∷ h) ≡ counted options h
      → has_answered options (e ∷ h) ≡ has_answered options h
      → Matches options (close why (record s { stirred = stirs; quiet = moment })) (e ∷ h)
  shut_by s h e why stirs moment st running closing ends_same taken_same leaving_same accepted_same counted_same
      answered_same =
      let o = st.while_open running in
      record {
        options_is = st.options_is;
        closed_is = rw (running, closing) refl;
        unanswered_is = rw (running, closing) (number-same s h o);
        quitting_is = rw leaving_same st.quitting_is;
        accepted_is = rw accepted_same st.accepted_is;
        recent_is = rw counted_same st.recent_is;
        off_is = rw counted_same st.off_is;
        answered_is = rw answered_same st.answered_is;
        untold_is = rw (taken_same, ends_same, o.held_is, ← outcome-backs (held options h)) (outcomes-more s h (backs (held options h)) st running);
        taken_few = rw (taken_same, ends_same) (few-more (taken h) h (backs (held options h)) st.taken_few);
        while_open = λ c. let f : Some why ≡ None = rw (running, closing) at c in cc;
      }

  -- a command is put out
  pub puts_out : (s : State) (h : List Event) (command : Command) (next : State) → Matches options s h
      → next ≡ record s { phase = next.phase; window = next.window; blocks = next.blocks; output = s.output ++ octets command }
      → (reason options h ≡ None → MatchesWhileOpen options s h → next.phase ≡ phase options (Put command ∷ h))
      → (reason options h ≡ None → MatchesWhileOpen options s h → next.window ≡ map awaited_of (window options (Put command ∷ h)))
      → (reason options h ≡ None → MatchesWhileOpen options s h → next.blocks ≡ kept_blocks (window options (Put command ∷ h)))
      → (reason options h ≡ None → MatchesWhileOpen options s h
      → AreTied s.held (window options (Put command ∷ h)) s.wanted s.accepted)
      → Matches options next (Put command ∷ h)
  unfolding story
  puts_out s h command next st same phase_same window_same blocks_same ties_same = record {
    options_is = ap (λ (x : State). x.options) same ∙ st.options_is;
    closed_is = ap (λ (x : State). x.closed) same ∙ st.closed_is ∙ sym (first_reason-none _);
    unanswered_is = ap (λ (x : State). x.unanswered) same ∙ st.unanswered_is
        ∙ sym (unanswered-same h (Put command) refl);
    quitting_is = ap (λ (x : State). x.quitting) same ∙ st.quitting_is;
    accepted_is = ap (λ (x : State). x.accepted) same ∙ st.accepted_is;
    recent_is = ap (λ (x : State). x.recent) same ∙ st.recent_is;
    off_is = ap (λ (x : State). x.off) same ∙ st.off_is;
    answered_is = ap (λ (x : State). x.has_answered) same ∙ st.answered_is;
    untold_is = ap untold same ∙ st.untold_is;
    taken_few = st.taken_few;
    while_open = λ c.
        let r : reason options h ≡ None = sym (first_reason-none _) ∙ c in
        let o = st.while_open r in
        let few = o.sent_few in
        record {
          phase_is = phase_same r o;
          held_is = ap (λ (x : State). x.held) same ∙ o.held_is;
          window_is = window_same r o;
          blocks_is = blocks_same r o;
          wanted_is = ap (λ (x : State). x.wanted) same ∙ o.wanted_is;
          output_is = ap (λ (x : State). x.output) same ∙ ap (λ xs. xs ++ octets command) o.output_is ∙ drop-more (sent h) (put_octets h) (octets command) few ∙ ap (drop (sent h)) (sym (octets-more (put_out h) command));
          sent_few = rw (octets-more (put_out h) command) (omega (arith, length-append (put_octets h) (octets command)));
          stirred_is = ap (λ (x : State). x.stirred) same ∙ o.stirred_is;
          quiet_is = ap (λ (x : State). x.quiet) same ∙ o.quiet_is;
          tied = subst (λ (x : State). AreTied x.held (window options (Put command ∷ h)) x.wanted x.accepted)
              (sym same) (ties_same r o);
        };
  }

  -- a command about a debt awaits its answer
  window-more : (h : List Event) (ask : Ask) → window options (Put (Asks ask) ∷ h) ≡ window options h ++ ask ∷ []
  window-more h ask = left_from-append (answered options h) 0 (asks h) ask (λ k q. answered_below options h k (omega arith))

  pub put_ask : (s : State) (h : List Event) (ask : Ask) → Matches options s h
      → (reason options h ≡ None → MatchesWhileOpen options s h → IsOfDebt s.held ask
      × (claims (window options h) s.wanted ask.ticket ≡ 0) × (ask.ticket < s.accepted))
      → Matches options (asked s ask) (Put (Asks ask) ∷ h)
  put_ask s h ask st free = puts_out s h (Asks ask) (asked s ask) st refl
      (λ r o. o.phase_is)
      (λ r o. ap (λ ws. ws ++ awaited_of ask ∷ []) o.window_is ∙ sym (map-append awaited_of (window options h) (ask ∷ [])) ∙ ap (map awaited_of) (sym (window-more h ask)))
      (λ r o. ap (λ bs. bs ++ kept_for ask.verb ask.block) o.blocks_is ∙ sym (kept-more (window options h) ask) ∙ ap kept_blocks (sym (window-more h ask)))
      (λ r o. let p = free r o in
      subst (λ asks. AreTied s.held asks s.wanted s.accepted) (sym (window-more h ask))
      (tied-asked s.held (window options h) s.wanted s.accepted o.tied ask p.0 p.1 p.2))

  -- and no other command does
  window-same : (h : List Event) (command : Command) → asks (Put command ∷ h) ≡ asks h → window options (Put command ∷ h) ≡ window options h
  window-same h command e = ap (λ xs. left_from 0 xs (answered options h)) e

  pub put_mode : (s : State) (h : List Event) → Matches options s h → Matches options (record s { output = s.output ++ octets ModeStream }) (Put ModeStream ∷ h)
  put_mode s h st = puts_out s h ModeStream (record s { output = s.output ++ octets ModeStream }) st refl
      (λ r o. o.phase_is)
      (λ r o. o.window_is ∙ ap (map awaited_of) (sym (window-same h ModeStream (append-nil (asks h)))))
      (λ r o. o.blocks_is ∙ ap kept_blocks (sym (window-same h ModeStream (append-nil (asks h)))))
      (λ r o. subst (λ asks. AreTied s.held asks s.wanted s.accepted)
      (sym (window-same h ModeStream (append-nil (asks h)))) o.tied)

  put_quit : (s : State) (h : List Event) → Matches options s h → Matches options (record s { phase = Leaving; output = s.output ++ octets Quit }) (Put Quit ∷ h)
  put_quit s h st = puts_out s h Quit (record s { phase = Leaving; output = s.output ++ octets Quit }) st refl
      (λ r o. refl)
      (λ r o. o.window_is ∙ ap (map awaited_of) (sym (window-same h Quit (append-nil (asks h)))))
      (λ r o. o.blocks_is ∙ ap kept_blocks (sym (window-same h Quit (append-nil (asks h)))))
      (λ r o. subst (λ asks. AreTied s.held asks s.wanted s.accepted) (sym (window-same h Quit (append-nil (asks h))))
      o.tied)

  -- what is held decides whether QUIT is due
  same_due : (s : State) (h : List Event) → Matches options s h → (r : Option Reason) → reason options h ≡ r
      → (s.quitting && (is_mode s.phase && (is_empty s.held && is_none s.closed))) ≡ is_quit_due options h
  same_due s h st None e = let o = st.while_open e in rw (st.quitting_is, o.phase_is, o.held_is, st.closed_is) refl
  same_due s h st (Some r) e =
      rw (st.closed_is, e) (false-last s.quitting (is_mode s.phase) (is_empty s.held) ∙ sym (false-last (is_leaving h) (is_mode (phase options h)) (is_empty (held options h))))

  quit-step : (s : State) (h : List Event) → Matches options s h → (b : Bool)
      → Matches options (if b then record s { phase = Leaving; output = s.output ++ octets Quit } else s) (if b then Put Quit ∷ h else h)
  quit-step s h st false = st
  quit-step s h st true = put_quit s h st

  -- QUIT goes out if it is due
  pub stands_quit : (s : State) (h : List Event) → Matches options s h → Matches options (quit_if_due s) (with_quit options h)
  stands_quit s h st = rw (same_due s h st _ refl) (quit-step s h st (is_quit_due options h))

  -- it is not, once closed
  pub with_quit-close : (h : List Event) → is_some (reason options h) ≡ true → with_quit options h ≡ h
  with_quit-close h e = rw (due-off (is_leaving h) (is_mode (phase options h)) (is_empty (held options h)) (reason options h) e) refl

  -- a debt is accepted
  accepts : (s : State) (h : List Event) (debt : Owing) (b : Bool) (n : ℕ) → wants_at_once options h ≡ b → n ≡ length (accepted h) → Matches options s h → reason options h ≡ None
      → Matches options (record s {
        held = s.held ++ record { ticket = n; debt = debt } ∷ [];
        accepted = n + 1;
        wanted = s.wanted ++ (if b then want_of (record { ticket = n; debt = debt }) ∷ [] else []);
      }) (Offered debt ∷ h)
  unfolding story
  accepts s h debt b n at_once e st running =
      let o = st.while_open running in
      goes_on s (record s {
        held = s.held ++ record { ticket = n; debt = debt } ∷ [];
        accepted = n + 1;
        wanted = s.wanted ++ (if b then want_of (record { ticket = n; debt = debt }) ∷ [] else []);
      }) h (Offered debt) [] st running refl (ends-offered options h debt ∙ sym (append-nil (ends options h))) refl refl refl st.quitting_is
      (rw e (omega (arith, length-append (accepted h) (debt ∷ [])))) st.recent_is st.off_is st.answered_is refl
      (sym (append-nil s.found)) (record {
        phase_is = o.phase_is;
        held_is = rw (o.held_is, e, ends-offered options h debt) (sym (held_from-append (ended_tickets (ends options h)) 0 (accepted h) debt (length (accepted h)) (omega arith) (ends_below options h)));
        window_is = o.window_is;
        blocks_is = o.blocks_is;
        wanted_is = rw (o.wanted_is, e) (wanted-step b at_once);
        output_is = o.output_is;
        sent_few = o.sent_few;
        stirred_is = o.stirred_is;
        quiet_is = o.quiet_is;
        tied = rw e (tied-step b (subst (λ k. AreTied s.held (window options h) s.wanted k) st.accepted_is o.tied));
      })
    where
      tied-step : (b : Bool) → AreTied s.held (window options h) s.wanted (length (accepted h))
          → AreTied (s.held ++ newcomer h debt ∷ []) (window options h)
          (s.wanted ++ (if b then want_of (newcomer h debt) ∷ [] else [])) (length (accepted h) + 1)
      tied-step false tied =
          rw (append-nil s.wanted) (tied-accepted s.held (window options h) s.wanted (length (accepted h)) tied debt)
      tied-step true tied =
          tied-wanted (s.held ++ newcomer h debt ∷ []) (window options h) s.wanted (length (accepted h) + 1)
          (tied-accepted s.held (window options h) s.wanted (length (accepted h)) tied debt)
          (want_of (newcomer h debt))
          (accepted-want s.held (newcomer h debt) (rw (st.while_open running).held_is (tickets-below options h)))
          (tied.below (length (accepted h)) (omega arith)) (omega arith)

      wanted-step : (b : Bool) → wants_at_once options h ≡ b
          → left_from 0 (story options h).wants (story options h).handed ++ (if b then want_of (newcomer h debt) ∷ [] else [])
          ≡ left_from 0 (story options (Offered debt ∷ h)).wants (story options (Offered debt ∷ h)).handed
      wanted-step true e = rw e (sym (left_from-append (story options h).handed 0 (story options h).wants (want_of (newcomer h debt)) (λ k q. handed_below options h k (omega arith))))
      wanted-step false e = rw e (append-nil (left_from 0 (story options h).wants (story options h).handed))

  -- it is asked about by CHECK, or its article is wanted at once; QUIT is not due unless the connection was asked to
  -- quit
  offered-step : (s : State) (h : List Event) (debt : Owing) (b : Bool) → (is_streaming (phase options h) && checks options h) ≡ b
      → Matches options s h → reason options h ≡ None → is_leaving h ≡ false
      → Matches options (
      let next : State = record s { held = s.held ++ newly s debt ∷ []; accepted = s.accepted + 1 } in
      if b then asked next (check_of (newly s debt)) else record next { wanted = s.wanted ++ want_of (newly s debt) ∷ [] }
      ) (with_quit options (with_puts (if not b then [] else Asks (check_of (newcomer h debt)) ∷ []) (Offered debt ∷ h)))
  offered-step s h debt true e st running stays =
      let next : State = record s { held = s.held ++ newly s debt ∷ []; accepted = s.accepted + 1 } in
      let x : Held = newcomer h debt in
      let same : newly s debt ≡ x = ap (λ n. record { ticket = n; debt = debt }) st.accepted_is in
      let held : Matches options next (Offered debt ∷ h) =
      subst (λ (ws : List Want). Matches options (record next { wanted = ws }) (Offered debt ∷ h)) (append-nil s.wanted) (accepts s h debt false s.accepted (ap not e) st.accepted_is st running) in
      let before = (st.while_open running).tied in
      let own : IsOfDebt next.held (check_of x) =
      subst (λ (y : Held). IsOfDebt (s.held ++ y ∷ []) (check_of x)) (sym same)
      (accepted-own s.held x (subst (λ hs. AllBelow (tickets hs) (length (accepted h)))
      (sym (st.while_open running).held_is) (tickets-below options h))) in
      rw stays (subst
      (λ (y : Held). Matches options (asked next (check_of y)) (Put (Asks (check_of x)) ∷ Offered debt ∷ h))
      (sym same)
      (put_ask next (Offered debt ∷ h) (check_of x) held
      (λ r o. (
        own,
        before.below (length (accepted h)) (rw st.accepted_is (omega arith)),
        rw st.accepted_is
            (omega arith),
      ))))
  offered-step s h debt false e st running stays =
      rw stays (accepts s h debt true s.accepted (ap not e) st.accepted_is st running)

  pub stands_offered : (s : State) (h : List Event) (debt : Owing) → Matches options s h → reason options h ≡ None → is_leaving h ≡ false
      → Matches options (offered s debt) (after options h (Offered debt))
  unfolding after
  stands_offered s h debt st running stays =
      let o = st.while_open running in
      let next : State = record s { held = s.held ++ newly s debt ∷ []; accepted = s.accepted + 1 } in
      let same : (is_streaming s.phase && not s.off) ≡ (is_streaming (phase options h) && checks options h) = rw (o.phase_is, st.off_is) refl in
      subst (λ (b : Bool). Matches options (if b then asked next (check_of (newly s debt)) else record next { wanted = s.wanted ++ want_of (newly s debt) ∷ [] }) (after options h (Offered debt))) (sym same)
      (offered-step s h debt (is_streaming (phase options h) && checks options h) refl st running stays)
