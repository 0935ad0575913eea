-- A connection still stands for its transcript after a reply.
use Rattle.std.proofs.Common.{◌≡◌, ℕ, ◌<◌, Bool, true, false, List, [], ◌∷◌, ◌++◌, refl, sym, ap, subst, ◌∙◌, arith}
use Rattle.std.proofs.Common.{inl, inr, find, Option, Some, None, map, take}
use Rattle.std.specs.Prelude.{◌==◌, ◌&&◌, if◌then◌else◌, option_map, ◌⊎◌}
use Rattle.std.specs.Set.{remove_key}
use Rattle.std.proofs.lemmas.Bool.{eqb-true}
use Rattle.std.proofs.lemmas.List.{append-nil}
use Rattle.reply_reader.specs.Stream.{Given}
use Rattle.conn_core.specs.Codes.{meaning, is_welcome, ends_all, stray, belongs}
use Rattle.conn_core.specs.Used.{first_left, left_from}
use Rattle.conn_core.specs.Checks.{counts, are_off}
use Rattle.conn_core.specs.Commands.{Ask, ModeStream, Asks, octets, Held, want_of, block_of, is_at, belongs_to}
use Rattle.conn_core.specs.History.{Event, Put, Came, accepted, asks, phase, phase_after, is_mode, answered, answered_now, answered_ask, closes, closes_in, counted, reason, story, ends, held, window, ended_tickets, backs, ends_by_meaning, ends_by_answer, wants_by_meaning, wants_by_answer, with_puts, puts, puts_greeting, puts_answer, puts_block, after}
use Rattle.conn_core.specs.State.{State, Awaited, awaited_of, kept_blocks}
use Rattle.conn_core.specs.Stands.{AreTied, IsOfDebt, MatchesWhileOpen, Matches, claims}
use Rattle.conn_core.specs.Machine.{asked, close, parted, told, counted_by, answered_by, fits_awaited}
use Rattle.conn_core.specs.Machine.{belongs_to_awaited, first_block, let_go, sends_block, on_reply, dispatch_reply}
use Rattle.conn_core.specs.declared.codes.Verb.{Verb}
use Rattle.conn_core.specs.declared.codes.Meaning.{Meaning}
use Rattle.conn_core.specs.declared.codes.Meaning.TheVariants.{Wanted, SendBlock, Later, Final}
use Rattle.conn_core.specs.declared.phase.Phase.{Phase}
use Rattle.conn_core.specs.declared.phase.Phase.TheVariants.{Greeting, Asking, Streaming, OneByOne, Leaving}
use Rattle.conn_core.specs.declared.options.Options.{Options}
use Rattle.conn_core.specs.declared.reason.Reason.{Reason}
use Rattle.conn_core.specs.declared.reason.Reason.TheVariants.{Greeting as BadGreeting, Ended, Quit as Left}
use Rattle.conn_core.specs.declared.outcome.Outcome.{Outcome}
use Rattle.conn_core.specs.UsedLaws.{first_left-is, find-left_from, left_from-append, left_from-used}
use Rattle.conn_core.specs.HeldLaws.{held_from-gone, find-is_at}
use Rattle.conn_core.specs.StoryLaws.{handed_below, ended_tickets-append}
use Rattle.conn_core.proofs.Switch.{counted_by-is, recent-counted, off-counted}
use Rattle.conn_core.proofs.Blocks.{find-map, remove-map, kept-removed, kept-first, PassesFirst, sends-ihave, no_block-find, no_block-left}
use Rattle.conn_core.proofs.Modes.{Plain}
use Rattle.conn_core.proofs.Ties.{answered-free, answers-same, tied-answered, tied-ended, tied-wanted}
use Rattle.conn_core.proofs.Steps.{goes_on, shut_by, put_mode, put_ask, stands_quit}

-- 203 ends nothing
goes-streaming : (code : ℕ) → (code == 203) ≡ true → ends_all code ≡ false
goes-streaming code e = let same : code ≡ 203 = eqb-true code 203 e in rw same refl

-- in a mode, a reply closes only if it answers no command, and the mode stays
mode-stray : (p : Phase) (code : ℕ) → is_mode p ≡ true → closes_in p None code ≡ Some (stray code)
mode-stray Greeting code e = cc
mode-stray Asking code e = cc
mode-stray Streaming code e = refl
mode-stray OneByOne code e = refl
mode-stray Leaving code e = cc

mode-answers : (p : Phase) (code : ℕ) (found : ℕ × Ask) → is_mode p ≡ true → closes_in p (Some found) code ≡ None
mode-answers Greeting code found e = cc
mode-answers Asking code found e = cc
mode-answers Streaming code found e = refl
mode-answers OneByOne code found e = refl
mode-answers Leaving code found e = cc

mode-stays : (streaming : Bool) (p : Phase) (code : ℕ) → is_mode p ≡ true → phase_after streaming p code ≡ p
mode-stays streaming Greeting code e = cc
mode-stays streaming Asking code e = cc
mode-stays streaming Streaming code e = refl
mode-stays streaming OneByOne code e = refl
mode-stays streaming Leaving code e = cc

module _ (options : Options) where
  ends-on_reply : (h : List Event) (reply : Given) → closes options h (Came reply) ≡ None
      → ends options (Came reply ∷ h) ≡ ends options h ++ ends_by_answer (held options h) reply.code (answered_ask options h reply)
  unfolding story
  ends-on_reply h reply e = rw e (append-nil _)

  -- a reply that closes, and answers no command
  shut_reply : (s : State) (h : List Event) (reply : Given) (why : Reason) → Matches options s h → reason options h ≡ None
      → answered_ask options h reply ≡ None → closes options h (Came reply) ≡ Some why → Matches options (close why (record s { stirred = true })) (Came reply ∷ h)
  unfolding story
  shut_reply s h reply why st running none closing =
      let e : ends options (Came reply ∷ h) ≡ ends options h ++ backs (held options h) = rw (closing, none, append-nil (ends options h)) refl in
      shut_by options s h (Came reply) why true s.quiet st running closing e refl refl refl
      (rw none refl) (rw none refl)

  -- no debt comes out
  held-quiet : (h : List Event) (reply : Given) → closes options h (Came reply) ≡ None → ends_by_answer (held options h) reply.code (answered_ask options h reply) ≡ []
      → held options (Came reply ∷ h) ≡ held options h
  held-quiet h reply stays none = rw (ends-on_reply h reply stays, none, append-nil (ends options h)) refl

  -- a reply that answers no command and does not close moves only the phase
  phase_moves : (s : State) (h : List Event) (reply : Given) (p : Phase) → Matches options s h → reason options h ≡ None → closes options h (Came reply) ≡ None
      → answered_ask options h reply ≡ None → p ≡ phase options (Came reply ∷ h) → Matches options (record s { stirred = true; phase = p }) (Came reply ∷ h)
  unfolding story
  phase_moves s h reply p st running stays none moved =
      let o = st.while_open running in
      goes_on options s (record s { stirred = true; phase = p }) h (Came reply) [] st running stays (rw (stays, none) (append-nil (ends options h ++ []))) refl
      refl refl st.quitting_is st.accepted_is (rw none st.recent_is) (rw none st.off_is) (rw none st.answered_is) refl
      (sym (append-nil s.found)) (record {
        phase_is = moved;
        held_is = o.held_is ∙ sym (held-quiet h reply stays (rw none refl));
        window_is = rw none o.window_is;
        tied = rw none o.tied;
        blocks_is = rw none o.blocks_is;
        wanted_is = rw (none, append-nil (story options h).wants) o.wanted_is;
        output_is = o.output_is;
        sent_few = o.sent_few;
        stirred_is = refl;
        quiet_is = o.quiet_is;
      })

  at_greeting : (s : State) (h : List Event) (reply : Given) (b c : Bool) → is_welcome reply.code ≡ b → options.streaming ≡ c → Matches options s h → reason options h ≡ None → phase options h ≡ Greeting
      → Matches options (
      let next : State = record s { stirred = true } in
      if b then (if c then record next { phase = Asking; output = s.output ++ octets ModeStream } else record next { phase = OneByOne }) else close (BadGreeting reply.code) next
      ) (with_puts ((if b && c then ModeStream ∷ [] else []) ++ []) (Came reply ∷ h))
  at_greeting s h reply true true good streams st running e =
      put_mode options (record s { stirred = true; phase = Asking }) (Came reply ∷ h) (phase_moves s h reply Asking st running (rw (e, good) refl) (rw e refl) (rw (e, good, streams) refl))
  at_greeting s h reply true false good streams st running e = phase_moves s h reply OneByOne st running (rw (e, good) refl) (rw e refl) (rw (e, good, streams) refl)
  at_greeting s h reply false c bad streams st running e = shut_reply s h reply (BadGreeting reply.code) st running (rw e refl) (rw (e, bad) refl)

  at_asking : (s : State) (h : List Event) (reply : Given) (b c : Bool) → (reply.code == 203) ≡ b → ends_all reply.code ≡ c → Matches options s h → reason options h ≡ None → phase options h ≡ Asking
      → Matches options (
      let next : State = record s { stirred = true } in
      if b then record next { phase = Streaming } else if c then close (Ended reply.code) next else record next { phase = OneByOne }
      ) (Came reply ∷ h)
  at_asking s h reply true c good ends st running e = phase_moves s h reply Streaming st running (rw (e, goes-streaming reply.code good) refl) (rw e refl) (rw (e, good) refl)
  at_asking s h reply false true bad ends st running e = shut_reply s h reply (Ended reply.code) st running (rw e refl) (rw (e, ends) refl)
  at_asking s h reply false false bad ends st running e = phase_moves s h reply OneByOne st running (rw (e, ends) refl) (rw e refl) (rw (e, bad) refl)

  held-ended : (h : List Event) (reply : Given) (k : ℕ) (outcome : Outcome) → closes options h (Came reply) ≡ None
      → ends_by_answer (held options h) reply.code (answered_ask options h reply) ≡ record { ticket = k; outcome = outcome } ∷ []
      → held options (Came reply ∷ h) ≡ remove_key (is_at k) (held options h)
  held-ended h reply k outcome stays one =
      rw (ends-on_reply h reply stays, one, ended_tickets-append (ends options h) (record { ticket = k; outcome = outcome } ∷ []))
      (held_from-gone k (ended_tickets (ends options h)) 0 (accepted h))

-- an answer to a command, and what it makes of its debt
module _ (options : Options) (s : State) (h : List Event) (reply : Given) (found : ℕ × Ask) (st : Matches options s h) (running : reason options h ≡ None)
    (mode : is_mode (phase options h) ≡ true) (test : Awaited → Bool) (now : answered_ask options h reply ≡ Some found)
    (first : first_left (λ ask. test (awaited_of ask)) (answered options h) 0 (asks h) ≡ Some found)
    (passes : PassesFirst (λ ask. test (awaited_of ask)) found.1 ⊎ (kept_blocks (window options h) ≡ [])) where
  stays : closes options h (Came reply) ≡ None
  stays = rw now (mode-answers (phase options h) reply.code found mode)

  by_is : (m : Option Meaning) (x : Option Held) → meaning found.1.verb reply.code ≡ m → find (is_at found.1.ticket) (held options h) ≡ x
      → ends_by_answer (held options h) reply.code (answered_ask options h reply) ≡ ends_by_meaning m x
  by_is m x em ex = rw (now, em, ex) refl

  wants_is : (m : Option Meaning) (x : Option Held) → meaning found.1.verb reply.code ≡ m → find (is_at found.1.ticket) (held options h) ≡ x
      → wants_by_answer (held options h) reply.code (answered_ask options h reply) ≡ wants_by_meaning m x
  wants_is m x em ex = rw (now, em, ex) refl

  window-on_reply : window options (Came reply ∷ h) ≡ remove_key (λ ask. test (awaited_of ask)) (window options h)
  window-on_reply = rw now (left_from-used (λ ask. test (awaited_of ask)) (answered options h) 0 (asks h) found.0 found.1 first)

  finds : find (λ ask. test (awaited_of ask)) (window options h) ≡ Some found.1
  finds = find-left_from (λ ask. test (awaited_of ask)) (answered options h) 0 (asks h) ∙ ap (option_map (λ (x : ℕ × Ask). x.1)) first

  passes_first : PassesFirst (λ ask. test (awaited_of ask)) found.1
  passes_first v other w = elim passes [
    | inl p ↦ p v other w
    | inr none ↦ absurd (no_block-find (λ ask. test (awaited_of ask)) (window options h) found.1 none finds v)
  ]

  -- the commands that are left
  abbrev left_asks : List Ask
  left_asks = remove_key (λ ask. test (awaited_of ask)) (window options h)

  tied_left : AreTied s.held left_asks s.wanted s.accepted
  tied_left = tied-answered s.held (window options h) s.wanted s.accepted (st.while_open running).tied
      (λ ask. test (awaited_of ask))

  left_free : (claims left_asks s.wanted found.1.ticket ≡ 0) × (found.1.ticket < s.accepted) × IsOfDebt s.held found.1
  left_free = answered-free s.held (window options h) s.wanted s.accepted (st.while_open running).tied
      (λ ask. test (awaited_of ask)) found.1 finds

  -- what is left
  abbrev left_state : State
  left_state = record s {
    stirred = true;
    window = remove_key test s.window;
    blocks = let_go found.1.verb s.blocks;
    has_answered = true;
  }

  -- with what was counted
  abbrev less : List Bool → Bool → State
  less recent off = record left_state { recent = recent; off = off }

  module _ (recent : List Bool) (off : Bool) (recent_same : recent ≡ take options.check_filter (counted options (Came reply ∷ h)))
      (off_same : off ≡ are_off options (counted options (Came reply ∷ h))) where
    -- the rest of the state agrees with the transcript
    answer : (next : State) → next ≡ record (less recent off) { held = next.held; wanted = next.wanted; found = next.found }
        → next.found ≡ s.found ++ map (λ x. x.outcome) (ends_by_answer (held options h) reply.code (answered_ask options h reply))
        → next.held ≡ held options (Came reply ∷ h)
        → next.wanted ≡ left_from 0 ((story options h).wants ++ wants_by_answer (held options h) reply.code (answered_ask options h reply)) (story options h).handed
        → AreTied next.held left_asks next.wanted s.accepted
        → Matches options next (Came reply ∷ h)
    unfolding story
    answer next same told held_same wanted_same ties =
        let o = st.while_open running in
        goes_on options s next h (Came reply) _ st running stays (ends-on_reply options h reply stays) refl
        (ap (λ (x : State). x.options) same) (ap (λ (x : State). x.closed) same) (ap (λ (x : State). x.quitting) same ∙ st.quitting_is) (ap (λ (x : State). x.accepted) same ∙ st.accepted_is)
        (ap (λ (x : State). x.recent) same ∙ recent_same) (ap (λ (x : State). x.off) same ∙ off_same)
        (rw now (ap (λ (x : State). x.has_answered) same)) (ap (λ (x : State). x.unanswered) same) told (record {
          phase_is = ap (λ (x : State). x.phase) same ∙ o.phase_is ∙ sym (mode-stays options.streaming (phase options h) reply.code mode);
          held_is = held_same;
          window_is = ap (λ (x : State). x.window) same ∙ ap (remove_key test) o.window_is ∙ remove-map awaited_of test (window options h) ∙ ap (map awaited_of) (sym window-on_reply);
          blocks_is = ap (λ (x : State). x.blocks) same ∙ ap (let_go found.1.verb) o.blocks_is ∙ kept-removed (λ ask. test (awaited_of ask)) (window options h) found.1 finds passes_first ∙ ap kept_blocks (sym window-on_reply);
          wanted_is = wanted_same;
          output_is = ap (λ (x : State). x.output) same ∙ o.output_is;
          sent_few = o.sent_few;
          stirred_is = ap (λ (x : State). x.stirred) same;
          quiet_is = ap (λ (x : State). x.quiet) same ∙ o.quiet_is;
          tied = subst (λ n. AreTied next.held (window options (Came reply ∷ h)) next.wanted n)
              (sym (ap (λ (x : State). x.accepted) same))
              (subst (λ asks. AreTied next.held asks next.wanted s.accepted) (sym window-on_reply) ties);
        })

    answer_nothing : ends_by_answer (held options h) reply.code (answered_ask options h reply) ≡ [] → wants_by_answer (held options h) reply.code (answered_ask options h reply) ≡ []
        → Matches options (less recent off) (Came reply ∷ h)
    answer_nothing none no_wants =
        let o = st.while_open running in
        answer (less recent off) refl (rw none (sym (append-nil s.found))) (o.held_is ∙ sym (held-quiet options h reply stays none))
        (rw (no_wants, append-nil (story options h).wants) o.wanted_is) tied_left

    answer_wanted : (x : Held) → meaning found.1.verb reply.code ≡ Some Wanted → find (is_at found.1.ticket) (held options h) ≡ Some x
        → Matches options (record (less recent off) { wanted = s.wanted ++ want_of x ∷ [] }) (Came reply ∷ h)
    answer_wanted x em ex =
        let o = st.while_open running in
        let none : ends_by_answer (held options h) reply.code (answered_ask options h reply) ≡ [] = by_is (Some Wanted) (Some x) em ex in
        let own : find (is_at x.ticket) s.held ≡ Some x =
        ap (find (is_at x.ticket)) o.held_is
        ∙ ap (λ k. find (is_at k) (held options h)) (find-is_at found.1.ticket (held options h) x ex).0 ∙ ex in
        answer (record (less recent off) { wanted = s.wanted ++ want_of x ∷ [] }) refl (rw none (sym (append-nil s.found))) (o.held_is ∙ sym (held-quiet options h reply stays none))
        (rw (wants_is (Some Wanted) (Some x) em ex, o.wanted_is) (sym (left_from-append (story options h).handed 0 (story options h).wants (want_of x) (λ k q. handed_below options h k (omega arith)))))
        (tied-wanted s.held left_asks s.wanted s.accepted tied_left (want_of x)
        (ap (option_map (λ (y : Held). y.debt.0)) own)
        (subst (λ k. claims left_asks s.wanted k ≡ 0) (sym (find-is_at found.1.ticket (held options h) x ex).0)
        left_free.0)
        (subst (λ k. k < s.accepted) (sym (find-is_at found.1.ticket (held options h) x ex).0) left_free.1))

    answer_ends : (ticket : ℕ) (x : Held) (outcome : Outcome) → ticket ≡ found.1.ticket → x.ticket ≡ ticket
        → wants_by_answer (held options h) reply.code (answered_ask options h reply) ≡ []
        → ends_by_answer (held options h) reply.code (answered_ask options h reply) ≡ record { ticket = x.ticket; outcome = outcome } ∷ []
        → Matches options (parted (less recent off) ticket (outcome ∷ [])) (Came reply ∷ h)
    answer_ends ticket x outcome about same no_wants one =
        let o = st.while_open running in
        answer (parted (less recent off) ticket (outcome ∷ [])) refl (rw one refl)
        (rw (← same) (ap (remove_key (is_at x.ticket)) o.held_is ∙ sym (held-ended options h reply x.ticket outcome stays one)))
        (rw (no_wants, append-nil (story options h).wants) o.wanted_is)
        (tied-ended s.held left_asks s.wanted s.accepted tied_left ticket
        (subst (λ k. claims left_asks s.wanted k ≡ 0) (sym about) left_free.0))

    -- the block of an IHAVE goes out
    answer_block : (x : Option Held) → meaning found.1.verb reply.code ≡ Some SendBlock → find (is_at found.1.ticket) (held options h) ≡ x
        → Matches options (sends_block (less recent off) (awaited_of found.1) (first_block s.blocks)) (Put (Asks (block_of found.1)) ∷ Came reply ∷ h)
    answer_block x em ex =
        let o = st.while_open running in
        let own : first_block s.blocks ≡ found.1.block =
        ap first_block o.blocks_is ∙ kept-first (λ ask. test (awaited_of ask)) (window options h) found.1 finds (sends-ihave found.1.verb reply.code em) passes_first in
        let sent : asked (less recent off) (block_of found.1) ≡ sends_block (less recent off)
        (awaited_of found.1) found.1.block =
        ap (λ bs. record (sends_block (less recent off) (awaited_of found.1) found.1.block) { blocks = bs })
        (append-nil (let_go found.1.verb s.blocks)) in
        subst (λ (block : List ℕ). Matches options (sends_block (less recent off) (awaited_of found.1) block) (Put (Asks (block_of found.1)) ∷ Came reply ∷ h)) (sym own)
        (subst (λ (next : State). Matches options next (Put (Asks (block_of found.1)) ∷ Came reply ∷ h)) sent
        (put_ask options (less recent off) (Came reply ∷ h) (block_of found.1)
        (answer_nothing (by_is (Some SendBlock) x em ex ∙ block-ends x) (wants_is (Some SendBlock) x em ex))
        (λ r w. (
          left_free.2,
          subst (λ asks. claims asks s.wanted found.1.ticket ≡ 0)
              (sym window-on_reply) left_free.0,
          left_free.1,
        ))))
      where
        block-ends : (x : Option Held) → ends_by_meaning (Some SendBlock) x ≡ []
        block-ends None = refl
        block-ends (Some x) = refl

    answer_told : (m : Option Meaning) (x : Option Held) → meaning found.1.verb reply.code ≡ m → find (is_at found.1.ticket) (held options h) ≡ x
        → Matches options (told (less recent off) m (awaited_of found.1) (first_block s.blocks) x) (with_puts (puts_block m found.1) (Came reply ∷ h))
    answer_told None None em ex = answer_nothing (by_is None None em ex) (wants_is None None em ex)
    answer_told None (Some x) em ex = answer_nothing (by_is None (Some x) em ex) (wants_is None (Some x) em ex)
    answer_told (Some SendBlock) None em ex = answer_block None em ex
    answer_told (Some SendBlock) (Some x) em ex = answer_block (Some x) em ex
    answer_told (Some Wanted) None em ex = answer_nothing (by_is (Some Wanted) None em ex) (wants_is (Some Wanted) None em ex)
    answer_told (Some Wanted) (Some x) em ex = answer_wanted x em ex
    answer_told (Some Later) None em ex = answer_nothing (by_is (Some Later) None em ex) (wants_is (Some Later) None em ex)
    answer_told (Some Later) (Some x) em ex = answer_ends found.1.ticket x _ refl
        (find-is_at found.1.ticket (held options h) x ex).0 (wants_is (Some Later) (Some x) em ex)
        (by_is (Some Later) (Some x) em ex)
    answer_told (Some (Final code)) None em ex = answer_nothing (by_is (Some (Final code)) None em ex) (wants_is (Some (Final code)) None em ex)
    answer_told (Some (Final code)) (Some x) em ex =
        answer_ends found.1.ticket x _ refl (find-is_at found.1.ticket (held options h) x ex).0
        (wants_is (Some (Final code)) (Some x) em ex) (by_is (Some (Final code)) (Some x) em ex)

  -- with what the switch counts
  answer_counted : Matches options
      (told (counted_by left_state (counts reply.code))
      (meaning found.1.verb reply.code) (awaited_of found.1) (first_block s.blocks) (find (is_at found.1.ticket) s.held))
      (with_puts (puts_block (meaning found.1.verb reply.code) found.1) (Came reply ∷ h))
  answer_counted =
      let o = st.while_open running in
      let before : State = left_state in
      let recount : State = counted_by before (counts reply.code) in
      subst (λ (next : State). Matches options (told next (meaning found.1.verb reply.code) (awaited_of found.1) (first_block s.blocks) (find (is_at found.1.ticket) s.held))
      (with_puts (puts_block (meaning found.1.verb reply.code) found.1) (Came reply ∷ h))) (sym (counted_by-is before (counts reply.code)))
      (answer_told recount.recent recount.off
      (rw now (recent-counted before options (counted options h) st.options_is st.recent_is reply.code))
      (rw now (off-counted before options (counted options h) st.options_is st.recent_is st.off_is reply.code))
      (meaning found.1.verb reply.code) (find (is_at found.1.ticket) s.held) refl (rw o.held_is refl))

-- an IHAVE that a reply can answer by its code is answered in the order put out
ihave-first : (reply : Given) (used : List ℕ) (commands : List Ask) (found : ℕ × Ask) → first_left (belongs_to reply) used 0 commands ≡ Some found → PassesFirst (belongs_to reply) found.1
ihave-first reply used commands found f v other w =
    let p : belongs reply found.1.verb ≡ true = (first_left-is (belongs_to reply) used 0 commands found.0 found.1 f).passes in
    subst (λ (verb : Verb). belongs reply verb ≡ true) (v ∙ sym w) p

module _ (options : Options) where
  -- a reply in a mode, and the command that it answers
  in_mode : (s : State) (h : List Event) (reply : Given) (test : Awaited → Bool) (o : Option (ℕ × Ask)) → answered_ask options h reply ≡ o
      → first_left (λ ask. test (awaited_of ask)) (answered options h) 0 (asks h) ≡ o → Matches options s h → reason options h ≡ None → is_mode (phase options h) ≡ true
      → ((found : ℕ × Ask) → first_left (λ ask. test (awaited_of ask)) (answered options h) 0 (asks h) ≡ Some found → PassesFirst (λ ask. test (awaited_of ask)) found.1 ⊎ (kept_blocks (window options h) ≡ []))
      → Matches options (answered_by (record s { stirred = true }) test reply.code (option_map (λ (x : ℕ × Ask). awaited_of x.1) o)) (with_puts (puts_answer reply.code o) (Came reply ∷ h))
  in_mode s h reply test None now first st running mode passes =
      shut_reply options s h reply (stray reply.code) st running now (rw now (mode-stray (phase options h) reply.code mode))
  in_mode s h reply test (Some found) now first st running mode passes = answer_counted options s h reply found st running mode test now first (passes found first)

  -- the first of the awaited commands that the reply fits is the one that it answers
  first_awaited : (s : State) (h : List Event) (test : Awaited → Bool) → MatchesWhileOpen options s h
      → find test s.window ≡ option_map (λ (x : ℕ × Ask). awaited_of x.1) (first_left (λ ask. test (awaited_of ask)) (answered options h) 0 (asks h))
  first_awaited s h test o =
      ap (find test) o.window_is ∙ find-map awaited_of test (window options h)
      ∙ ap (option_map awaited_of) (find-left_from (λ ask. test (awaited_of ask)) (answered options h) 0 (asks h))
      ∙ map-map (first_left (λ ask. test (awaited_of ask)) (answered options h) 0 (asks h))
    where
      map-map : (o : Option (ℕ × Ask)) → option_map awaited_of (option_map (λ (x : ℕ × Ask). x.1) o) ≡ option_map (λ (x : ℕ × Ask). awaited_of x.1) o
      map-map None = refl
      map-map (Some x) = refl

  awaited_answer : (s : State) (h : List Event) (reply : Given) (test : Awaited → Bool) → answered_ask options h reply ≡ first_left (λ ask. test (awaited_of ask)) (answered options h) 0 (asks h)
      → Matches options s h → reason options h ≡ None → is_mode (phase options h) ≡ true
      → ((found : ℕ × Ask) → first_left (λ ask. test (awaited_of ask)) (answered options h) 0 (asks h) ≡ Some found → PassesFirst (λ ask. test (awaited_of ask)) found.1 ⊎ (kept_blocks (window options h) ≡ []))
      → Matches options (answered_by (record s { stirred = true }) test reply.code (find test s.window))
      (with_puts (puts_answer reply.code (first_left (λ ask. test (awaited_of ask)) (answered options h) 0 (asks h))) (Came reply ∷ h))
  awaited_answer s h reply test now st running mode passes =
      subst (λ (z : Option Awaited). Matches options (answered_by (record s { stirred = true }) test reply.code z)
      (with_puts (puts_answer reply.code (first_left (λ ask. test (awaited_of ask)) (answered options h) 0 (asks h))) (Came reply ∷ h))) (sym (first_awaited s h test (st.while_open running)))
      (in_mode s h reply test _ now refl st running mode passes)

  by_phase : (s : State) (h : List Event) (reply : Given) (p : Phase) → phase options h ≡ p → Plain p (asks h) → Matches options s h → reason options h ≡ None
      → Matches options (dispatch_reply (record s { stirred = true }) reply p)
      (with_puts (puts_greeting options.streaming p reply.code ++ puts_answer reply.code (answered_now p reply (answered options h) (asks h))) (Came reply ∷ h))
  by_phase s h reply Greeting e plain st running =
      subst (λ (b : Bool). Matches options (
      let next : State = record s { stirred = true } in
      if is_welcome reply.code then (if b then record next { phase = Asking; output = s.output ++ octets ModeStream } else record next { phase = OneByOne }) else close (BadGreeting reply.code) next
      ) (with_puts ((if is_welcome reply.code && options.streaming then ModeStream ∷ [] else []) ++ []) (Came reply ∷ h))) (ap (λ (o : Options). o.streaming) (sym st.options_is))
      (at_greeting options s h reply (is_welcome reply.code) options.streaming refl refl st running e)
  by_phase s h reply Asking e plain st running = at_asking options s h reply (reply.code == 203) (ends_all reply.code) refl refl st running e
  by_phase s h reply Streaming e plain st running =
      let same = answers-same s.held reply (answered options h) (asks h) (st.while_open running).tied.named in
      subst (λ (o : Option (ℕ × Ask)). Matches options
      (answered_by (record s { stirred = true }) (fits_awaited s.held reply) reply.code
      (find (fits_awaited s.held reply) s.window))
      (with_puts (puts_answer reply.code o) (Came reply ∷ h))) same
      (awaited_answer s h reply (fits_awaited s.held reply) (rw e (sym same)) st running (rw e refl)
      (λ found f. inr (no_block-left 0 (asks h) (answered options h) plain)))
  by_phase s h reply OneByOne e plain st running =
      awaited_answer s h reply (belongs_to_awaited reply) (rw e refl) st running (rw e refl) (λ found f. inl (ihave-first reply (answered options h) (asks h) found f))
  by_phase s h reply Leaving e plain st running = shut_reply options s h reply Left st running (rw e refl) (rw e refl)

  -- a reply comes in
  pub stands_came : (s : State) (h : List Event) (reply : Given) → Plain (phase options h) (asks h) → Matches options s h → reason options h ≡ None
      → Matches options (on_reply s reply) (after options h (Came reply))
  unfolding after
  stands_came s h reply plain st running =
      let o = st.while_open running in
      stands_quit options (dispatch_reply (record s { stirred = true }) reply s.phase) (with_puts (puts options h (Came reply)) (Came reply ∷ h))
      (subst (λ (q : Phase). Matches options (dispatch_reply (record s { stirred = true }) reply q) (with_puts (puts options h (Came reply)) (Came reply ∷ h))) (sym o.phase_is) (by_phase s h reply (phase options h) refl plain st running))
