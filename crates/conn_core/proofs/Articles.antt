-- A connection still stands for its transcript after an article is handed in, a call to quit, a break, and octets
-- sent.
use Rattle.std.proofs.Common.{◌≡◌, ℕ, ◌≤◌, ◌<◌, Bool, true, false, List, [], ◌∷◌, ◌++◌, length, refl, sym, ap, subst}
use Rattle.std.proofs.Common.{◌∙◌, arith, find, Option, Some, None, drop}
use Rattle.std.specs.Prelude.{is_some, option_map, nat_lt, ◌||◌}
use Rattle.std.specs.Set.{remove_key}
use Rattle.std.proofs.lemmas.List.{append-nil, drop-drop, length-drop}
use Rattle.reply_reader.specs.declared.fault.ReplyFault.{ReplyFault}
use Rattle.conn_core.specs.Used.{left_from, with_ticket}
use Rattle.conn_core.specs.Commands.{Asks, Handing, Sendable, Gone, Unsendable, Held, Want, is_at, is_of, held_for, ask_with}
use Rattle.conn_core.specs.History.{Event, Put, Handed, Faulted, Broke, Leave, Sent, accepted, put_octets, sent}
use Rattle.conn_core.specs.History.{is_streaming, phase, reason, story, ends, held, wanted, End, ended_tickets}
use Rattle.conn_core.specs.History.{ends_by_loss, first_want, held_wanting, window, with_puts, puts, puts_article}
use Rattle.conn_core.specs.History.{after}
use Rattle.conn_core.specs.State.{State}
use Rattle.conn_core.specs.Stands.{IsOfDebt, Matches, MatchesWhileOpen, claims}
use Rattle.conn_core.specs.Machine.{close, parted, on_fault, asked, handed, handed_for, asked_to_quit, sent_off}
use Rattle.conn_core.specs.declared.options.Options.{Options}
use Rattle.conn_core.specs.declared.reason.Reason.TheVariants.{Reader, Broken}
use Rattle.conn_core.specs.declared.outcome.Outcome.{Outcome}
use Rattle.conn_core.specs.UsedLaws.{find-left_from, left_from-used}
use Rattle.conn_core.specs.HeldLaws.{find-is_at, held_from-gone}
use Rattle.conn_core.specs.StoryLaws.{ended_tickets-append}
use Rattle.conn_core.proofs.Blocks.{remove-none}
use Rattle.conn_core.proofs.Ties.{met-free, tied-ended, tied-met}
use Rattle.conn_core.proofs.Steps.{goes_on, shut_by, put_ask, stands_quit, with_quit-close}

module _ (options : Options) where
  -- the wants for which no article was handed in
  wanted-step : (h : List Event) (number : ℕ) (o : Option (ℕ × Want)) → first_want (story options h) number ≡ o
      → remove_key (is_of number) (wanted options h) ≡ left_from 0 (story options h).wants (with_ticket o (story options h).handed)
  wanted-step h number None e =
      remove-none (is_of number) (wanted options h) (find-left_from (is_of number) (story options h).handed 0 (story options h).wants ∙ ap (option_map (λ (x : ℕ × Want). x.1)) e)
  wanted-step h number (Some found) e = sym (left_from-used (is_of number) (story options h).handed 0 (story options h).wants found.0 found.1 e)

  wanted-handed : (h : List Event) (number : ℕ) (handing : Handing) → wanted options (Handed number handing ∷ h) ≡ remove_key (is_of number) (wanted options h)
  unfolding story
  wanted-handed h number handing = sym (wanted-step h number (first_want (story options h) number) refl)

  -- the first want of that key is the one in the state
  pub wanted_first : (s : State) (h : List Event) (number : ℕ) → Matches options s h → reason options h ≡ None
      → find (is_of number) s.wanted ≡ option_map (λ (want : ℕ × Want). want.1) (first_want (story options h) number)
  wanted_first s h number st running =
      let o = st.while_open running in
      ap (find (is_of number)) o.wanted_is ∙ find-left_from (is_of number) (story options h).handed 0 (story options h).wants

-- an article is handed in, before anything is put out
module _ (options : Options) (s : State) (h : List Event) (number : ℕ) (handing : Handing) (st : Matches options s h) (running : reason options h ≡ None) where
  -- nothing comes out
  hands_nothing : ends_by_loss handing (held_wanting h (story options h) number) ≡ [] → Matches options (record s { wanted = remove_key (is_of number) s.wanted }) (Handed number handing ∷ h)
  unfolding story
  hands_nothing none =
      let o = st.while_open running in
      let same : ends options (Handed number handing ∷ h) ≡ ends options h ++ [] = rw none refl in
      goes_on options s (record s { wanted = remove_key (is_of number) s.wanted }) h (Handed number handing) [] st running refl same refl
      refl refl st.quitting_is st.accepted_is st.recent_is st.off_is st.answered_is refl
      (sym (append-nil s.found)) (record {
        phase_is = o.phase_is;
        held_is = rw (same, append-nil (ends options h)) o.held_is;
        window_is = o.window_is;
        blocks_is = o.blocks_is;
        wanted_is = ap (remove_key (is_of number)) o.wanted_is ∙ sym (wanted-handed options h number handing);
        output_is = o.output_is;
        sent_few = o.sent_few;
        stirred_is = o.stirred_is;
        quiet_is = o.quiet_is;
        tied = tied-met s.held (window options h) s.wanted s.accepted o.tied (is_of number);
      })

  -- the debt comes out
  hands_end : (x : Held) (outcome : Outcome) → claims (window options h) (remove_key (is_of number) s.wanted)
      x.ticket ≡ 0
      → ends_by_loss handing (held_wanting h (story options h) number) ≡ record {
        ticket = x.ticket;
        outcome =
            outcome;
      } ∷ []
      → Matches options (parted (record s { wanted = remove_key (is_of number) s.wanted }) x.ticket (outcome ∷ [])) (Handed number handing ∷ h)
  unfolding story
  hands_end x outcome free one =
      let o = st.while_open running in
      let more : List End = record { ticket = x.ticket; outcome = outcome } ∷ [] in
      let same : ends options (Handed number handing ∷ h) ≡ ends options h ++ more = rw one refl in
      goes_on options s (parted (record s { wanted = remove_key (is_of number) s.wanted }) x.ticket (outcome ∷ [])) h (Handed number handing) more st running refl same refl
      refl refl st.quitting_is st.accepted_is st.recent_is st.off_is st.answered_is refl refl (record {
        phase_is = o.phase_is;
        held_is = ap (remove_key (is_at x.ticket)) o.held_is ∙ sym (rw (same, ended_tickets-append (ends options h) more) (held_from-gone x.ticket (ended_tickets (ends options h)) 0 (accepted h)));
        window_is = o.window_is;
        blocks_is = o.blocks_is;
        wanted_is = ap (remove_key (is_of number)) o.wanted_is ∙ sym (wanted-handed options h number handing);
        output_is = o.output_is;
        sent_few = o.sent_few;
        stirred_is = o.stirred_is;
        quiet_is = o.quiet_is;
        tied = tied-ended s.held (window options h) (remove_key (is_of number) s.wanted) s.accepted
            (tied-met s.held (window options h) s.wanted s.accepted o.tied (is_of number)) x.ticket free;
      })

module _ (options : Options) where
  abbrev IsFreed : State → List Event → ℕ → Held → Type 0
  IsFreed s h number x =
      (option_map (λ (y : Held). y.debt.1.1) (find (is_at x.ticket) s.held) ≡ Some x.debt.1.1)
      × (claims (window options h) (remove_key (is_of number) s.wanted) x.ticket ≡ 0) × (x.ticket < s.accepted)

  -- the debt whose article was handed in has no want left, and no command without an answer
  want-free : (s : State) (h : List Event) (number : ℕ) (x : Held) (want : Option Want)
      → find (is_of number) s.wanted ≡ want → held_for s.held want ≡ Some x
      → MatchesWhileOpen options s h → IsFreed s h number x
  want-free s h number x None e f o = cc
  want-free s h number x (Some want) e f o =
      let free = met-free s.held (window options h) s.wanted s.accepted o.tied (is_of number) want e in
      let same = (find-is_at want.ticket s.held x f).0 in (
        rw (same, f) refl,
        rw same free.0,
        rw same free.1,
      )

  handed-free : (s : State) (h : List Event) (number : ℕ) (x : Held)
      → held_wanting h (story options h) number ≡ Some x → Matches options s h → reason options h ≡ None
      → IsFreed s h number x
  handed-free s h number x e st running =
      let o = st.while_open running in
      want-free s h number x (find (is_of number) s.wanted) refl
      (ap (λ hs. held_for hs (find (is_of number) s.wanted)) o.held_is ∙ ap (held_for (held options h))
      (wanted_first options s h number st running) ∙ e) o

  asked-free : (s : State) (h : List Event) (number : ℕ) (x : Held) (block : List ℕ) (b : Bool) → IsFreed s h number x
      → IsOfDebt s.held (ask_with b x block)
      × (claims (window options h) (remove_key (is_of number) s.wanted) (ask_with b x block).ticket ≡ 0)
      × ((ask_with b x block).ticket < s.accepted)
  asked-free s h number x block true free = free
  asked-free s h number x block false free = free

  handed_by : (s : State) (h : List Event) (number : ℕ) (handing : Handing) (x : Option Held) → held_wanting h (story options h) number ≡ x → Matches options s h → reason options h ≡ None
      → Matches options (handed_for (record s { wanted = remove_key (is_of number) s.wanted }) handing x) (with_puts (puts_article (is_streaming (phase options h)) handing x) (Handed number handing ∷ h))
  handed_by s h number (Sendable block) None e st running = hands_nothing options s h number (Sendable block) st running (rw e refl)
  handed_by s h number (Sendable block) (Some x) e st running =
      let o = st.while_open running in
      let next : State = record s { wanted = remove_key (is_of number) s.wanted } in
      subst (λ (b : Bool). Matches options (asked next (ask_with b x block)) (Put (Asks (ask_with (is_streaming (phase options h)) x block)) ∷ Handed number (Sendable block) ∷ h)) (sym (ap is_streaming o.phase_is))
      (put_ask options next (Handed number (Sendable block) ∷ h) (ask_with (is_streaming (phase options h)) x block)
      (hands_nothing options s h number (Sendable block) st running (rw e refl))
      (λ r w. asked-free s h number x block (is_streaming (phase options h)) (handed-free s h number x e st running)))
  handed_by s h number Gone None e st running = hands_nothing options s h number Gone st running (rw e refl)
  handed_by s h number Gone (Some x) e st running = hands_end options s h number Gone st running x _
      (handed-free s h number x e st running).1 (rw e refl)
  handed_by s h number Unsendable None e st running = hands_nothing options s h number Unsendable st running (rw e refl)
  handed_by s h number Unsendable (Some x) e st running = hands_end options s h number Unsendable st running x _
      (handed-free s h number x e st running).1 (rw e refl)

  -- an article is handed in
  pub stands_handed : (s : State) (h : List Event) (number : ℕ) (handing : Handing) → Matches options s h → reason options h ≡ None
      → Matches options (handed s number handing) (after options h (Handed number handing))
  unfolding after
  stands_handed s h number handing st running =
      let o = st.while_open running in
      let next : State = record s { wanted = remove_key (is_of number) s.wanted } in
      let same : held_for s.held (find (is_of number) s.wanted) ≡ held_wanting h (story options h) number =
      ap (λ hs. held_for hs (find (is_of number) s.wanted)) o.held_is ∙ ap (held_for (held options h)) (wanted_first options s h number st running) in
      stands_quit options (handed_for next handing (held_for s.held (find (is_of number) s.wanted))) (with_puts (puts options h (Handed number handing)) (Handed number handing ∷ h))
      (subst (λ (x : Option Held). Matches options (handed_for next handing x) (with_puts (puts options h (Handed number handing)) (Handed number handing ∷ h))) (sym same)
      (handed_by s h number handing (held_wanting h (story options h) number) refl st running))

  -- what comes in is no reply
  pub stands_faulted : (s : State) (h : List Event) (fault : ReplyFault) → Matches options s h → reason options h ≡ None → Matches options (on_fault s fault) (after options h (Faulted fault))
  unfolding story after
  stands_faulted s h fault st running =
      let closed : is_some (reason options (Faulted fault ∷ h)) ≡ true = rw running refl in
      rw (with_quit-close options (Faulted fault ∷ h) closed)
      (shut_by options s h (Faulted fault) (Reader fault) s.stirred s.quiet st running
      refl refl refl refl refl refl refl)

  -- the connection broke
  pub stands_broke : (s : State) (h : List Event) → Matches options s h → reason options h ≡ None → Matches options (close Broken s) (after options h Broke)
  unfolding story after
  stands_broke s h st running =
      let closed : is_some (reason options (Broke ∷ h)) ≡ true = rw running refl in
      rw (with_quit-close options (Broke ∷ h) closed)
      (shut_by options s h Broke Broken s.stirred s.quiet st running refl refl refl refl refl refl refl)

  -- it is to quit
  pub stands_leave : (s : State) (h : List Event) → Matches options s h → reason options h ≡ None → Matches options (asked_to_quit s) (after options h Leave)
  unfolding story after
  stands_leave s h st running =
      let o = st.while_open running in
      stands_quit options (record s { quitting = true }) (Leave ∷ h) (goes_on options s (record s { quitting = true }) h Leave [] st running refl (sym (append-nil (ends options h))) refl
      refl refl refl st.accepted_is st.recent_is st.off_is st.answered_is refl (sym (append-nil s.found)) (record {
        phase_is = o.phase_is;
        held_is = o.held_is;
        window_is = o.window_is;
        blocks_is = o.blocks_is;
        wanted_is = o.wanted_is;
        output_is = o.output_is;
        sent_few = o.sent_few;
        stirred_is = o.stirred_is;
        quiet_is = o.quiet_is;
        tied = o.tied;
      }))

  -- octets are sent
  pub stands_sent : (s : State) (h : List Event) (count : ℕ) → Matches options s h → reason options h ≡ None → count ≤ length s.output → Matches options (sent_off s count) (Sent count ∷ h)
  unfolding story
  stands_sent s h count st running few =
      let o = st.while_open running in
      let f = o.sent_few in
      let g : count ≤ length (drop (sent h) (put_octets h)) = rw (← o.output_is) few in
      goes_on options s (sent_off s count) h (Sent count) [] st running refl (sym (append-nil (ends options h))) refl
      refl refl st.quitting_is st.accepted_is st.recent_is st.off_is st.answered_is refl
      (sym (append-nil s.found)) (record {
        phase_is = o.phase_is;
        held_is = o.held_is;
        window_is = o.window_is;
        blocks_is = o.blocks_is;
        wanted_is = o.wanted_is;
        output_is = ap (drop count) o.output_is ∙ drop-drop count (sent h) (put_octets h);
        sent_few = omega (arith, length-drop (sent h) (put_octets h));
        stirred_is = ap (λ b. nat_lt 0 count || b) o.stirred_is;
        quiet_is = o.quiet_is;
        tied = o.tied;
      })
