-- While the connection is open, each debt held has one command without an answer or one wanted article, and no other has any.
use Rattle.std.proofs.Common.{◌≡◌, ℕ, ◌+◌, ◌<◌, ◌≤◌, Bool, true, false, List, [], ◌∷◌, ◌++◌, length, refl, sym, ap}
use Rattle.std.proofs.Common.{subst, ◌∙◌, arith, find, Option, Some, None, cond, append-nil, length-append, inl, inr}
use Rattle.std.specs.Prelude.{◌==◌, ◌&&◌, if◌then◌else◌, is_some, nat_lt, option_map}
use Rattle.std.proofs.lemmas.Bool.{cases_lt, eq-eqb}
use Rattle.std.proofs.lemmas.Bool.Decides.{nat_tests}
use Rattle.reply_reader.specs.Stream.{Given}
use Rattle.ledger_core.specs.State.{Owing}
use Rattle.conn_core.specs.Codes.{meaning}
use Rattle.conn_core.specs.Used.{left_from, times}
use Rattle.conn_core.specs.Commands.{Ask, Command, Asks, Handing, Sendable, Gone, Unsendable, Held, Want, ask_with}
use Rattle.conn_core.specs.Commands.{block_of, check_of, held_for, is_at, want_of}
use Rattle.conn_core.specs.History.{Event, Offered, Put, Came, Faulted, Handed, Sent, Tick, Broke, Leave, Taken}
use Rattle.conn_core.specs.History.{accepted, after, answered, answered_ask, asks, closes, ended_tickets, ends}
use Rattle.conn_core.specs.History.{ends_at_close, ends_by_answer, ends_by_loss, first_reason, first_want, held}
use Rattle.conn_core.specs.History.{is_streaming, newcomer, outside, phase, puts_answer, puts_article, puts_block}
use Rattle.conn_core.specs.History.{puts_greeting, reason, story, wanted, wants_at_once, wants_by_answer, window}
use Rattle.conn_core.specs.History.{with_puts}
use Rattle.conn_laws.specs.Laws.{fits_in, open_commands, open_wants, times_held, times_out}
use Rattle.conn_core.specs.Stands.{Arises, Starts, Goes_on}
use Rattle.conn_core.specs.declared.codes.Meaning.{Meaning}
use Rattle.conn_core.specs.declared.codes.Meaning.TheVariants.{Wanted, SendBlock, Later, Final}
use Rattle.conn_core.specs.declared.options.Options.{Options}
use Rattle.conn_core.specs.declared.reason.Reason.{Reason}
use Rattle.conn_core.specs.HeldLaws.{find-is_at, tickets}
use Rattle.conn_core.specs.UsedLaws.{times-append}
use Rattle.conn_laws.proofs.Once.{ends_by, held_or_out, neither-beyond, tickets-more}
use Rattle.conn_core.specs.ClosingLaws.{first_reason-none, needed-open, ready-open, reason-after}
use Rattle.conn_laws.proofs.Right.{answer_is_first}
use Rattle.conn_laws.proofs.Tallies.{tally, times-tally, wanted-handed, wanted-more, wanted-none, window-came}
use Rattle.conn_laws.proofs.Tallies.{window-none, window-put}
use Rattle.conn_laws.proofs.Behind.{article-none, greeting-none, holds-after, holds-greeted}
use Rattle.conn_laws.proofs.Twice.{came-nothing, came-wanted, offered-wanted, one_at, wants_at}

-- 1 for a command about this ticket
abbrev asks_at : ℕ → Ask → ℕ
asks_at p ask = one_at p ask.ticket

abbrev Matches : Options → ℕ → List Event → Type 0
Matches options p h = tally (asks_at p) (window options h) + tally (wants_at p) (wanted options h) ≡ times_held options h p

-- how many debts were accepted at a ticket
abbrev below : ℕ → ℕ → ℕ
below p n = if nat_lt p n then 1 else 0

below-is : (p n : ℕ) → p < n → below p n ≡ 1
below-is p n e = grind (arith, nat_tests)

below-not : (p n : ℕ) → n ≤ p → below p n ≡ 0
below-not p n e = grind (arith, nat_tests)

below-more : (p n : ℕ) → below p (n + 1) ≡ below p n + one_at p n
below-more p n = grind (arith, nat_tests)

accounts : (options : Options) (h : List Event) (p : ℕ) → times_held options h p + times_out options h p ≡ below p (length (accepted h))
accounts options h p =
    elim (cases_lt p (length (accepted h))) [
      | inl few ↦ held_or_out options h p few ∙ sym (below-is p (length (accepted h)) few)
      | inr far ↦ neither-beyond options h p far ∙ sym (below-not p (length (accepted h)) far)
    ]

-- how often a debt comes out by an event
abbrev ended_at : Options → List Event → Event → ℕ → ℕ
ended_at options h e p = times (ended_tickets (ends_by options h e)) p

out-more : (options : Options) (h : List Event) (e : Event) (p : ℕ) → times_out options (e ∷ h) p ≡ times_out options h p + ended_at options h e p
out-more options h e p =
    ap (λ ps. times ps p) (tickets-more options h e) ∙ times-append (ended_tickets (ends options h)) (ended_tickets (ends_by options h e)) p

-- what is held once some came out
held-less : (options : Options) (h : List Event) (e : Event) (p : ℕ) → accepted (e ∷ h) ≡ accepted h → times_held options (e ∷ h) p + ended_at options h e p ≡ times_held options h p
held-less options h e p same =
    let old = accounts options h p in
    let new : times_held options (e ∷ h) p + times_out options (e ∷ h) p ≡ below p (length (accepted h)) =
    accounts options (e ∷ h) p ∙ ap (λ ds. below p (length ds)) same
    in
    let more = out-more options h e p in
    omega (arith, old, new, more)

held-same : (options : Options) (h : List Event) (e : Event) (p : ℕ) → accepted (e ∷ h) ≡ accepted h → ends_by options h e ≡ [] → times_held options (e ∷ h) p ≡ times_held options h p
held-same options h e p same none =
    let less = held-less options h e p same in
    let nothing : ended_at options h e p ≡ 0 = ap (λ es. times (ended_tickets es) p) none in
    omega (arith, less, nothing)

held-one : (options : Options) (h : List Event) (e : Event) (p ticket : ℕ) → accepted (e ∷ h) ≡ accepted h → ended_tickets (ends_by options h e) ≡ ticket ∷ []
    → times_held options (e ∷ h) p + one_at p ticket ≡ times_held options h p
held-one options h e p ticket same one =
    let less = held-less options h e p same in
    let once : ended_at options h e p ≡ one_at p ticket + 0 = ap (λ ps. times ps p) one in
    omega (arith, less, once)

held-more : (options : Options) (h : List Event) (debt : Owing) (p : ℕ) → times_held options (Offered debt ∷ h) p ≡ times_held options h p + one_at p (length (accepted h))
held-more options h debt p =
    let old = accounts options h p in
    let len : length (accepted h ++ debt ∷ []) ≡ length (accepted h) + 1 = omega (arith, length-append (accepted h) (debt ∷ [])) in
    let new : times_held options (Offered debt ∷ h) p + times_out options (Offered debt ∷ h) p ≡ below p (length (accepted h) + 1) =
    accounts options (Offered debt ∷ h) p ∙ ap (below p) len
    in
    let more = out-more options h (Offered debt) p in
    let grown = below-more p (length (accepted h)) in
    omega (arith, old, new, more, grown)

-- a debt that is not found is not held
missing-step : (b : Bool) (y : Held) (rest : Option Held) (n : ℕ) → cond b (Some y) rest ≡ None → (rest ≡ None → n ≡ 0) → cond b 1 0 + n ≡ 0
missing-step true y rest n e later = cc
missing-step false y rest n e later = let none = later e in omega (arith, none)

missing : (k : ℕ) (hs : List Held) → find (is_at k) hs ≡ None → times (tickets hs) k ≡ 0
missing k [] e = refl
missing k (y ∷ hs) e = missing-step (y.ticket == k) y _ _ e (missing k hs)

one-here : (k : ℕ) → one_at k k ≡ 1
one-here k = rw (eq-eqb k k refl) refl

-- a command about a debt goes out
put-ask : (options : Options) (p : ℕ) (g : List Event) (ask : Ask)
    → tally (asks_at p) (window options g) + one_at p ask.ticket + tally (wants_at p) (wanted options g) ≡ times_held options g p → Matches options p (Put (Asks ask) ∷ g)
unfolding story
put-ask options p g ask e = let c = window-put options (asks_at p) g ask in omega (arith, c, e)

put-other : (options : Options) (p : ℕ) (g : List Event) (command : Command) → asks (Put command ∷ g) ≡ asks g → Matches options p g → Matches options p (Put command ∷ g)
unfolding story
put-other options p g command same m =
    subst (λ xs. tally (asks_at p) (left_from 0 xs (answered options g)) + tally (wants_at p) (wanted options g) ≡ times_held options g p) (sym same) m

-- a debt is accepted
after-offered : (options : Options) (p : ℕ) (h : List Event) (debt : Owing) (b : Bool) → wants_at_once options h ≡ b → Matches options p h → Matches options p (after options h (Offered debt))
after-offered options p h debt true e m =
    let wants : tally (wants_at p) (wanted options (Offered debt ∷ h)) ≡ tally (wants_at p) (wanted options h) + one_at p (length (accepted h)) =
    ap (tally (wants_at p)) (offered-wanted options h debt true e) ∙ wanted-more options (wants_at p) h (want_of (newcomer h debt))
    in
    let hold = held-more options h debt p in
    let all : Matches options p (Offered debt ∷ h) = omega (arith, wants, hold, m) in
    holds-after options (Matches options p) (put-other options p) h (Offered debt) [] (rw e refl) all
after-offered options p h debt false e m =
    let wants : tally (wants_at p) (wanted options (Offered debt ∷ h)) ≡ tally (wants_at p) (wanted options h) =
    ap (tally (wants_at p)) (offered-wanted options h debt false e)
    in
    let hold = held-more options h debt p in
    let room : tally (asks_at p) (window options h) + one_at p (length (accepted h)) + tally (wants_at p) (wanted options (Offered debt ∷ h)) ≡ times_held options (Offered debt ∷ h) p =
    omega (arith, wants, hold, m)
    in
    holds-after options (Matches options p) (put-other options p) h (Offered debt) (Asks (check_of (newcomer h debt)) ∷ []) (rw e refl) (put-ask options p (Offered debt ∷ h) (check_of (newcomer h debt)) room)

-- the code of a reply that fits says something
and-first : (a b : Bool) → (a && b) ≡ true → a ≡ true
and-first true b e = refl
and-first false b e = cc

fit-meant : (streaming : Bool) (reply : Given) (ask : Ask) → fits_in streaming reply ask ≡ true → is_some (meaning ask.verb reply.code) ≡ true
fit-meant true reply ask e = and-first (is_some (meaning ask.verb reply.code)) _ e
fit-meant false reply ask e = e

came-ended : (options : Options) (h : List Event) (reply : Given) (o : Option (ℕ × Ask)) → answered_ask options h reply ≡ o → closes options h (Came reply) ≡ None
    → ends_by options h (Came reply) ≡ ends_by_answer (held options h) reply.code o
came-ended options h reply o e still =
    ap (λ (r : Option Reason). ends_by_answer (held options h) reply.code (answered_ask options h reply) ++ ends_at_close r (held options h)) still
    ∙ append-nil (ends_by_answer (held options h) reply.code (answered_ask options h reply))
    ∙ ap (λ (o : Option (ℕ × Ask)). ends_by_answer (held options h) reply.code o) e

module _ (options : Options) (h : List Event) (reply : Given) (command : ℕ × Ask) (e : answered_ask options h reply ≡ Some command)
    (still : closes options h (Came reply) ≡ None) (all : (p : ℕ) → Matches options p h) where
  -- the command that a reply answers is about a debt held
  is-held : find (is_at command.1.ticket) (held options h) ≡ None → ⊥
  is-held none =
      let less = window-came options (asks_at command.1.ticket) h reply command e in
      let here = one-here command.1.ticket in
      let matched = all command.1.ticket in
      let gone = missing command.1.ticket (held options h) none in
      omega (arith, less, here, matched, gone)

  is-meant : meaning command.1.verb reply.code ≡ None → ⊥
  is-meant none =
      let fit = (answer_is_first options h reply command e).fit in
      let some = fit-meant (is_streaming (phase options h)) reply command.1 fit in
      let f : false ≡ true = rw none at some in
      cc

  came-puts : (p : ℕ) (m : Option Meaning) (o : Option Held) → meaning command.1.verb reply.code ≡ m → find (is_at command.1.ticket) (held options h) ≡ o
      → Matches options p (with_puts (puts_block m command.1) (Came reply ∷ h))
  came-puts p m None em eo = absurd (is-held eo)
  came-puts p None (Some x) em eo = absurd (is-meant em)
  came-puts p (Some Wanted) (Some x) em eo =
      let there : x.ticket ≡ command.1.ticket = (find-is_at command.1.ticket (held options h) x eo).0 in
      let same : wants_by_answer (held options h) reply.code (Some command) ≡ want_of x ∷ [] = rw (em, eo) refl in
      let wants : tally (wants_at p) (wanted options (Came reply ∷ h)) ≡ tally (wants_at p) (wanted options h) + one_at p x.ticket =
      ap (tally (wants_at p)) (came-wanted options h reply (Some command) e ∙ ap (λ ws. left_from 0 ((story options h).wants ++ ws) (story options h).handed) same)
      ∙ wanted-more options (wants_at p) h (want_of x)
      in
      let none : ends_by_answer (held options h) reply.code (Some command) ≡ [] = rw (em, eo) refl in
      let hold = held-same options h (Came reply) p refl (came-ended options h reply (Some command) e still ∙ none) in
      let less = window-came options (asks_at p) h reply command e in
      let one : one_at p x.ticket ≡ one_at p command.1.ticket = ap (one_at p) there in
      let matched = all p in
      omega (arith, wants, hold, less, one, matched)
  came-puts p (Some SendBlock) (Some x) em eo =
      let same : wants_by_answer (held options h) reply.code (Some command) ≡ [] = rw em refl in
      let wants : tally (wants_at p) (wanted options (Came reply ∷ h)) ≡ tally (wants_at p) (wanted options h) = ap (tally (wants_at p)) (came-nothing options h reply (Some command) e same) in
      let none : ends_by_answer (held options h) reply.code (Some command) ≡ [] = rw (em, eo) refl in
      let hold = held-same options h (Came reply) p refl (came-ended options h reply (Some command) e still ∙ none) in
      let less = window-came options (asks_at p) h reply command e in
      let matched = all p in
      put-ask options p (Came reply ∷ h) (block_of command.1) (omega (arith, wants, hold, less, matched))
  came-puts p (Some Later) (Some x) em eo =
      let there : x.ticket ≡ command.1.ticket = (find-is_at command.1.ticket (held options h) x eo).0 in
      let same : wants_by_answer (held options h) reply.code (Some command) ≡ [] = rw em refl in
      let wants : tally (wants_at p) (wanted options (Came reply ∷ h)) ≡ tally (wants_at p) (wanted options h) = ap (tally (wants_at p)) (came-nothing options h reply (Some command) e same) in
      let ended : ended_tickets (ends_by_answer (held options h) reply.code (Some command)) ≡ x.ticket ∷ [] = rw (em, eo) refl in
      let hold = held-one options h (Came reply) p x.ticket refl (ap ended_tickets (came-ended options h reply (Some command) e still) ∙ ended) in
      let less = window-came options (asks_at p) h reply command e in
      let one : one_at p x.ticket ≡ one_at p command.1.ticket = ap (one_at p) there in
      let matched = all p in
      omega (arith, wants, hold, less, one, matched)
  came-puts p (Some (Final code)) (Some x) em eo =
      let there : x.ticket ≡ command.1.ticket = (find-is_at command.1.ticket (held options h) x eo).0 in
      let same : wants_by_answer (held options h) reply.code (Some command) ≡ [] = rw em refl in
      let wants : tally (wants_at p) (wanted options (Came reply ∷ h)) ≡ tally (wants_at p) (wanted options h) = ap (tally (wants_at p)) (came-nothing options h reply (Some command) e same) in
      let ended : ended_tickets (ends_by_answer (held options h) reply.code (Some command)) ≡ x.ticket ∷ [] = rw (em, eo) refl in
      let hold = held-one options h (Came reply) p x.ticket refl (ap ended_tickets (came-ended options h reply (Some command) e still) ∙ ended) in
      let less = window-came options (asks_at p) h reply command e in
      let one : one_at p x.ticket ≡ one_at p command.1.ticket = ap (one_at p) there in
      let matched = all p in
      omega (arith, wants, hold, less, one, matched)

after-came : (options : Options) (h : List Event) (reply : Given) (o : Option (ℕ × Ask)) → answered_ask options h reply ≡ o → closes options h (Came reply) ≡ None
    → ((p : ℕ) → Matches options p h) → (p : ℕ) → Matches options p (after options h (Came reply))
after-came options h reply None e still all p =
    let wants : tally (wants_at p) (wanted options (Came reply ∷ h)) ≡ tally (wants_at p) (wanted options h) = ap (tally (wants_at p)) (came-nothing options h reply None e refl) in
    let open_ones : tally (asks_at p) (window options (Came reply ∷ h)) ≡ tally (asks_at p) (window options h) = ap (tally (asks_at p)) (window-none options h reply e) in
    let hold = held-same options h (Came reply) p refl (came-ended options h reply None e still) in
    let matched = all p in
    let here : Matches options p (Came reply ∷ h) = omega (arith, wants, open_ones, hold, matched) in
    holds-after options (Matches options p) (put-other options p) h (Came reply) (puts_greeting options.streaming (phase options h) reply.code ++ [])
    (ap (λ (o : Option (ℕ × Ask)). puts_greeting options.streaming (phase options h) reply.code ++ puts_answer reply.code o) e)
    (holds-greeted options (Matches options p) (put-other options p) options.streaming (phase options h) reply.code (Came reply ∷ h) here)
after-came options h reply (Some command) e still all p =
    let quiet = greeting-none options.streaming (phase options h) reply (answered options h) (asks h) command e in
    holds-after options (Matches options p) (put-other options p) h (Came reply) (puts_answer reply.code (Some command))
    (ap (λ cs. cs ++ puts_answer reply.code (answered_ask options h reply)) quiet ∙ ap (λ (o : Option (ℕ × Ask)). puts_answer reply.code o) e)
    (came-puts options h reply command e still all p (meaning command.1.verb reply.code) _ refl refl)

-- an article is handed in
ask-ticket : (p : ℕ) (streaming : Bool) (x : Held) (block : List ℕ) → one_at p (ask_with streaming x block).ticket ≡ one_at p x.ticket
ask-ticket p true x block = refl
ask-ticket p false x block = refl

handed-ended : (options : Options) (h : List Event) (number : ℕ) (handing : Handing) (o : Option (ℕ × Want)) → first_want (story options h) number ≡ o
    → ends_by options h (Handed number handing) ≡ ends_by_loss handing (held_for (held options h) (option_map (λ (w : ℕ × Want). w.1) o))
handed-ended options h number handing o e =
    ap (λ (o : Option (ℕ × Want)). ends_by_loss handing (held_for (held options h) (option_map (λ (w : ℕ × Want). w.1) o))) e

module _ (options : Options) (h : List Event) (number : ℕ) (want : ℕ × Want) (e : first_want (story options h) number ≡ Some want) (all : (p : ℕ) → Matches options p h) where
  -- the article that is handed in is wanted for a debt held
  is-wanted : find (is_at want.1.ticket) (held options h) ≡ None → ⊥
  is-wanted none =
      let less = wanted-handed options (wants_at want.1.ticket) h number Gone want e in
      let here = one-here want.1.ticket in
      let matched = all want.1.ticket in
      let gone = missing want.1.ticket (held options h) none in
      omega (arith, less, here, matched, gone)

  handed-lost : (p : ℕ) (handing : Handing) (x : Held) → find (is_at want.1.ticket) (held options h) ≡ Some x → ended_tickets (ends_by options h (Handed number handing)) ≡ x.ticket ∷ []
      → Matches options p (Handed number handing ∷ h)
  handed-lost p handing x eo ended =
      let there : x.ticket ≡ want.1.ticket = (find-is_at want.1.ticket (held options h) x eo).0 in
      let hold = held-one options h (Handed number handing) p x.ticket refl ended in
      let less = wanted-handed options (wants_at p) h number handing want e in
      let one : one_at p x.ticket ≡ one_at p want.1.ticket = ap (one_at p) there in
      let matched = all p in
      omega (arith, hold, less, one, matched)

  handed-puts : (p : ℕ) (handing : Handing) (o : Option Held) → find (is_at want.1.ticket) (held options h) ≡ o
      → Matches options p (with_puts (puts_article (is_streaming (phase options h)) handing o) (Handed number handing ∷ h))
  handed-puts p handing None eo = absurd (is-wanted eo)
  handed-puts p (Sendable block) (Some x) eo =
      let there : x.ticket ≡ want.1.ticket = (find-is_at want.1.ticket (held options h) x eo).0 in
      let none : ends_by options h (Handed number (Sendable block)) ≡ [] =
      handed-ended options h number (Sendable block) (Some want) e ∙ ap (λ (o : Option Held). ends_by_loss (Sendable block) o) eo
      in
      let hold = held-same options h (Handed number (Sendable block)) p refl none in
      let less = wanted-handed options (wants_at p) h number (Sendable block) want e in
      let one : one_at p x.ticket ≡ one_at p want.1.ticket = ap (one_at p) there in
      let placed = ask-ticket p (is_streaming (phase options h)) x block in
      let matched = all p in
      put-ask options p (Handed number (Sendable block) ∷ h) (ask_with (is_streaming (phase options h)) x block) (omega (arith, hold, less, one, placed, matched))
  handed-puts p Gone (Some x) eo =
      handed-lost p Gone x eo
      (ap ended_tickets (handed-ended options h number Gone (Some want) e ∙ ap (λ (o : Option Held). ends_by_loss Gone o) eo))
  handed-puts p Unsendable (Some x) eo =
      handed-lost p Unsendable x eo
      (ap ended_tickets (handed-ended options h number Unsendable (Some want) e ∙ ap (λ (o : Option Held). ends_by_loss Unsendable o) eo))

after-handed : (options : Options) (h : List Event) (number : ℕ) (handing : Handing) (o : Option (ℕ × Want)) → first_want (story options h) number ≡ o
    → ((p : ℕ) → Matches options p h) → (p : ℕ) → Matches options p (after options h (Handed number handing))
after-handed options h number handing None e all p =
    let wants : tally (wants_at p) (wanted options (Handed number handing ∷ h)) ≡ tally (wants_at p) (wanted options h) = ap (tally (wants_at p)) (wanted-none options h number handing e) in
    let hold = held-same options h (Handed number handing) p refl (handed-ended options h number handing None e) in
    let matched = all p in
    let here : Matches options p (Handed number handing ∷ h) = omega (arith, wants, hold, matched) in
    holds-after options (Matches options p) (put-other options p) h (Handed number handing) []
    (ap (λ (o : Option (ℕ × Want)). puts_article (is_streaming (phase options h)) handing (held_for (held options h) (option_map (λ (w : ℕ × Want). w.1) o))) e ∙ article-none (is_streaming (phase options h)) handing)
    here
after-handed options h number handing (Some want) e all p =
    holds-after options (Matches options p) (put-other options p) h (Handed number handing) (puts_article (is_streaming (phase options h)) handing (find (is_at want.1.ticket) (held options h)))
    (ap (λ (o : Option (ℕ × Want)). puts_article (is_streaming (phase options h)) handing (held_for (held options h) (option_map (λ (w : ℕ × Want). w.1) o))) e)
    (handed-puts options h number want e all p handing _ refl)

-- the other events that do not close change nothing
tick-same : (options : Options) (p : ℕ) (h : List Event) (now : ℕ) → closes options h (Tick now) ≡ None → Matches options p h → Matches options p (Tick now ∷ h)
unfolding story
tick-same options p h now still m =
    m ∙ sym (held-same options h (Tick now) p refl (ap (λ (r : Option Reason). ends_at_close r (held options h)) still))

leave-same : (options : Options) (p : ℕ) (h : List Event) → Matches options p h → Matches options p (Leave ∷ h)
unfolding story
leave-same options p h m = m

sent-same : (options : Options) (p : ℕ) (h : List Event) (count : ℕ) → Matches options p h → Matches options p (Sent count ∷ h)
unfolding story
sent-same options p h count m = m

taken-same : (options : Options) (p : ℕ) (h : List Event) → Matches options p h → Matches options p (Taken ∷ h)
unfolding story
taken-same options p h m = m

first-none : (r c : Option Reason) → r ≡ None → first_reason r c ≡ None → c ≡ None
first-none None c q e = e
first-none (Some why) c q e = cc

-- an event while it is open, that leaves it open
event-open : (options : Options) (g : List Event) (e : Event) → ((p : ℕ) → Matches options p g)
    → (closes options g e ≡ None → (p : ℕ) → Matches options p (after options g e))
    → reason options g ≡ None → reason options (after options g e) ≡ None → (p : ℕ) → Matches options p (after options g e)
event-open options g e all step q running p =
    step (first-none (reason options g) (closes options g e) q (sym (reason-after options g e) ∙ running)) p

-- the same, if the event is ignored once closed
outside-open : (options : Options) (g : List Event) (e : Event) → (reason options g ≡ None → (p : ℕ) → Matches options p g)
    → (closes options g e ≡ None → ((p : ℕ) → Matches options p g) → (p : ℕ) → Matches options p (after options g e))
    → (r : Option Reason) → reason options g ≡ r → reason options (outside options g e) ≡ None → (p : ℕ) → Matches options p (outside options g e)
outside-open options g e before step None q running p =
    let here : is_some (reason options g) ≡ false = ap is_some q in
    let now : reason options (after options g e) ≡ None = subst (λ b. reason options (if b then g else after options g e) ≡ None) here running in
    subst (λ b. Matches options p (if b then g else after options g e)) (sym here)
    (event-open options g e (before q) (λ still. step still (before q)) q now p)
outside-open options g e before step (Some why) q running p =
    let here : is_some (reason options g) ≡ true = ap is_some q in
    let now : reason options g ≡ None = subst (λ b. reason options (if b then g else after options g e) ≡ None) here running in
    subst (λ b. Matches options p (if b then g else after options g e)) (sym here) (before now p)

noted-open : (options : Options) (g : List Event) (count : ℕ) → (reason options g ≡ None → (p : ℕ) → Matches options p g) → (b : Bool)
    → reason options (if b then g else Sent count ∷ g) ≡ None → (p : ℕ) → Matches options p (if b then g else Sent count ∷ g)
noted-open options g count before true running p = before running p
noted-open options g count before false running p = sent-same options p g count (before (sym (first_reason-none (reason options g)) ∙ running) p)

matches : (options : Options) (h : List Event) → Arises options h → reason options h ≡ None → (p : ℕ) → Matches options p h
unfolding story
matches options h Starts running p = refl
matches options h (Goes_on g (Offered debt) a ready) running p =
    after-offered options p g debt _ refl (matches options g a (ready-open (reason options g) _ _ ready) p)
matches options h (Goes_on g (Came reply) a can) running p =
    outside-open options g (Came reply) (matches options g a) (λ still all. after-came options g reply _ refl still all) (reason options g) refl running p
matches options h (Goes_on g (Faulted fault) a can) running p =
    outside-open options g (Faulted fault) (matches options g a) (λ still all p. cc) (reason options g) refl running p
matches options h (Goes_on g (Handed number handing) a some) running p =
    after-handed options g number handing _ refl (matches options g a (needed-open (reason options g) _ some)) p
matches options h (Goes_on g (Sent count) a few) running p = noted-open options g count (matches options g a) (is_some (reason options g)) running p
matches options h (Goes_on g (Tick now) a can) running p =
    outside-open options g (Tick now) (matches options g a) (λ still all p. holds-after options (Matches options p) (put-other options p) g (Tick now) [] refl (tick-same options p g now still (all p))) (reason options g) refl running p
matches options h (Goes_on g Broke a can) running p =
    outside-open options g Broke (matches options g a) (λ still all p. cc) (reason options g) refl running p
matches options h (Goes_on g Leave a can) running p =
    outside-open options g Leave (matches options g a) (λ still all p. holds-after options (Matches options p) (put-other options p) g Leave [] refl (leave-same options p g (all p))) (reason options g) refl running p
matches options h (Goes_on g (Put command) a never) running p = absurd never
matches options h (Goes_on g Taken a few) running p = taken-same options p g (matches options g a (sym (first_reason-none (reason options g)) ∙ running) p)

-- no debt held is forgotten
pub none_forgotten : (options : Options) (h : List Event) (ticket : ℕ) → Arises options h → reason options h ≡ None
    → open_commands options h ticket + open_wants options h ticket ≡ times_held options h ticket
none_forgotten options h ticket a running =
    let c = times-tally (λ (ask : Ask). ask.ticket) (window options h) ticket in
    let w = times-tally (λ (want : Want). want.ticket) (wanted options h) ticket in
    let all = matches options h a running ticket in
    omega (arith, c, w, all)
