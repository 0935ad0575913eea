-- Whatever happens on a connection turns some of the debts that it holds into one outcome each: it has the same numbers
-- as before.
use Rattle.std.proofs.Common.{◌≡◌, ℕ, zero, suc, ◌+◌, ◌≤◌, Bool, true, false, cond, Option, None, Some, List, [], ◌∷◌}
use Rattle.std.proofs.Common.{◌++◌, length, map, drop, find, refl, sym, ap, ◌∙◌, subst, arith, append_assoc, append-nil}
use Rattle.std.specs.Prelude.{◌==◌, if◌then◌else◌, is_some, option_map}
use Rattle.std.specs.Set.{remove_key}
use Rattle.std.proofs.lemmas.Bool.{eq-eqb}
use Rattle.ledger_core.specs.State.{Owing}
use Rattle.conn_core.specs.StoryLaws.{ended_tickets-append, ends-offered, ends_below}
use Rattle.conn_core.specs.HeldLaws.{ended_tickets-backs, find-is_at, held_from-append, held_from-gone, tickets}
use Rattle.conn_core.specs.Codes.{meaning}
use Rattle.conn_core.specs.Commands.{Ask, Command, Gone, Handing, Held, Quit, Sendable, Unsendable, Want, held_for}
use Rattle.conn_core.specs.Commands.{is_at}
use Rattle.conn_core.specs.History.{End, Event, Offered, Put, Came, Faulted, Handed, Sent, Tick, Broke, Leave, Taken}
use Rattle.conn_core.specs.History.{accepted, after, answered, answered_now, asks, backs, closes, closes_in}
use Rattle.conn_core.specs.History.{ended_tickets, ends, ends_at_close, ends_by_answer, ends_by_loss, ends_by_meaning}
use Rattle.conn_core.specs.History.{first_want, held, held_from, is_quit_due, noted, outcomes, outside, phase, puts}
use Rattle.conn_core.specs.History.{reason, story, taken, with_puts}
use Rattle.conn_core.specs.Used.{times}
use Rattle.conn_core.specs.declared.codes.Meaning.{Meaning}
use Rattle.conn_core.specs.declared.codes.Meaning.TheVariants.{Wanted, SendBlock, Later, Final}
use Rattle.conn_core.specs.declared.options.Options.{Options}
use Rattle.conn_core.specs.declared.outcome.Outcome.{Outcome}
use Rattle.conn_core.specs.declared.outcome.Outcome.TheVariants.{Deferred, Final as Answered, Lost}
use Rattle.ledger_core.specs.declared.note.Cause.TheVariants.{Missing, Unsendable as Unfit}
use Rattle.conn_core.specs.declared.phase.Phase.{Phase}
use Rattle.conn_core.specs.declared.phase.Phase.TheVariants.{Greeting, Asking, Streaming, OneByOne, Leaving}
use Rattle.conn_core.specs.declared.reason.Reason.{Reason}
use Rattle.peer_queue.specs.Settled.{key_in}
use Rattle.world_core.specs.Past.{ConnPast}
use Rattle.world_core.specs.Exchange.{unsettled, with_transcript}
use Rattle.world_core.specs.Sound.{numbers_at}

-- the numbers of held debts, and of debts that came out
abbrev pub held_numbers : List Held → List ℕ
held_numbers held = map (λ (x : Held). x.debt.0) held

abbrev pub end_numbers : List End → List ℕ
end_numbers ends = map (λ (x : End). key_in x.outcome) ends

pub times_both : (xs ys : List ℕ) (n : ℕ) → times (xs ++ ys) n ≡ times xs n + times ys n
times_both [] ys n = omega arith
times_both (x ∷ xs) ys n = omega (arith, times_both xs ys n)

one_out : (b c : Bool) (n : ℕ) (y x : Held) (left : List Held) → cond b (Some y) (find (is_at n) left) ≡ Some x
    → (m : ℕ)
    → (find (is_at n) left ≡ Some x
    → times (x.debt.0 ∷ []) m + times (held_numbers (remove_key (is_at n) left)) m ≡ times (held_numbers left) m)
    → times (x.debt.0 ∷ []) m + times (held_numbers (cond b left (y ∷ remove_key (is_at n) left))) m
    ≡ times (held_numbers (y ∷ left)) m
one_out true c n y x left is m rest =
    let same : y ≡ x = cc in
    omega (arith, ap (λ (z : Held). times (z.debt.0 ∷ []) m) same)
one_out false c n y x left is m rest = let r = rest is in omega (arith, r)

-- one of the held debts comes out
pub find_out : (k : ℕ) (hs : List Held) (x : Held) → find (is_at k) hs ≡ Some x → (m : ℕ)
    → times (x.debt.0 ∷ []) m + times (held_numbers (remove_key (is_at k) hs)) m ≡ times (held_numbers hs) m
find_out k [] x is m = let never : None ≡ Some x = is in cc
find_out k (y ∷ hs) x is m = one_out (y.ticket == k) true k y x hs is m (λ e. find_out k hs x e m)

numbers_backs : (hs : List Held) → end_numbers (backs hs) ≡ held_numbers hs
numbers_backs [] = refl
numbers_backs (x ∷ hs) = ap (λ l. x.debt.0 ∷ l) (numbers_backs hs)

-- without the debts at these tickets
abbrev without : List ℕ → List Held → List Held
without [] hs = hs
without (k ∷ ks) hs = without ks (remove_key (is_at k) hs)

removed : (ks gone : List ℕ) (debts : List Owing) → held_from 0 debts (gone ++ ks) ≡ without ks (held_from 0 debts gone)
removed [] gone debts = ap (held_from 0 debts) (append-nil gone)
removed (k ∷ ks) gone debts =
    ap (held_from 0 debts) (sym (append_assoc gone (k ∷ []) ks))
    ∙ (removed ks (gone ++ k ∷ []) debts ∙ ap (without ks) (held_from-gone k gone 0 debts))

without_all : (hs : List Held) → without (tickets hs) hs ≡ []
without_all [] = refl
without_all (x ∷ hs) =
    ap (λ (b : Bool). without (tickets hs) (cond b hs (x ∷ remove_key (is_at x.ticket) hs)))
    (eq-eqb x.ticket x.ticket refl) ∙ without_all hs

-- these debts come out of the held ones, and those are left
module _ (debts : List Owing) (gone : List ℕ) where
  abbrev still : List Held
  still = held_from 0 debts gone

  abbrev Balances : List End → Type 0
  Balances more = (m : ℕ) → times (end_numbers more) m
      + times (held_numbers (held_from 0 debts (gone ++ ended_tickets more))) m
      ≡ times (held_numbers still) m

  none_out : Balances []
  none_out = λ m.
      let same = ap (λ g. times (held_numbers (held_from 0 debts g)) m) (append-nil gone) in
      omega (arith, same)

  single_out : (k : ℕ) (x : Held) (outcome : Outcome) → find (is_at k) still ≡ Some x → key_in outcome ≡ x.debt.0
      → Balances (record { ticket = x.ticket; outcome = outcome } ∷ [])
  single_out k x outcome is own = λ m.
      let at : x.ticket ≡ k = (find-is_at k still x is).0 in
      rw (own, at, held_from-gone k gone 0 debts) (find_out k still x is m)

  meaning_out : (k : ℕ) (m : Option Meaning) (o : Option Held) → find (is_at k) still ≡ o
      → Balances (ends_by_meaning m o)
  meaning_out k m None is = none_out
  meaning_out k None (Some x) is = none_out
  meaning_out k (Some Wanted) (Some x) is = none_out
  meaning_out k (Some SendBlock) (Some x) is = none_out
  meaning_out k (Some Later) (Some x) is = single_out k x (Deferred (record { debt = x.debt })) is refl
  meaning_out k (Some (Final code)) (Some x) is =
      single_out k x (Answered (record { debt = x.debt; code = code })) is refl

  answer_out : (code : ℕ) (o : Option (ℕ × Ask)) → Balances (ends_by_answer still code o)
  answer_out code None = none_out
  answer_out code (Some command) = meaning_out command.1.ticket (meaning command.1.verb code) _ refl

  loss_out : (handing : Handing) (k : ℕ) (o : Option Held) → find (is_at k) still ≡ o
      → Balances (ends_by_loss handing o)
  loss_out handing k None is = none_out
  loss_out (Sendable block) k (Some x) is = none_out
  loss_out Gone k (Some x) is = single_out k x (Lost x.debt Missing) is refl
  loss_out Unsendable k (Some x) is = single_out k x (Lost x.debt Unfit) is refl

  want_out : (handing : Handing) (want : Option Want) → Balances (ends_by_loss handing (held_for still want))
  want_out handing None = none_out
  want_out handing (Some want) = loss_out handing want.ticket _ refl

  close_out : (why : Option Reason) → Balances (ends_at_close why still)
  close_out None = none_out
  close_out (Some why) = λ m.
      let left : held_from 0 debts (gone ++ ended_tickets (backs still)) ≡ [] =
      ap (λ ks. held_from 0 debts (gone ++ ks)) (ended_tickets-backs still)
      ∙ (removed (tickets still) gone debts ∙ without_all still) in
      rw (left, numbers_backs still) (omega arith)

  both_out : (code : ℕ) (o : Option (ℕ × Ask)) → Balances (ends_by_answer still code o ++ [])
  both_out code o = subst Balances (sym (append-nil (ends_by_answer still code o))) (answer_out code o)

  streaming_out : (code : ℕ) (o : Option (ℕ × Ask))
      → Balances (ends_by_answer still code o ++ ends_at_close (closes_in Streaming o code) still)
  streaming_out code None = close_out (closes_in Streaming None code)
  streaming_out code (Some command) = both_out code (Some command)

  one_by_one_out : (code : ℕ) (o : Option (ℕ × Ask))
      → Balances (ends_by_answer still code o ++ ends_at_close (closes_in OneByOne o code) still)
  one_by_one_out code None = close_out (closes_in OneByOne None code)
  one_by_one_out code (Some command) = both_out code (Some command)

  -- what a reply brings out: it answers a command, or closes the connection
  came_out : (p : Phase) (reply : _) (done : List ℕ) (sent : List Ask)
      → Balances (ends_by_answer still reply.code (answered_now p reply done sent)
      ++ ends_at_close (closes_in p (answered_now p reply done sent) reply.code) still)
  came_out Greeting reply done sent = close_out (closes_in Greeting None reply.code)
  came_out Asking reply done sent = close_out (closes_in Asking None reply.code)
  came_out Streaming reply done sent = streaming_out reply.code (answered_now Streaming reply done sent)
  came_out OneByOne reply done sent = one_by_one_out reply.code (answered_now OneByOne reply done sent)
  came_out Leaving reply done sent = close_out (closes_in Leaving None reply.code)

-- ---- transcripts

module _ (options : Options) where
  -- the later transcript has more outcomes, whose debts were held; none was taken, and no debt was accepted
  pub record GoesOn (h later : List Event) : Type 0 where
    pub more : List End
    pub ends_are : ends options later ≡ ends options h ++ more
    pub taken_is : taken later ≡ taken h
    pub balance : (m : ℕ) → times (end_numbers more) m + times (held_numbers (held options later)) m
        ≡ times (held_numbers (held options h)) m

  goes_by : (h later : List Event) (more : List End) → ends options later ≡ ends options h ++ more
      → accepted later ≡ accepted h
      → taken later ≡ taken h → Balances (accepted h) (ended_tickets (ends options h)) more → GoesOn h later
  goes_by h later more ends_are same taken_is balances = record {
    more = more;
    ends_are = ends_are;
    taken_is = taken_is;
    balance = λ m.
        let left : held options later ≡ held_from 0 (accepted h) (ended_tickets (ends options h) ++ ended_tickets more) =
        ap (λ xs. held_from 0 (accepted later) (ended_tickets xs)) ends_are
        ∙ (ap (λ ds. held_from 0 ds (ended_tickets (ends options h ++ more))) same
        ∙ ap (held_from 0 (accepted h)) (ended_tickets-append (ends options h) more)) in
        ap (λ hs. times (end_numbers more) m + times (held_numbers hs) m) left ∙ balances m;
  }

  pub goes_nowhere : (h : List Event) → GoesOn h h
  goes_nowhere h = record {
    more = [];
    ends_are = sym (append-nil (ends options h));
    taken_is = refl;
    balance =
        λ m. omega arith;
  }

  ends_both : (xs ys : List End) → end_numbers (xs ++ ys) ≡ end_numbers xs ++ end_numbers ys
  ends_both [] ys = refl
  ends_both (x ∷ xs) ys = ap (λ l. key_in x.outcome ∷ l) (ends_both xs ys)

  pub goes_then : (h mid later : List Event) → GoesOn h mid → GoesOn mid later → GoesOn h later
  goes_then h mid later one other = record {
    more = one.more ++ other.more;
    ends_are = other.ends_are
        ∙ (ap (λ l. l ++ other.more) one.ends_are ∙ append_assoc (ends options h) one.more other.more);
    taken_is = other.taken_is ∙ one.taken_is;
    balance = λ m.
        let split = ap (λ l. times l m) (ends_both one.more other.more)
        ∙ times_both (end_numbers one.more) (end_numbers other.more) m in
        omega (arith, split, one.balance m, other.balance m);
  }

  -- an event that accepts no debt and takes no outcome
  abbrev Keeps : Event → Type 0
  Keeps (Offered debt) = ⊥
  Keeps (Put command) = Unit {0}
  Keeps (Came reply) = Unit {0}
  Keeps (Faulted fault) = Unit {0}
  Keeps (Handed number handing) = Unit {0}
  Keeps (Sent count) = Unit {0}
  Keeps (Tick now) = Unit {0}
  Keeps Broke = Unit {0}
  Keeps Leave = Unit {0}
  Keeps Taken = ⊥

  goes_quiet : (h : List Event) (e : Event) → ends options (e ∷ h) ≡ ends options h → accepted (e ∷ h) ≡ accepted h
      → taken (e ∷ h) ≡ taken h → GoesOn h (e ∷ h)
  goes_quiet h e ends_are same taken_is =
      goes_by h (e ∷ h) [] (ends_are ∙ sym (append-nil (ends options h))) same taken_is
      (none_out (accepted h) (ended_tickets (ends options h)))

  goes_close : (h : List Event) (e : Event) (why : Option Reason)
      → ends options (e ∷ h) ≡ ends options h ++ ends_at_close why (held options h)
      → accepted (e ∷ h) ≡ accepted h → taken (e ∷ h) ≡ taken h → GoesOn h (e ∷ h)
  goes_close h e why ends_are same taken_is =
      goes_by h (e ∷ h) _ ends_are same taken_is (close_out (accepted h) (ended_tickets (ends options h)) why)

  goes_cons : (h : List Event) (e : Event) → Keeps e → GoesOn h (e ∷ h)
  unfolding story
  goes_cons h (Offered debt) keeps = absurd keeps
  goes_cons h (Put command) keeps = goes_quiet h (Put command) refl refl refl
  goes_cons h (Came reply) keeps =
      goes_by h (Came reply ∷ h) _ (append_assoc (ends options h) _ _) refl refl
      (came_out (accepted h) (ended_tickets (ends options h)) (phase options h) reply (answered options h) (asks h))
  goes_cons h (Faulted fault) keeps = goes_close h (Faulted fault) (closes options h (Faulted fault)) refl refl refl
  goes_cons h (Handed number handing) keeps =
      goes_by h (Handed number handing ∷ h) _ refl refl refl
      (want_out (accepted h) (ended_tickets (ends options h)) handing
      (option_map (λ (want : ℕ × Want). want.1) (first_want (story options h) number)))
  goes_cons h (Sent count) keeps = goes_quiet h (Sent count) refl refl refl
  goes_cons h (Tick now) keeps = goes_close h (Tick now) (closes options h (Tick now)) refl refl refl
  goes_cons h Broke keeps = goes_close h Broke (closes options h Broke) refl refl refl
  goes_cons h Leave keeps = goes_quiet h Leave refl refl refl
  goes_cons h Taken keeps = absurd keeps

  pub goes_puts : (commands : List Command) (h : List Event) → GoesOn h (with_puts commands h)
  goes_puts [] h = goes_nowhere h
  goes_puts (command ∷ commands) h =
      goes_then h (Put command ∷ h) _ (goes_cons h (Put command) tt) (goes_puts commands (Put command ∷ h))

  quit_step : (b : Bool) (h : List Event) → GoesOn h (if b then Put Quit ∷ h else h)
  quit_step true h = goes_cons h (Put Quit) tt
  quit_step false h = goes_nowhere h

  -- an event, and then what it puts out
  pub goes_after : (h : List Event) (e : Event) → Keeps e → GoesOn h (after options h e)
  unfolding after
  goes_after h e keeps =
      goes_then h (e ∷ h) _ (goes_cons h e keeps)
      (goes_then (e ∷ h) (with_puts (puts options h e) (e ∷ h)) _ (goes_puts (puts options h e) (e ∷ h))
      (quit_step (is_quit_due options (with_puts (puts options h e) (e ∷ h))) (with_puts (puts options h e) (e ∷ h))))

  -- ---- a debt is accepted

  ends_offered : (h : List Event) (debt : Owing) → ends options (Offered debt ∷ h) ≡ ends options h
  ends_offered h debt = ends-offered options h debt

  pub outcomes_offered : (h : List Event) (debt : Owing) → outcomes options (Offered debt ∷ h) ≡ outcomes options h
  outcomes_offered h debt = ap (map (λ (x : End). x.outcome)) (ends_offered h debt)

  held_offered : (h : List Event) (debt : Owing)
      → held options (Offered debt ∷ h) ≡ held options h ++ record { ticket = length (accepted h); debt = debt } ∷ []
  held_offered h debt =
      ap (λ es. held_from 0 (accepted h ++ debt ∷ []) (ended_tickets es)) (ends_offered h debt)
      ∙ held_from-append (ended_tickets (ends options h)) 0 (accepted h) debt (length (accepted h)) (omega arith)
      (ends_below options h)

  held_numbers_both : (xs ys : List Held) → held_numbers (xs ++ ys) ≡ held_numbers xs ++ held_numbers ys
  held_numbers_both [] ys = refl
  held_numbers_both (x ∷ xs) ys = ap (λ l. x.debt.0 ∷ l) (held_numbers_both xs ys)

  -- what it puts out takes no outcome and ends no debt
  pub goes_offered : (h : List Event) (debt : Owing) → GoesOn (Offered debt ∷ h) (after options h (Offered debt))
  unfolding after
  goes_offered h debt =
      goes_then (Offered debt ∷ h) (with_puts (puts options h (Offered debt)) (Offered debt ∷ h)) _
      (goes_puts (puts options h (Offered debt)) (Offered debt ∷ h))
      (quit_step (is_quit_due options (with_puts (puts options h (Offered debt)) (Offered debt ∷ h)))
      (with_puts (puts options h (Offered debt)) (Offered debt ∷ h)))

  outside_step : (b : Bool) (h later : List Event) → GoesOn h later → GoesOn h (if b then h else later)
  outside_step true h later goes = goes_nowhere h
  outside_step false h later goes = goes

  pub goes_outside : (h : List Event) (e : Event) → Keeps e → GoesOn h (outside options h e)
  goes_outside h e keeps = outside_step (is_some (reason options h)) h (after options h e) (goes_after h e keeps)

  -- octets count as sent
  pub goes_noted : (h : List Event) (count : ℕ) → GoesOn h (noted options h (Sent count))
  goes_noted h count =
      outside_step (is_some (reason options h)) h (Sent count ∷ h) (goes_cons h (Sent count) tt)

  -- ---- the numbers that the connection has

  drop_both : {A : Type 0} (n : ℕ) (xs ys : List A) → n ≤ length xs → drop n (xs ++ ys) ≡ drop n xs ++ ys
  drop_both zero xs ys few = refl
  drop_both (suc n) [] ys few = absurd (omega (arith, few))
  drop_both (suc n) (x ∷ xs) ys few = drop_both n xs ys (omega (arith, few))

  outcomes_both : (xs ys : List End)
      → map (λ (x : End). x.outcome) (xs ++ ys) ≡ map (λ (x : End). x.outcome) xs ++ map (λ (x : End). x.outcome) ys
  outcomes_both [] ys = refl
  outcomes_both (x ∷ xs) ys = ap (λ l. x.outcome ∷ l) (outcomes_both xs ys)

  -- it has the outcomes that it had, and more
  pub outcomes_are : (h later : List Event) → (goes : GoesOn h later)
      → outcomes options later ≡ outcomes options h ++ map (λ (x : End). x.outcome) goes.more
  outcomes_are h later goes = ap (map (λ (x : End). x.outcome)) goes.ends_are ∙ outcomes_both (ends options h) goes.more

  numbers_both : (xs ys : List Outcome) → map key_in (xs ++ ys) ≡ map key_in xs ++ map key_in ys
  numbers_both [] ys = refl
  numbers_both (x ∷ xs) ys = ap (λ l. key_in x ∷ l) (numbers_both xs ys)

  numbers_ends : (xs : List End) → map key_in (map (λ (x : End). x.outcome) xs) ≡ end_numbers xs
  numbers_ends [] = refl
  numbers_ends (x ∷ xs) = ap (λ l. key_in x.outcome ∷ l) (numbers_ends xs)

  pub same_numbers : (conn later : ConnPast) → later.settled ≡ conn.settled
      → GoesOn conn.transcript later.transcript → conn.settled ≤ length (outcomes options conn.transcript) → (m : ℕ)
      → times (numbers_at options later) m ≡ times (numbers_at options conn) m
  same_numbers conn later still goes few m =
      let left = ap (λ n. drop n (outcomes options later.transcript)) still
      ∙ (ap (drop conn.settled) (outcomes_are conn.transcript later.transcript goes)
      ∙ drop_both conn.settled (outcomes options conn.transcript) _ few) in
      let now = ap (λ os. times (map key_in os) m) left
      ∙ ap (λ l. times l m) (numbers_both (unsettled options conn) _
      ∙ ap (λ l. map key_in (unsettled options conn) ++ l) (numbers_ends goes.more)) in
      let apart = times_both (map key_in (unsettled options conn)) (end_numbers goes.more) m in
      let new = times_both (map key_in (unsettled options later)) (held_numbers (held options later.transcript)) m in
      let old = times_both (map key_in (unsettled options conn)) (held_numbers (held options conn.transcript)) m in
      omega (arith, now, apart, new, old, goes.balance m)

  -- one more number
  pub more_numbers : (conn : ConnPast) (debt : Owing) → conn.settled ≤ length (outcomes options conn.transcript)
      → (m : ℕ)
      → times (numbers_at options (with_transcript conn (after options conn.transcript (Offered debt)))) m
      ≡ times (debt.0 ∷ numbers_at options conn) m
  more_numbers conn debt few m =
      let h = conn.transcript in
      let outs = outcomes_offered h debt in
      let on = same_numbers (with_transcript conn (Offered debt ∷ h))
      (with_transcript conn (after options h (Offered debt))) refl (goes_offered h debt)
      (omega (arith, few, ap length outs)) m in
      let prefix = ap (λ (os : List Outcome).
      times (map key_in (drop conn.settled os) ++ held_numbers (held options (Offered debt ∷ h))) m) outs in
      let back = ap (λ (hs : List Held). times (map key_in (unsettled options conn) ++ held_numbers hs) m)
      (held_offered h debt) in
      let last : List Held = record { ticket = length (accepted h); debt = debt } ∷ [] in
      let apart = times_both (map key_in (unsettled options conn)) (held_numbers (held options h ++ last)) m in
      let both = ap (λ (l : List ℕ). times l m) (held_numbers_both (held options h) last) in
      let two = times_both (held_numbers (held options h)) (debt.0 ∷ []) m in
      let old = times_both (map key_in (unsettled options conn)) (held_numbers (held options h)) m in
      omega (arith, on, prefix, back, apart, both, two, old)
