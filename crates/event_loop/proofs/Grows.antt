-- The octets put out only grow, and what comes in sends nothing.
use Rattle.std.proofs.Common.{◌≡◌, ℕ, Bool, true, false, List, [], ◌∷◌, ◌++◌, length, refl, sym, ap, ◌∙◌, subst, arith}
use Rattle.std.proofs.Common.{Option, Some, None}
use Rattle.std.specs.Prelude.{is_some, if◌then◌else◌}
use Rattle.std.specs.List.{flat_map}
use Rattle.std.proofs.lemmas.List.{append_assoc, append-nil}
use Rattle.std.proofs.lemmas.List.Concat.{flat_map-append}
use Rattle.funnel.specs.Stream.{ended}
use Rattle.reply_reader.specs.Stream.{Given, IsAnswer, Reads as MadeUp}
use Rattle.reply_reader.specs.declared.fault.ReplyFault.{ReplyFault}
use Rattle.conn_core.specs.Commands.{Command, Quit, octets}
use Rattle.conn_core.specs.History.{Event, Put, Came, Faulted, Broke, put_out, put_octets, sent, reason, first_reason}
use Rattle.conn_core.specs.History.{with_puts, puts, is_quit_due, after, outside}
use Rattle.conn_core.specs.Receipt.{Receives, ReceivesSome, Is_closed, Waits, Reads, Fails, Stops, Reads_on}
use Rattle.conn_core.specs.declared.options.Options.{Options}
use Rattle.conn_core.specs.declared.reason.Reason.{Reason}
use Rattle.conn_core.specs.declared.reason.Reason.TheVariants.{Reader, Broken}
use Rattle.event_loop.specs.Laws.{came}
use Rattle.event_loop.specs.Link.{moved}
use Rattle.event_loop.specs.Chain.{Input, Is_received, Is_refused, TakesIn}
use Rattle.event_loop.specs.declared.moved.Moved.{Moved}
use Rattle.event_loop.specs.declared.moved.Moved.TheVariants.{Done, Later, Closed, Fault}

-- only commands followed
pub record Puts (options : Options) (h later : List Event) : Type 0 where
  pub same_sent : sent later ≡ sent h
  pub same_came : came later ≡ came h
  pub same_reason : reason options later ≡ reason options h
  pub more : List ℕ
  pub grown : put_octets later ≡ put_octets h ++ more

puts-none : (options : Options) (h : List Event) → Puts options h h
puts-none options h = record {
  same_sent = refl;
  same_came = refl;
  same_reason = refl;
  more = [];
  grown =
      sym (append-nil (put_octets h));
}

puts-more : (options : Options) (h mid later : List Event) → Puts options h mid → Puts options mid later
    → Puts options h later
puts-more options h mid later p q = record {
  same_sent = q.same_sent ∙ p.same_sent;
  same_came = q.same_came ∙ p.same_came;
  same_reason = q.same_reason ∙ p.same_reason;
  more = p.more ++ q.more;
  grown = q.grown ∙ ap (λ xs. xs ++ q.more) p.grown ∙ append_assoc (put_octets h) p.more q.more;
}

pub first-none : (r : Option Reason) → first_reason r None ≡ r
first-none None = refl
first-none (Some reason) = refl

puts-one : (options : Options) (h : List Event) (command : Command) → Puts options h (Put command ∷ h)
puts-one options h command = record {
  same_sent = refl;
  same_came = refl;
  same_reason = first-none (reason options h);
  more = octets command;
  grown = flat_map-append octets (put_out h) (command ∷ [])
      ∙ ap (λ xs. flat_map octets (put_out h) ++ xs) (append-nil (octets command));
}

puts-all : (options : Options) (commands : List Command) (h : List Event) → Puts options h (with_puts commands h)
puts-all options [] h = puts-none options h
puts-all options (command ∷ commands) h =
    puts-more options _ _ _ (puts-one options h command) (puts-all options commands (Put command ∷ h))

puts-quit : (options : Options) (b : Bool) (h : List Event) → Puts options h (if b then Put Quit ∷ h else h)
puts-quit options true h = puts-one options h Quit
puts-quit options false h = puts-none options h

pub puts-after : (options : Options) (h : List Event) (e : Event) → Puts options (e ∷ h) (after options h e)
unfolding after
puts-after options h e =
    let all = with_puts (puts options h e) (e ∷ h) in
    puts-more options _ _ _ (puts-all options (puts options h e) (e ∷ h))
    (puts-quit options (is_quit_due options all) all)

-- what octets that came in made of a transcript
pub record Received (options : Options) (waiting : List ℕ) (h : List Event) (left : List ℕ)
    (later : List Event) : Type 0 where
  pub same_sent : sent later ≡ sent h
  pub more : List ℕ
  pub grown : put_octets later ≡ put_octets h ++ more
  pub still : is_some (reason options h) ≡ true → later ≡ h
  pub replies : List Given
  pub came_is : came later ≡ came h ++ replies
  pub rest : List ℕ
  pub made_up : MadeUp waiting replies rest
  pub rest_is : reason options later ≡ None → rest ≡ left

pub open-not-shut : {A : Type 0} {B : Type 0} (r : Option A) → is_some r ≡ true → r ≡ None → B
open-not-shut None e q = cc
open-not-shut (Some why) e q = cc

-- nothing was received
stays : (options : Options) (waiting : List ℕ) (h : List Event) (left : List ℕ)
    → (reason options h ≡ None → waiting ≡ left) → Received options waiting h left h
stays options waiting h left is = record {
  same_sent = refl;
  more = [];
  grown = sym (append-nil (put_octets h));
  still = λ _. refl;
  replies = [];
  came_is = sym (append-nil (came h));
  rest = waiting;
  made_up = record { lines = []; whole = refl; answers = record {} };
  rest_is = is;
}

-- the first whole reply, and then the others
reads-first : (options : Options) (waiting rest left : List ℕ) (h later : List Event) (reply : Given)
    → reason options h ≡ None → (line : List ℕ)
    → waiting ≡ line ++ 10 ∷ rest → IsAnswer line reply
    → Received options rest (after options h (Came reply)) left later
    → Received options waiting h left later
reads-first options waiting rest left h later reply running line parts says r =
    let p = puts-after options h (Came reply) in
    record {
      same_sent = r.same_sent ∙ p.same_sent;
      more = p.more ++ r.more;
      grown = r.grown ∙ ap (λ xs. xs ++ r.more) p.grown ∙ append_assoc (put_octets h) p.more r.more;
      still = λ e. open-not-shut _ e running;
      replies = reply ∷ r.replies;
      came_is = r.came_is ∙ ap (λ xs. xs ++ r.replies) p.same_came ∙ append_assoc (came h) (reply ∷ []) r.replies;
      rest = r.rest;
      made_up = record {
        lines = line ∷ r.made_up.lines;
        whole = parts ∙ ap (λ xs. line ++ 10 ∷ xs) r.made_up.whole
            ∙ sym (append_assoc line (10 ∷ []) (ended r.made_up.lines ++ r.rest))
            ∙ sym (append_assoc (line ++ 10 ∷ []) (ended r.made_up.lines) r.rest);
        answers = (says, r.made_up.answers);
      };
      rest_is = r.rest_is;
    }

pub some-shut : {B : Type 0} (r : Option Reason) (why : Reason) → first_reason r (Some why) ≡ None → B
some-shut None why e = cc
some-shut (Some first) why e = cc

-- after that it broke
pub then_broke : (options : Options) (waiting : List ℕ) (h : List Event) (left : List ℕ) (mid : List Event)
    → reason options h ≡ None
    → Received options waiting h left mid → Received options waiting h [] (after options mid Broke)
then_broke options waiting h left mid running r =
    let p = puts-after options mid Broke in
    record {
      same_sent = p.same_sent ∙ r.same_sent;
      more = r.more ++ p.more;
      grown = p.grown ∙ ap (λ xs. xs ++ p.more) r.grown ∙ append_assoc (put_octets h) r.more p.more;
      still = λ e. open-not-shut _ e running;
      replies = r.replies;
      came_is = p.same_came ∙ r.came_is;
      rest = r.rest;
      made_up = r.made_up;
      rest_is = λ e. some-shut (reason options mid) Broken (sym p.same_reason ∙ e);
    }

then_faulted : (options : Options) (waiting : List ℕ) (h : List Event) (fault : ReplyFault) → reason options h ≡ None
    → Received options waiting h [] (after options h (Faulted fault))
then_faulted options waiting h fault running =
    let p = puts-after options h (Faulted fault) in
    record {
      same_sent = p.same_sent;
      more = p.more;
      grown = p.grown;
      still = λ e. open-not-shut _ e running;
      replies = [];
      came_is = p.same_came ∙ sym (append-nil (came h));
      rest = waiting;
      made_up = record { lines = []; whole = refl; answers = record {} };
      rest_is = λ e. some-shut (reason options h) (Reader fault) (sym p.same_reason ∙ e);
    }

pub all_received : (options : Options) (waiting left : List ℕ) (h later : List Event)
    → Receives options waiting h later left → Received options waiting h left later
all_received options waiting left h later (Is_closed w g shut) = stays options w g [] (λ e. open-not-shut _ shut e)
all_received options waiting left h later (Waits w g running short) = stays options w g w (λ e. refl)
all_received options waiting left h later (Reads w rest l g last reply running (line, parts, says) more) =
    reads-first options w rest l g last reply running line parts says
    (all_received options rest l (after options g (Came reply)) last more)
all_received options waiting left h later (Fails w g fault running begins) = then_faulted options w g fault running

pub some_received : (options : Options) (waiting : List ℕ) (h later : List Event) → ReceivesSome options waiting h later
    → (reason options h ≡ None) × ((left : List ℕ) × Received options waiting h left later)
some_received options waiting h later (Stops w g running) = (running, (w, stays options w g w (λ e. refl)))
some_received options waiting h later (Reads_on w rest g last reply running (line, parts, says) more) =
    let r = some_received options rest (after options g (Came reply)) last more in
    (running, (r.1.0, reads-first options w rest r.1.0 g last reply running line parts says r.1.1))

input-received : (options : Options) (waiting left : List ℕ) (h later : List Event) → Input options waiting h left later
    → Received options waiting h left later
input-received options waiting left h later (Is_received last l r) = all_received options waiting l h last r
input-received options waiting left h later (Is_refused some r) =
    let s = some_received options waiting h some r in then_broke options waiting h s.1.0 some s.0 s.1.1

none-of : {A : Type 0} (xs : List A) → length xs ≡ 0 → xs ≡ []
none-of [] e = refl
none-of (x ∷ xs) e = absurd (omega (arith, e))

pub broke-received : (options : Options) (waiting : List ℕ) (h : List Event) (r : Option Reason) → reason options h ≡ r
    → Received options waiting h [] (if is_some r then h else after options h Broke)
broke-received options waiting h None e =
    then_broke options waiting h waiting h e (stays options waiting h waiting (λ _. refl))
broke-received options waiting h (Some why) e =
    stays options waiting h [] (λ q. open-not-shut (reason options h) (ap is_some e) q)

-- whatever the link did
pub taken_in : (options : Options) (made : Moved) (octets unread left : List ℕ) (h later : List Event)
    → length octets ≡ moved made
    → TakesIn options made octets unread h left later → Received options (unread ++ octets) h left later
taken_in options (Done n) octets unread left h later len t = input-received options (unread ++ octets) left h later t
taken_in options Later octets unread left h later len t =
    let same : unread ++ octets ≡ left = ap (λ xs. unread ++ xs) (none-of octets len) ∙ append-nil unread ∙ sym t.0 in
    subst (λ l. Received options (unread ++ octets) h left l) (sym t.1)
    (stays options (unread ++ octets) h left (λ _. same))
taken_in options Closed octets unread left h later len t =
    subst (λ l. Received options (unread ++ octets) h left l) (sym t.1)
    (subst (λ l. Received options (unread ++ octets) h l (outside options h Broke)) (sym t.0)
    (broke-received options (unread ++ octets) h (reason options h) refl))
taken_in options Fault octets unread left h later len t =
    subst (λ l. Received options (unread ++ octets) h left l) (sym t.1)
    (subst (λ l. Received options (unread ++ octets) h l (outside options h Broke)) (sym t.0)
    (broke-received options (unread ++ octets) h (reason options h) refl))
