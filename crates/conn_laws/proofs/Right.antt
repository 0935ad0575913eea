-- Each verdict and each deferral is what a reply says to a command of that debt without an answer, each loss is what
-- was handed in for it, and what comes back was held when the connection was closed.
use Rattle.std.proofs.Common.{◌≡◌, ℕ, ◌+◌, Bool, true, false, List, [], ◌∷◌, refl, sym, ap, subst, ◌∙◌, arith, find}
use Rattle.std.proofs.Common.{Option, Some, None}
use Rattle.std.specs.Prelude.{◌==◌, ◌||◌, if◌then◌else◌, is_some, option_map}
use Rattle.std.proofs.lemmas.Bool.{eq-eqb, eqb-true}
use Rattle.std.specs.List.{AllByRecursion}
use Rattle.reply_reader.specs.Stream.{Given}
use Rattle.ledger_core.specs.State.{Owing}
use Rattle.ledger_core.specs.Codes.{code_number}
use Rattle.ledger_core.specs.declared.note.FinalCode.{FinalCode}
use Rattle.ledger_core.specs.declared.note.FinalCode.TheVariants.{IhaveReceived, TakethisReceived, IhaveNotWanted}
use Rattle.ledger_core.specs.declared.note.FinalCode.TheVariants.{IhaveRejected, CheckNotWanted, TakethisRejected}
use Rattle.ledger_core.specs.declared.note.Cause.{Cause}
use Rattle.ledger_core.specs.declared.note.Cause.TheVariants.{Missing, Unsendable as Unfit}
use Rattle.conn_core.specs.Codes.{meaning}
use Rattle.conn_core.specs.Used.{first_left, has}
use Rattle.conn_core.specs.Commands.{Ask, Held, Want, Handing, Sendable, Gone, Unsendable, held_for, is_at}
use Rattle.conn_core.specs.History.{Event, Offered, Put, Came, Faulted, Handed, Sent, Tick, Broke, Leave, Taken, asks}
use Rattle.conn_core.specs.History.{answered, answered_now, accepted, answered_ask, phase, is_mode, is_streaming}
use Rattle.conn_core.specs.History.{closes, ended_tickets, reason, story, ends, held, End, backs, ends_by_meaning}
use Rattle.conn_core.specs.History.{ends_by_answer, ends_by_loss, ends_at_close, first_want}
use Rattle.conn_core.specs.Stands.{Arises}
use Rattle.conn_laws.specs.Laws.{IsFirstOpen, IsAnswered, IsLost, IsReturned, IsRightAt, AllRight, cause_of, fits_in}
use Rattle.conn_laws.specs.Laws.{times_held}
use Rattle.conn_core.specs.declared.codes.Verb.{Verb}
use Rattle.conn_core.specs.declared.codes.Verb.TheVariants.{Check, Takethis, Ihave, Block}
use Rattle.conn_core.specs.declared.options.Options.{Options}
use Rattle.conn_core.specs.declared.phase.Phase.{Phase}
use Rattle.conn_core.specs.declared.phase.Phase.TheVariants.{Greeting, Asking, Streaming, OneByOne, Leaving}
use Rattle.conn_core.specs.declared.reason.Reason.{Reason}
use Rattle.conn_core.specs.declared.outcome.Outcome.{Outcome}
use Rattle.conn_core.specs.declared.outcome.Outcome.TheVariants.{Final as Ended_by, Deferred, Lost, Back}
use Rattle.conn_core.specs.declared.codes.Meaning.{Meaning}
use Rattle.conn_core.specs.declared.codes.Meaning.TheVariants.{Wanted, SendBlock, Later, Final}
use Rattle.conn_core.specs.UsedLaws.{All-append, All-map, first_left-is}
use Rattle.conn_core.specs.HeldLaws.{find-is_at, tickets}
use Rattle.conn_laws.proofs.Arising.{of-arising, quiet-ends}
use Rattle.conn_laws.proofs.Once.{ends-more, ends_by, held-once, times-some}
use Rattle.conn_laws.proofs.Numbered.{number-held}

pub answered-more : (options : Options) (h : List Event) (e : Event) (ticket code : ℕ) (says : Meaning)
    → IsAnswered options h ticket code says → IsAnswered options (e ∷ h) ticket code says
answered-more options h e ticket code says a = record {
  later = e ∷ a.later;
  earlier = a.earlier;
  reply = a.reply;
  command = a.command;
  split = ap (λ g. e ∷ g) a.split;
  running = a.running;
  first = a.first;
  about = a.about;
  code_is = a.code_is;
  meant = a.meant;
}

lost-more : (options : Options) (h : List Event) (e : Event) (ticket : ℕ) (debt : Owing) (cause : Cause)
    → IsLost options h ticket debt cause → IsLost options (e ∷ h) ticket debt cause
lost-more options h e ticket debt cause a = record {
  later = e ∷ a.later;
  earlier = a.earlier;
  number = a.number;
  handing = a.handing;
  want = a.want;
  split = ap (λ g. e ∷ g) a.split;
  running = a.running;
  first = a.first;
  about = a.about;
  numbered = a.numbered;
  caused = a.caused;
}

returned-more : (options : Options) (h : List Event) (e : Event) (ticket : ℕ) → IsReturned options h ticket
    → IsReturned options (e ∷ h) ticket
returned-more options h e ticket a = record {
  later = e ∷ a.later;
  earlier = a.earlier;
  event = a.event;
  split = ap (λ g. e ∷ g) a.split;
  running = a.running;
  closing = a.closing;
  was_held = a.was_held;
}

right-more : (options : Options) (h : List Event) (e : Event) (ticket : ℕ) (outcome : Outcome)
    → IsRightAt options h ticket outcome → IsRightAt options (e ∷ h) ticket outcome
right-more options h e ticket (Ended_by verdict) r =
    answered-more options h e ticket (code_number verdict.code) (Final verdict.code) r
right-more options h e ticket (Deferred deferral) r = (r.0, answered-more options h e ticket r.0 Later r.1)
right-more options h e ticket (Lost debt cause) r = lost-more options h e ticket debt cause r
right-more options h e ticket (Back debt) r = returned-more options h e ticket r

-- an outcome that came out is right
abbrev IsRight : Options → List Event → End → Type 0
IsRight options h x = IsRightAt options h x.ticket x.outcome

-- an answer comes only if a mode is agreed
answer-mode : (p : Phase) (reply : Given) (done : List ℕ) (sent : List Ask) (command : ℕ × Ask)
    → answered_now p reply done sent ≡ Some command → is_mode p ≡ true
answer-mode Greeting reply done sent command e = cc
answer-mode Asking reply done sent command e = cc
answer-mode Streaming reply done sent command e = refl
answer-mode OneByOne reply done sent command e = refl
answer-mode Leaving reply done sent command e = cc

-- what the definition by recursion finds is the first such command
pub answer_in : (p : Phase) (reply : Given) (done : List ℕ) (sent : List Ask) (command : ℕ × Ask)
    → answered_now p reply done sent ≡ Some command
    → first_left (fits_in (is_streaming p) reply) done 0 sent ≡ Some command
answer_in Greeting reply done sent command e = cc
answer_in Asking reply done sent command e = cc
answer_in Streaming reply done sent command e = e
answer_in OneByOne reply done sent command e = e
answer_in Leaving reply done sent command e = cc

pub answer_is_first : (options : Options) (h : List Event) (reply : Given) (command : ℕ × Ask)
    → answered_ask options h reply ≡ Some command → IsFirstOpen options h reply command
answer_is_first options h reply command e =
    let f = first_left-is (fits_in (is_streaming (phase options h)) reply) (answered options h) 0
    (asks h) command.0 command.1 (answer_in (phase options h) reply (answered options h) (asks h) command e) in
    let here : command.0 ≡ f.index = omega (arith, f.ticket) in
    record {
      mode = answer-mode (phase options h) reply (answered options h) (asks h) command e;
      is_command = rw here f.item;
      fit = f.passes;
      unanswered = f.unused;
      no_earlier = λ k ask h q g. let z : 0 + k ≡ k = omega arith in rw z at (f.no_earlier k ask (omega arith) q g);
    }

-- a debt held is held once
held-one : (options : Options) (h : List Event) (ticket : ℕ) → has (tickets (held options h)) ticket ≡ true
    → times_held options h ticket ≡ 1
held-one options h ticket e =
    let some = times-some (tickets (held options h)) ticket e in
    let once = held-once (ended_tickets (ends options h)) 0 (accepted h) ticket in
    omega (arith, some, once)

or-right : (a b : Bool) → b ≡ true → (a || b) ≡ true
or-right true b e = refl
or-right false b e = e

backs-right : (options : Options) (h : List Event) (e : Event) (hs : List Held) → reason options h ≡ None
    → is_some (closes options h e) ≡ true
    → ((ticket : ℕ) → has (tickets hs) ticket ≡ true → has (tickets (held options h)) ticket ≡ true)
    → AllByRecursion (IsRight options (e ∷ h)) (backs hs)
backs-right options h e [] running now among = tt
backs-right options h e (x ∷ hs) running now among = (
  record {
    later = [];
    earlier = h;
    event = e;
    split = refl;
    running = running;
    closing = now;
    was_held = held-one options h x.ticket (among x.ticket (rw (eq-eqb x.ticket x.ticket refl) refl));
  },
  backs-right options h e hs running now
      (λ ticket m. among ticket (or-right (x.ticket == ticket) (has (tickets hs) ticket) m)),
)

at_close-right : (options : Options) (h : List Event) (e : Event) (o : Option Reason) → reason options h ≡ None
    → closes options h e ≡ o
    → AllByRecursion (IsRight options (e ∷ h)) (ends_at_close o (held options h))
at_close-right options h e None running same = tt
at_close-right options h e (Some why) running same =
    backs-right options h e (held options h) running (rw same refl) (λ ticket m. m)

close-right : (options : Options) (h : List Event) (e : Event) → reason options h ≡ None
    → AllByRecursion (IsRight options (e ∷ h)) (ends_at_close (closes options h e) (held options h))
close-right options h e running = at_close-right options h e (closes options h e) running refl

lost-now : (options : Options) (h : List Event) (number : ℕ) (handing : Handing) (want : ℕ × Want) (cause : Cause)
    (x : Held) → reason options h ≡ None
    → first_want (story options h) number ≡ Some want → find (is_at want.1.ticket) (held options h) ≡ Some x
    → cause_of handing ≡ Some cause
    → IsLost options (Handed number handing ∷ h) x.ticket x.debt cause
lost-now options h number handing want cause x running first at caused = record {
  later = [];
  earlier = h;
  number = number;
  handing = handing;
  want = want;
  split = refl;
  running = running;
  first = first;
  about = sym (find-is_at want.1.ticket (held options h) x at).0;
  numbered = number-held options h number want x first at;
  caused = caused;
}

by_loss-right : (options : Options) (h : List Event) (number : ℕ) (handing : Handing) (want : ℕ × Want)
    (o : Option Held) → reason options h ≡ None
    → first_want (story options h) number ≡ Some want → find (is_at want.1.ticket) (held options h) ≡ o
    → AllByRecursion (IsRight options (Handed number handing ∷ h)) (ends_by_loss handing o)
by_loss-right options h number handing want None running first at = tt
by_loss-right options h number (Sendable block) want (Some x) running first at = tt
by_loss-right options h number Gone want (Some x) running first at =
    (lost-now options h number Gone want Missing x running first at refl, tt)
by_loss-right options h number Unsendable want (Some x) running first at =
    (lost-now options h number Unsendable want Unfit x running first at refl, tt)

by_want-right : (options : Options) (h : List Event) (number : ℕ) (handing : Handing) (want : Option (ℕ × Want))
    → reason options h ≡ None → first_want (story options h) number ≡ want
    → AllByRecursion (IsRight options (Handed number handing ∷ h))
    (ends_by_loss handing (held_for (held options h) (option_map (λ (w : ℕ × Want). w.1) want)))
by_want-right options h number handing None running first = tt
by_want-right options h number handing (Some want) running first =
    by_loss-right options h number handing want _ running first refl

pub answer-now : (options : Options) (h : List Event) (reply : Given) (command : ℕ × Ask) (x : Held) (says : Meaning)
    → reason options h ≡ None → answered_ask options h reply ≡ Some command
    → meaning command.1.verb reply.code ≡ Some says → find (is_at command.1.ticket) (held options h) ≡ Some x
    → IsAnswered options (Came reply ∷ h) x.ticket reply.code says
answer-now options h reply command x says running e em eo = record {
  later = [];
  earlier = h;
  reply = reply;
  command = command;
  split = refl;
  running = running;
  first = answer_is_first options h reply command e;
  about = sym (find-is_at command.1.ticket (held options h) x eo).0;
  code_is = refl;
  meant = em;
}

-- the code that a final answer has
final-step : (b : Bool) (n k : ℕ) (m : Meaning) (rest : Option Meaning) (code : FinalCode) → (n == k) ≡ b
    → (m ≡ Final code → n ≡ k → n ≡ code_number code)
    → (rest ≡ Some (Final code) → n ≡ code_number code) → (if b then Some m else rest) ≡ Some (Final code)
    → n ≡ code_number code
final-step true n k m rest code q here there e = let same : m ≡ Final code = cc in here same (eqb-true n k q)
final-step false n k m rest code q here there e = there e

final-is : (n k : ℕ) (m : Meaning) (rest : Option Meaning) (code : FinalCode)
    → (m ≡ Final code → n ≡ k → n ≡ code_number code)
    → (rest ≡ Some (Final code) → n ≡ code_number code) → (if n == k then Some m else rest) ≡ Some (Final code)
    → n ≡ code_number code
final-is n k m rest code here there e = final-step (n == k) n k m rest code refl here there e

coded : (n : ℕ) (a code : FinalCode) → Final a ≡ Final code → n ≡ code_number a → n ≡ code_number code
coded n a code e q = let same : a ≡ code = cc in q ∙ ap code_number same

number-of : (verb : Verb) (n : ℕ) (code : FinalCode) → meaning verb n ≡ Some (Final code) → n ≡ code_number code
number-of Check n code e =
    final-is n 238 Wanted _ code (λ s q. cc)
    (λ f. final-is n 431 Later _ code (λ s q. cc)
    (λ g. final-is n 438 (Final CheckNotWanted) _ code (λ s q. coded n CheckNotWanted code s q) (λ k. cc) g) f) e
number-of Takethis n code e =
    final-is n 239 (Final TakethisReceived) _ code (λ s q. coded n TakethisReceived code s q)
    (λ f. final-is n 439 (Final TakethisRejected) _ code (λ s q. coded n TakethisRejected code s q) (λ k. cc) f) e
number-of Ihave n code e =
    final-is n 335 SendBlock _ code (λ s q. cc)
    (λ f. final-is n 435 (Final IhaveNotWanted) _ code (λ s q. coded n IhaveNotWanted code s q)
    (λ g. final-is n 436 Later _ code (λ s q. cc) (λ k. cc) g) f) e
number-of Block n code e =
    final-is n 235 (Final IhaveReceived) _ code (λ s q. coded n IhaveReceived code s q)
    (λ f. final-is n 437 (Final IhaveRejected) _ code (λ s q. coded n IhaveRejected code s q)
    (λ g. final-is n 436 Later _ code (λ s q. cc) (λ k. cc) g) f) e

by_meaning-right : (options : Options) (h : List Event) (reply : Given) (command : ℕ × Ask) (m : Option Meaning)
    (o : Option Held) → reason options h ≡ None → answered_ask options h reply ≡ Some command
    → meaning command.1.verb reply.code ≡ m → find (is_at command.1.ticket) (held options h) ≡ o
    → AllByRecursion (IsRight options (Came reply ∷ h)) (ends_by_meaning m o)
by_meaning-right options h reply command m None running e em eo = tt
by_meaning-right options h reply command None (Some x) running e em eo = tt
by_meaning-right options h reply command (Some Wanted) (Some x) running e em eo = tt
by_meaning-right options h reply command (Some SendBlock) (Some x) running e em eo = tt
by_meaning-right options h reply command (Some Later) (Some x) running e em eo =
    ((reply.code, answer-now options h reply command x Later running e em eo), tt)
by_meaning-right options h reply command (Some (Final code)) (Some x) running e em eo =
    let said = answer-now options h reply command x (Final code) running e em eo in (
      subst (λ n. IsAnswered options (Came reply ∷ h) x.ticket n (Final code))
          (number-of command.1.verb reply.code code em) said,
      tt,
    )

by_answer-right : (options : Options) (h : List Event) (reply : Given) (o : Option (ℕ × Ask))
    → reason options h ≡ None → answered_ask options h reply ≡ o
    → AllByRecursion (IsRight options (Came reply ∷ h)) (ends_by_answer (held options h) reply.code o)
by_answer-right options h reply None running e = tt
by_answer-right options h reply (Some command) running e =
    by_meaning-right options h reply command _ _ running e refl refl

-- what comes out by an event is right, while the connection is open
by-right : (options : Options) (h : List Event) (e : Event) → reason options h ≡ None
    → AllByRecursion (IsRight options (e ∷ h)) (ends_by options h e)
by-right options h (Came reply) running =
    All-append (IsRight options (Came reply ∷ h))
    (ends_by_answer (held options h) reply.code (answered_ask options h reply)) _
    (by_answer-right options h reply (answered_ask options h reply) running refl)
    (close-right options h (Came reply) running)
by-right options h (Handed number handing) running =
    by_want-right options h number handing (first_want (story options h) number) running refl
by-right options h (Faulted fault) running = close-right options h (Faulted fault) running
by-right options h (Tick now) running = close-right options h (Tick now) running
by-right options h Broke running = close-right options h Broke running
by-right options h (Offered debt) running = tt
by-right options h (Put command) running = tt
by-right options h (Sent count) running = tt
by-right options h Leave running = tt
by-right options h Taken running = tt

right-step : (options : Options) (h : List Event) (e : Event)
    → AllByRecursion (IsRight options (e ∷ h)) (ends_by options h e) → AllRight options h → AllRight options (e ∷ h)
right-step options h e now all =
    let earlier =
    All-map (IsRight options h) (IsRight options (e ∷ h)) (λ x r. right-more options h e x.ticket x.outcome r)
    (ends options h) all in
    subst (λ xs. AllByRecursion (IsRight options (e ∷ h)) xs) (sym (ends-more options h e))
    (All-append (IsRight options (e ∷ h)) (ends options h) (ends_by options h e) earlier now)

right-starts : (options : Options) → AllRight options []
unfolding story
right-starts options = tt

-- this holds of every transcript that calls can make
pub all_right : (options : Options) (h : List Event) → Arises options h → AllRight options h
all_right options h a =
    of-arising options (AllRight options) (right-starts options)
    (λ g e q all. right-step options g e
    (subst (λ xs. AllByRecursion (IsRight options (e ∷ g)) xs) (sym (quiet-ends options g e q)) tt) all)
    (λ g e running may all. right-step options g e (by-right options g e running) all) h a
