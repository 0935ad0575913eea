-- Once the connection is closed, no debt is held.
use Rattle.std.proofs.Common.{◌≡◌, ℕ, ◌+◌, ◌<◌, ◌≤◌, Bool, true, false, List, [], ◌∷◌, ◌++◌, length, refl, sym, ap}
use Rattle.std.proofs.Common.{subst, ◌∙◌, arith, Option, Some, None, append-nil}
use Rattle.std.specs.Prelude.{◌||◌, if◌then◌else◌, is_some}
use Rattle.std.proofs.lemmas.Bool.{false≢true}
use Rattle.reply_reader.specs.Stream.{Given}
use Rattle.ledger_core.specs.State.{Owing}
use Rattle.conn_core.specs.Used.{has}
use Rattle.conn_core.specs.Commands.{Command, Held, Quit}
use Rattle.conn_core.specs.History.{Event, Offered, Put, Came, Faulted, Handed, Sent, Tick, Broke, Leave, Taken}
use Rattle.conn_core.specs.History.{accepted, answered_ask, backs, closes, first_reason, reason, story, ends, held}
use Rattle.conn_core.specs.History.{held_from, ended_tickets, ends_by_answer, puts, is_quit_due, with_puts, after}
use Rattle.conn_core.specs.History.{outside, noted}
use Rattle.conn_core.specs.Stands.{Arises, Starts, ready_when, Goes_on}
use Rattle.conn_core.specs.declared.options.Options.{Options}
use Rattle.conn_core.specs.declared.reason.Reason.{Reason}
use Rattle.conn_core.specs.declared.ready.Ready.TheVariants.{Yes}
use Rattle.conn_core.specs.HeldLaws.{has-append, in-held, tickets, ended_tickets-backs}
use Rattle.conn_core.specs.StoryLaws.{ended_tickets-append}

pub first_reason-none : (r : Option Reason) → first_reason r None ≡ r
first_reason-none None = refl
first_reason-none (Some reason) = refl

-- putting something out changes neither why it is closed nor what is held
reason-puts : (options : Options) (commands : List Command) (h : List Event)
    → reason options (with_puts commands h) ≡ reason options h
reason-puts options [] h = refl
reason-puts options (command ∷ commands) h = reason-puts options commands (Put command ∷ h) ∙ first_reason-none _

held-puts : (options : Options) (commands : List Command) (h : List Event)
    → held options (with_puts commands h) ≡ held options h
unfolding story
held-puts options [] h = refl
held-puts options (command ∷ commands) h = held-puts options commands (Put command ∷ h)

reason-if : (options : Options) (b : Bool) (h : List Event)
    → reason options (if b then Put Quit ∷ h else h) ≡ reason options h
reason-if options true h = first_reason-none _
reason-if options false h = refl

held-if : (options : Options) (b : Bool) (h : List Event)
    → held options (if b then Put Quit ∷ h else h) ≡ held options h
unfolding story
held-if options true h = refl
held-if options false h = refl

pub reason-after : (options : Options) (h : List Event) (e : Event)
    → reason options (after options h e) ≡ reason options (e ∷ h)
unfolding after
reason-after options h e =
    let g : List Event = with_puts (puts options h e) (e ∷ h) in
    reason-if options (is_quit_due options g) g ∙ reason-puts options (puts options h e) (e ∷ h)

held-after : (options : Options) (h : List Event) (e : Event) → held options (after options h e) ≡ held options (e ∷ h)
unfolding after
held-after options h e =
    let g : List Event = with_puts (puts options h e) (e ∷ h) in
    held-if options (is_quit_due options g) g ∙ held-puts options (puts options h e) (e ∷ h)

nothing-step : (b : Bool) (y : Held) (left : List Held) → b ≡ true → left ≡ [] → (if b then left else y ∷ left) ≡ []
nothing-step b y left e rest = rw e rest

held-nothing : (gone : List ℕ) (n : ℕ) (debts : List Owing)
    → ((k : ℕ) → n ≤ k → k < n + length debts → has gone k ≡ true) → held_from n debts gone ≡ []
held-nothing gone n [] all = refl
held-nothing gone n (d ∷ debts) all =
    nothing-step (has gone n) _ _ (all n (omega arith) (omega arith)) (held-nothing gone (n + 1) debts (λ k low high. all k (omega arith) (omega arith)))

or-left : (a b : Bool) → a ≡ true → (a || b) ≡ true
or-left a b e = rw e refl

or-right : (a b : Bool) → b ≡ true → (a || b) ≡ true
or-right true b e = refl
or-right false b e = e

-- a debt that is among the ends came out; one that is not is held, and so is among the backs
out-step : (b : Bool) (gone more : List ℕ) (hs : List Held) (k : ℕ) → has gone k ≡ b
    → (has gone k ≡ false → has (tickets hs) k ≡ true)
    → has ((gone ++ more) ++ tickets hs) k ≡ true
out-step true gone more hs k e held_else = rw (has-append (gone ++ more) (tickets hs) k, has-append gone more k) (or-left _ _ (or-left _ _ e))
out-step false gone more hs k e held_else = rw (has-append (gone ++ more) (tickets hs) k) (or-right _ _ (held_else e))

-- once all that is held comes back, nothing is held
backs-empty : (options : Options) (h : List Event) (more : List ℕ)
    → held_from 0 (accepted h) ((ended_tickets (ends options h) ++ more) ++ tickets (held options h)) ≡ []
backs-empty options h more =
    let gone : List ℕ = ended_tickets (ends options h) in
    held-nothing _ 0 (accepted h) (λ k low high. out-step (has gone k) gone more (held options h) k refl (λ e. in-held gone 0 (accepted h) k low high e))

-- the backs alone
back-empty : (options : Options) (h : List Event)
    → held_from 0 (accepted h) (ended_tickets (ends options h ++ backs (held options h))) ≡ []
back-empty options h =
    let b = backs-empty options h [] in
    rw (ended_tickets-append (ends options h) (backs (held options h)), ended_tickets-backs (held options h)) (rw (append-nil (ended_tickets (ends options h))) at b)

on_reply-empty : (options : Options) (h : List Event) (reply : Given) (o : Option Reason)
    → closes options h (Came reply) ≡ o → is_some o ≡ true → held options (Came reply ∷ h) ≡ []
unfolding story
on_reply-empty options h reply None e some = cc
on_reply-empty options h reply (Some why) e some =
    let by = ends_by_answer (held options h) reply.code (answered_ask options h reply) in
    rw (e, ended_tickets-append (ends options h ++ by) (backs (held options h)), ended_tickets-append (ends options h) by, ended_tickets-backs (held options h))
    (backs-empty options h (ended_tickets by))

tick-empty : (options : Options) (h : List Event) (now : ℕ) (o : Option Reason) → closes options h (Tick now) ≡ o
    → is_some o ≡ true → held options (Tick now ∷ h) ≡ []
unfolding story
tick-empty options h now None e some = cc
tick-empty options h now (Some why) e some = rw e (back-empty options h)

-- after a reason to close nothing is held
closing-empty : (options : Options) (h : List Event) (e : Event) → is_some (closes options h e) ≡ true
    → held options (e ∷ h) ≡ []
unfolding story
closing-empty options h (Came reply) some = on_reply-empty options h reply (closes options h (Came reply)) refl some
closing-empty options h (Tick now) some = tick-empty options h now (closes options h (Tick now)) refl some
closing-empty options h (Faulted fault) some = back-empty options h
closing-empty options h Broke some = back-empty options h
closing-empty options h (Offered debt) some = cc
closing-empty options h (Put command) some = cc
closing-empty options h (Handed number handing) some = cc
closing-empty options h (Sent count) some = cc
closing-empty options h Leave some = cc
closing-empty options h Taken some = cc

-- an event that may close
none_held-event : (options : Options) (h : List Event) (e : Event)
    → (is_some (reason options h) ≡ true → held options h ≡ [])
    → (r : Option Reason) → reason options h ≡ r → is_some (reason options (outside options h e)) ≡ true → held options (outside options h e) ≡ []
none_held-event options h e before None q closed =
    let now : is_some (closes options h e) ≡ true =
    subst (λ (r : Option Reason). is_some r ≡ true) (reason-after options h e ∙ ap (λ (r : Option Reason). first_reason r (closes options h e)) q) (rw q at closed) in
    rw q (held-after options h e ∙ closing-empty options h e now)
none_held-event options h e before (Some why) q closed =
    let close : is_some (reason options h) ≡ true = rw q refl in
    rw q (before close)

-- an event that does not, while the connection is open
none_held-open : (options : Options) (h : List Event) (e : Event) → closes options h e ≡ None → reason options h ≡ None
    → is_some (reason options (after options h e)) ≡ true → held options (after options h e) ≡ []
none_held-open options h e still running closed =
    let now : is_some (closes options h e) ≡ true =
    subst (λ (r : Option Reason). is_some r ≡ true) (reason-after options h e ∙ ap (λ (r : Option Reason). first_reason r (closes options h e)) running) closed in
    let f : false ≡ true = rw still at now in
    absurd (false≢true f)

pub ready-open : (r : Option Reason) (q room : Bool) → ready_when (is_some r) q room ≡ Yes → r ≡ None
ready-open None q room e = refl
ready-open (Some why) q room e = cc

pub needed-open : {A : Type 0} (r : Option Reason) (found : Option A)
    → is_some (if is_some r then None else found) ≡ true → r ≡ None
needed-open None found e = refl
needed-open (Some why) found e = cc

noted-held : (options : Options) (g : List Event) (count : ℕ)
    → (is_some (reason options g) ≡ true → held options g ≡ []) → (b : Bool) → is_some (reason options g) ≡ b
    → is_some (reason options (noted options g (Sent count))) ≡ true → held options (noted options g (Sent count)) ≡ []
unfolding story
noted-held options g count before true e c = rw e (before e)
noted-held options g count before false e c =
    let f : is_some (first_reason (reason options g) None) ≡ true = rw e at c in
    let k : is_some (reason options g) ≡ true = subst (λ (r : Option Reason). is_some r ≡ true) (first_reason-none (reason options g)) f in
    absurd (false≢true (sym e ∙ k))

taken-held : (options : Options) (g : List Event) → (is_some (reason options g) ≡ true → held options g ≡ [])
    → is_some (reason options (Taken ∷ g)) ≡ true → held options (Taken ∷ g) ≡ []
unfolding story
taken-held options g before closed = before (subst (λ (r : Option Reason). is_some r ≡ true) (first_reason-none (reason options g)) closed)

pub none_held : (options : Options) (h : List Event) → Arises options h → is_some (reason options h) ≡ true
    → held options h ≡ []
none_held options h Starts closed = cc
none_held options h (Goes_on g (Offered debt) a ready) closed = none_held-open options g (Offered debt) refl (ready-open (reason options g) _ _ ready) closed
none_held options h (Goes_on g (Came reply) a can) closed = none_held-event options g (Came reply) (none_held options g a) (reason options g) refl closed
none_held options h (Goes_on g (Faulted fault) a can) closed = none_held-event options g (Faulted fault) (none_held options g a) (reason options g) refl closed
none_held options h (Goes_on g (Handed number handing) a wanted) closed =
    none_held-open options g (Handed number handing) refl (needed-open (reason options g) _ wanted) closed
none_held options h (Goes_on g (Sent count) a few) closed = noted-held options g count (none_held options g a) (is_some (reason options g)) refl closed
none_held options h (Goes_on g (Tick now) a can) closed = none_held-event options g (Tick now) (none_held options g a) (reason options g) refl closed
none_held options h (Goes_on g Broke a can) closed = none_held-event options g Broke (none_held options g a) (reason options g) refl closed
none_held options h (Goes_on g Leave a can) closed = none_held-event options g Leave (none_held options g a) (reason options g) refl closed
none_held options h (Goes_on g (Put command) a never) closed = absurd never
none_held options h (Goes_on g Taken a few) closed = taken-held options g (none_held options g a) closed
