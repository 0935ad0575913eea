-- What the calls of a connection make of it, other than `article`: none of them hands in an article.
use Rattle.std.proofs.Common.{◌≡◌, ℕ, Bool, true, false, List, [], ◌∷◌, ◌++◌, refl, sym, ap, ◌∙◌, subst, append_assoc}
use Rattle.std.proofs.Common.{Option, Some, None, Result, Ok, Err}
use Rattle.std.specs.Prelude.{if◌then◌else◌, is_some, OnOk, OnErr}
use Rattle.ledger_core.specs.State.{Owing}
use Rattle.conn_core.specs.History.{Event, Offered, Came, Faulted, Sent, Broke, Taken, after, outside}
use Rattle.conn_core.specs.History.{reason}
use Rattle.conn_core.specs.Receipt.{Receives, ReceivesSome, Is_closed, Waits, Reads, Fails, Stops, Reads_on}
use Rattle.conn_core.specs.Stands.{StandsFor, Takes, ready_of}
use Rattle.conn_core.specs.State.{Holding}
use Rattle.conn_core.specs.UsedLaws.{All-append}
use Rattle.conn_core.specs.declared.options.Options.{Options}
use Rattle.conn_core.specs.declared.outcome.Outcome.{Outcome}
use Rattle.conn_core.specs.declared.ready.Ready.TheVariants.{Yes}
use Rattle.event_loop.specs.Chain.{Input, Is_received, Is_refused, TakesIn, after_send, left_by}
use Rattle.event_loop.specs.declared.moved.Moved.{Moved}
use Rattle.event_loop.specs.declared.moved.Moved.TheVariants.{Done, Later, Closed, Fault}
use Rattle.connections.specs.Articles.{GoesOn, HandsInNothing, IsNoArticle}
use Rattle.connections.specs.Logins.{IsGiven}
use Rattle.connections.proofs.Articles.{Follows, follows-after, follows-outside, goes_on}

follows-self : (h : List Event) → Follows h h
follows-self h = ([], (refl, tt))

follows-on : (h mid later : List Event) → Follows h mid → Follows mid later → Follows h later
follows-on h mid later first second = (
  second.0 ++ first.0,
  (
    second.1.0 ∙ ap (λ g. second.0 ++ g) first.1.0 ∙ sym (append_assoc second.0 first.0 h),
    All-append IsNoArticle second.0 first.0 second.1.1 first.1.1,
  ),
)

pub same_nothing : (old : Holding) → HandsInNothing old old
same_nothing old = λ options unread h s. goes_on options h h unread old s (follows-self h)

pub nothing_on : (old mid new : Holding) → HandsInNothing old mid → HandsInNothing mid new → HandsInNothing old new
nothing_on old mid new first second = λ options unread h s.
    let f = first options unread h s in
    let g = second options f.0 (f.1.0 ++ h) f.1.1.0 in
    goes_on options h (g.1.0 ++ (f.1.0 ++ h)) g.0 new g.1.1.0
    (follows-on h (f.1.0 ++ h) (g.1.0 ++ (f.1.0 ++ h)) (f.1.0, (refl, f.1.1.1)) (g.1.0, (refl, g.1.1.1)))

pub nothing_same : (old mid new : Holding) → HandsInNothing old mid → new ≡ mid → HandsInNothing old new
nothing_same old mid new first same = subst (λ conn. HandsInNothing old conn) (sym same) first

-- a tick, or that the connection is to quit
pub outside_nothing : (old new : Holding) (e : Event) (left : Options → List ℕ → List Event → List ℕ) → IsNoArticle e
    → ((options : Options) (unread : List ℕ) (h : List Event) → StandsFor options old unread h
    → StandsFor options new (left options unread h) (outside options h e)) → HandsInNothing old new
outside_nothing old new e left none stands = λ options unread h s.
    goes_on options h (outside options h e) (left options unread h) new (stands options unread h s)
    (follows-outside options h e none)

-- a debt that is offered
pub offered_nothing : {E : Type 0} (result : Result (Unit {0}) E) (old new : Holding) (debt : Owing)
    → OnOk result ((options : Options) (unread : List ℕ) (h : List Event) → StandsFor options old unread h
    → (ready_of options h ≡ Yes) × StandsFor options new unread (after options h (Offered debt)))
    → OnErr result (new ≡ old) → HandsInNothing old new
offered_nothing (Ok done) old new debt ok err = λ options unread h s.
    goes_on options h (after options h (Offered debt)) unread new (ok options unread h s).1
    (follows-after options h (Offered debt) tt)
offered_nothing (Err refused) old new debt ok err = subst (λ conn. HandsInNothing old conn) (sym err) (same_nothing old)

-- an outcome that is taken
taken-on : (options : Options) (unread : List ℕ) (h : List Event) (outcome : Option Outcome) (new : Holding)
    → Takes options unread h outcome new → GoesOn options h new
taken-on options unread h None new t = goes_on options h h unread new t.1 (follows-self h)
taken-on options unread h (Some outcome) new t =
    goes_on options h (Taken ∷ h) unread new t.1 (Taken ∷ [], (refl, (tt, tt)))

pub taken_nothing : (outcome : Option Outcome) (old new : Holding)
    → ((options : Options) (unread : List ℕ) (h : List Event) → StandsFor options old unread h
    → Takes options unread h outcome new) → HandsInNothing old new
taken_nothing outcome old new takes = λ options unread h s.
    taken-on options unread h outcome new (takes options unread h s)

-- a send
noted-follows : (b : Bool) (h : List Event) (count : ℕ) → Follows h (if b then h else Sent count ∷ h)
noted-follows true h count = follows-self h
noted-follows false h count = (Sent count ∷ [], (refl, (tt, tt)))

send-follows : (options : Options) (h : List Event) (made : Moved) → Follows h (after_send options h made)
send-follows options h (Done n) = noted-follows (is_some (reason options h)) h n
send-follows options h Later = follows-self h
send-follows options h Closed = follows-outside options h Broke tt
send-follows options h Fault = follows-outside options h Broke tt

pub send_nothing : (made : Moved) (old new : Holding)
    → ((options : Options) (unread : List ℕ) (h : List Event) → StandsFor options old unread h
    → StandsFor options new (left_by made unread) (after_send options h made)) → HandsInNothing old new
send_nothing made old new stands = λ options unread h s.
    goes_on options h (after_send options h made) (left_by made unread) new (stands options unread h s)
    (send-follows options h made)

-- a receipt
received : (options : Options) (waiting left : List ℕ) (h later : List Event) → Receives options waiting h later left
    → Follows h later
received options waiting left h later (Is_closed w g shut) = follows-self g
received options waiting left h later (Waits w g running short) = follows-self g
received options waiting left h later (Reads w rest l g last reply running begins more) =
    follows-on g (after options g (Came reply)) last (follows-after options g (Came reply) tt)
    (received options rest l (after options g (Came reply)) last more)
received options waiting left h later (Fails w g fault running begins) = follows-after options g (Faulted fault) tt

some-received : (options : Options) (waiting : List ℕ) (h later : List Event) → ReceivesSome options waiting h later
    → Follows h later
some-received options waiting h later (Stops w g running) = follows-self g
some-received options waiting h later (Reads_on w rest g last reply running begins more) =
    follows-on g (after options g (Came reply)) last (follows-after options g (Came reply) tt)
    (some-received options rest (after options g (Came reply)) last more)

input-follows : (options : Options) (waiting left : List ℕ) (h later : List Event) → Input options waiting h left later
    → Follows h later
input-follows options waiting left h later (Is_received last l r) = received options waiting l h last r
input-follows options waiting left h later (Is_refused some r) =
    follows-on h some (after options some Broke) (some-received options waiting h some r)
    (follows-after options some Broke tt)

takes-follows : (options : Options) (made : Moved) (octets unread : List ℕ) (h : List Event) (left : List ℕ)
    (later : List Event) → TakesIn options made octets unread h left later → Follows h later
takes-follows options (Done n) octets unread h left later t = input-follows options (unread ++ octets) left h later t
takes-follows options Later octets unread h left later t = ([], (t.1, tt))
takes-follows options Closed octets unread h left later t =
    subst (λ g. Follows h g) (sym t.1) (follows-outside options h Broke tt)
takes-follows options Fault octets unread h left later t =
    subst (λ g. Follows h g) (sym t.1) (follows-outside options h Broke tt)

pub receipt_nothing : (made : Moved) (octets : List ℕ) (old new : Holding)
    → ((options : Options) (unread : List ℕ) (h : List Event) → StandsFor options old unread h
    → (left : List ℕ) × (later : List Event) × StandsFor options new left later
    × TakesIn options made octets unread h left later) → HandsInNothing old new
receipt_nothing made octets old new stands = λ options unread h s.
    let r = stands options unread h s in
    goes_on options h r.1 r.0 new r.2 (takes-follows options made octets unread h r.0 r.1 r.3)

-- octets that it is given as those that came
pub given_octets : {E : Type 0} (result : Result (Unit {0}) E) (octets : List ℕ) (old new : Holding)
    → OnOk result ((options : Options) (unread : List ℕ) (h : List Event) → StandsFor options old unread h
    → (later : List Event) × (left : List ℕ) × Receives options (unread ++ octets) h later left
    × StandsFor options new left later)
    → OnErr result ((options : Options) (unread : List ℕ) (h : List Event) → StandsFor options old unread h
    → (later : List Event) × ReceivesSome options (unread ++ octets) h later
    × StandsFor options new [] (after options later Broke))
    → IsGiven octets old new
given_octets (Ok done) octets old new ok err = λ options unread h s.
    let r = ok options unread h s in (r.1, (r.0, (r.3, Is_received r.0 r.1 r.2)))
given_octets (Err refused) octets old new ok err = λ options unread h s.
    let r = err options unread h s in ([], (after options r.0 Broke, (r.2, Is_refused r.0 r.1)))

pub given_nothing : (octets : List ℕ) (old new : Holding) → IsGiven octets old new → HandsInNothing old new
given_nothing octets old new given = λ options unread h s.
    let r = given options unread h s in
    goes_on options h r.1.0 r.0 new r.1.1.0 (input-follows options (unread ++ octets) r.0 h r.1.0 r.1.1.1)
