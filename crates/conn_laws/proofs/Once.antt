-- Each debt accepted is held or came out, once, and what came out is the debt that was accepted.
use Rattle.std.proofs.Common.{◌≡◌, ℕ, suc, zero, ◌+◌, ◌<◌, ◌≤◌, Bool, true, false, List, [], ◌∷◌, ◌++◌, length, refl}
use Rattle.std.proofs.Common.{sym, ap, subst, ◌∙◌, arith, find, Option, Some, None, cond, append_assoc, append-nil, inl}
use Rattle.std.proofs.Common.{inr}
use Rattle.std.specs.Prelude.{◌==◌, ◌||◌, if◌then◌else◌, is_some, option_map, slice_get}
use Rattle.std.specs.List.{AllByRecursion}
use Rattle.std.proofs.lemmas.Bool.{false≢true, ne_eqb}
use Rattle.std.proofs.lemmas.Bool.Decides.{eqb_tells}
use Rattle.reply_reader.specs.Stream.{Given}
use Rattle.ledger_core.specs.State.{Owing}
use Rattle.conn_core.specs.Codes.{meaning}
use Rattle.conn_core.specs.Used.{has, times}
use Rattle.conn_core.specs.Commands.{Ask, Held, Want, Handing, Sendable, Gone, Unsendable, debt_in, held_for, is_at}
use Rattle.conn_core.specs.History.{Event, Offered, Put, Came, Faulted, Handed, Sent, Tick, Broke, Leave, Taken}
use Rattle.conn_core.specs.History.{accepted, asks, answered, answered_now, answered_ask, phase, closes, closes_in}
use Rattle.conn_core.specs.History.{reason, story, ends, held, held_from, End, ended_tickets, backs, ends_by_meaning}
use Rattle.conn_core.specs.History.{ends_by_answer, ends_by_loss, held_wanting, ends_at_close, first_want}
use Rattle.conn_core.specs.Stands.{Arises}
use Rattle.conn_laws.specs.Laws.{AllAreTheirOwn, times_held, times_out}
use Rattle.conn_core.specs.declared.options.Options.{Options}
use Rattle.conn_core.specs.declared.phase.Phase.{Phase}
use Rattle.conn_core.specs.declared.phase.Phase.TheVariants.{Greeting, Asking, Streaming, OneByOne, Leaving}
use Rattle.conn_core.specs.declared.reason.Reason.{Reason}
use Rattle.conn_core.specs.declared.reason.Reason.TheVariants.{Quit as Left}
use Rattle.conn_core.specs.declared.codes.Meaning.{Meaning}
use Rattle.conn_core.specs.declared.codes.Meaning.TheVariants.{Wanted, SendBlock, Later, Final}
use Rattle.conn_core.specs.ClosingLaws.{none_held}
use Rattle.conn_core.specs.HeldLaws.{find-is_at, in-held, tickets, ended_tickets-backs}
use Rattle.conn_core.specs.StoryLaws.{ended_tickets-append, ends_below, tickets-below}
use Rattle.conn_core.specs.UsedLaws.{All-append, All-map, times-append}

zero-step : (b : Bool) (n : ℕ) (more : Bool) → (b || more) ≡ false → (more ≡ false → n ≡ 0) → cond b 1 0 + n ≡ 0
zero-step true n more e rest = cc
zero-step false n more e rest = rw (rest e) refl

pub times-none : (xs : List ℕ) (ticket : ℕ) → has xs ticket ≡ false → times xs ticket ≡ 0
times-none [] ticket e = refl
times-none (x ∷ xs) ticket e = zero-step (x == ticket) _ _ e (times-none xs ticket)

some-step : (b : Bool) (n : ℕ) (more : Bool) → (b || more) ≡ true → (more ≡ true → 1 ≤ n) → 1 ≤ cond b 1 0 + n
some-step true n more e rest = omega arith
some-step false n more e rest = let r = rest e in omega arith

pub times-some : (xs : List ℕ) (ticket : ℕ) → has xs ticket ≡ true → 1 ≤ times xs ticket
times-some [] ticket e = cc
times-some (x ∷ xs) ticket e = some-step (x == ticket) _ _ e (times-some xs ticket)

-- more tickets, none of which was there
more-step : (b : Bool) (gone more : List ℕ) (ticket : ℕ) → has more ticket ≡ b → times gone ticket ≤ 1 → times more ticket ≤ 1
    → (has more ticket ≡ true → has gone ticket ≡ false) → times gone ticket + times more ticket ≤ 1
more-step true gone more ticket e one once fresh = rw (times-none gone ticket (fresh e)) (omega arith)
more-step false gone more ticket e one once fresh = rw (times-none more ticket e) (omega arith)

once-more : (gone more : List ℕ) (ticket : ℕ) → times gone ticket ≤ 1 → times more ticket ≤ 1
    → (has more ticket ≡ true → has gone ticket ≡ false) → times (gone ++ more) ticket ≤ 1
once-more gone more ticket one once fresh =
    rw (times-append gone more ticket) (more-step (has more ticket) gone more ticket refl one once fresh)

-- the debts held have not come out
fresh-step : (b : Bool) (y : Held) (left : List Held) (gone : List ℕ) (ticket : ℕ) → has gone y.ticket ≡ b
    → (has (tickets left) ticket ≡ true → has gone ticket ≡ false) → has (tickets (if b then left else y ∷ left)) ticket ≡ true → has gone ticket ≡ false
fresh-step true y left gone ticket e rest h = rest h
fresh-step false y left gone ticket e rest h =
    elim (eqb_tells y.ticket ticket) [
      | inl same ↦ rw (← same.1) e
      | inr other ↦ rest (rw (other.0) at h)
    ]

held-fresh : (gone : List ℕ) (n : ℕ) (debts : List Owing) (ticket : ℕ) → has (tickets (held_from n debts gone)) ticket ≡ true → has gone ticket ≡ false
held-fresh gone n [] ticket h = cc
held-fresh gone n (d ∷ debts) ticket h = fresh-step (has gone n) _ _ gone ticket refl (held-fresh gone (n + 1) debts ticket) h

-- and each stands once
none-before-step : (b : Bool) (y : Held) (left : List Held) (ticket : ℕ) → (y.ticket ≡ ticket → ⊥) → has (tickets left) ticket ≡ false
    → has (tickets (if b then left else y ∷ left)) ticket ≡ false
none-before-step true y left ticket other rest = rest
none-before-step false y left ticket other rest = rw (ne_eqb y.ticket ticket other) rest

none-before : (gone : List ℕ) (n : ℕ) (debts : List Owing) (ticket : ℕ) → ticket < n → has (tickets (held_from n debts gone)) ticket ≡ false
none-before gone n [] ticket h = refl
none-before gone n (d ∷ debts) ticket h = none-before-step (has gone n) _ _ ticket (λ e. omega arith) (none-before gone (n + 1) debts ticket (omega arith))

once-step : (b : Bool) (y : Held) (left : List Held) (ticket : ℕ) → times (tickets left) ticket ≤ 1
    → (y.ticket ≡ ticket → has (tickets left) ticket ≡ false) → times (tickets (if b then left else y ∷ left)) ticket ≤ 1
once-step true y left ticket one alone = one
once-step false y left ticket one alone =
    elim (eqb_tells y.ticket ticket) [
      | inl same ↦ rw (same.0, times-none (tickets left) ticket (alone same.1)) (omega arith)
      | inr other ↦ rw (other.0) (omega arith)
    ]

pub held-once : (gone : List ℕ) (n : ℕ) (debts : List Owing) (ticket : ℕ) → times (tickets (held_from n debts gone)) ticket ≤ 1
held-once gone n [] ticket = omega arith
held-once gone n (d ∷ debts) ticket =
    once-step (has gone n) _ _ ticket (held-once gone (n + 1) debts ticket) (λ e. none-before gone (n + 1) debts ticket (omega arith))

-- a debt that came out is not held
out-step : (b : Bool) (hs : List Held) (gone : List ℕ) (ticket : ℕ) → has (tickets hs) ticket ≡ b → (has (tickets hs) ticket ≡ true → has gone ticket ≡ false)
    → has gone ticket ≡ true → has (tickets hs) ticket ≡ false
out-step true hs gone ticket e fresh h = absurd (false≢true (sym (fresh e) ∙ h))
out-step false hs gone ticket e fresh h = e

-- what one event brings out is among the debts held, each once
pub record Fresh (held : List Held) (more : List ℕ) (ticket : ℕ) : Type 0 where
  once : times more ticket ≤ 1
  among : has more ticket ≡ true → has (tickets held) ticket ≡ true

nothing-fresh : (hs : List Held) (ticket : ℕ) → Fresh hs [] ticket
nothing-fresh hs ticket = record { once = omega arith; among = λ e. cc }

one-step : (b : Bool) → (cond b 1 0 + 0 ≤ 1)
one-step true = omega arith
one-step false = omega arith

one-fresh : (hs : List Held) (k ticket : ℕ) (x : Held) → find (is_at k) hs ≡ Some x → Fresh hs (x.ticket ∷ []) ticket
one-fresh hs k ticket x e =
    let f = find-is_at k hs x e in
    record {
      once = one-step (x.ticket == ticket);
      among = λ h. elim (eqb_tells x.ticket ticket) [
        | inl same ↦ (let s : k ≡ ticket = sym f.0 ∙ same.1 in rw (← s) f.1)
        | inr other ↦ (let n : false ≡ true = rw other.0 at h in absurd (false≢true n))
      ];
    }

by_meaning-fresh : (hs : List Held) (k ticket : ℕ) (m : Option Meaning) (o : Option Held) → find (is_at k) hs ≡ o → Fresh hs (ended_tickets (ends_by_meaning m o)) ticket
by_meaning-fresh hs k ticket m None e = nothing-fresh hs ticket
by_meaning-fresh hs k ticket None (Some x) e = nothing-fresh hs ticket
by_meaning-fresh hs k ticket (Some Wanted) (Some x) e = nothing-fresh hs ticket
by_meaning-fresh hs k ticket (Some SendBlock) (Some x) e = nothing-fresh hs ticket
by_meaning-fresh hs k ticket (Some Later) (Some x) e = one-fresh hs k ticket x e
by_meaning-fresh hs k ticket (Some (Final code)) (Some x) e = one-fresh hs k ticket x e

by_loss-fresh : (hs : List Held) (k ticket : ℕ) (handing : Handing) (o : Option Held) → find (is_at k) hs ≡ o → Fresh hs (ended_tickets (ends_by_loss handing o)) ticket
by_loss-fresh hs k ticket handing None e = nothing-fresh hs ticket
by_loss-fresh hs k ticket (Sendable block) (Some x) e = nothing-fresh hs ticket
by_loss-fresh hs k ticket Gone (Some x) e = one-fresh hs k ticket x e
by_loss-fresh hs k ticket Unsendable (Some x) e = one-fresh hs k ticket x e

by_want-fresh : (hs : List Held) (ticket : ℕ) (handing : Handing) (want : Option (ℕ × Want))
    → Fresh hs (ended_tickets (ends_by_loss handing (held_for hs (option_map (λ (w : ℕ × Want). w.1) want)))) ticket
by_want-fresh hs ticket handing None = nothing-fresh hs ticket
by_want-fresh hs ticket handing (Some want) = by_loss-fresh hs want.1.ticket ticket handing _ refl

backs-fresh : (gone : List ℕ) (debts : List Owing) (ticket : ℕ) → Fresh (held_from 0 debts gone) (ended_tickets (backs (held_from 0 debts gone))) ticket
backs-fresh gone debts ticket = rw (ended_tickets-backs (held_from 0 debts gone)) (record { once = held-once gone 0 debts ticket; among = λ e. e })

at_close-fresh : (gone : List ℕ) (debts : List Owing) (ticket : ℕ) (o : Option Reason) → Fresh (held_from 0 debts gone) (ended_tickets (ends_at_close o (held_from 0 debts gone))) ticket
at_close-fresh gone debts ticket None = nothing-fresh _ ticket
at_close-fresh gone debts ticket (Some reason) = backs-fresh gone debts ticket

answer-fresh : (hs : List Held) (ticket code : ℕ) (command : ℕ × Ask) → Fresh hs (ended_tickets (ends_by_answer hs code (Some command) ++ [])) ticket
answer-fresh hs ticket code command =
    rw (append-nil (ends_by_answer hs code (Some command))) (by_meaning-fresh hs command.1.ticket ticket (meaning command.1.verb code) _ refl)

-- a reply either answers a command or closes, never both
mode-fresh : (gone : List ℕ) (debts : List Owing) (ticket : ℕ) (p : Phase) (code : ℕ) (o : Option (ℕ × Ask))
    → ((c : ℕ × Ask) → closes_in p (Some c) code ≡ None)
    → Fresh (held_from 0 debts gone) (ended_tickets (ends_by_answer (held_from 0 debts gone) code o ++ ends_at_close (closes_in p o code) (held_from 0 debts gone))) ticket
mode-fresh gone debts ticket p code None still = at_close-fresh gone debts ticket (closes_in p None code)
mode-fresh gone debts ticket p code (Some command) still = rw (still command) (answer-fresh (held_from 0 debts gone) ticket code command)

reply-fresh : (gone : List ℕ) (debts : List Owing) (ticket : ℕ) (p : Phase) (reply : Given) (done : List ℕ) (sent : List Ask)
    → Fresh (held_from 0 debts gone)
    (ended_tickets (ends_by_answer (held_from 0 debts gone) reply.code (answered_now p reply done sent) ++ ends_at_close (closes_in p (answered_now p reply done sent) reply.code) (held_from 0 debts gone))) ticket
reply-fresh gone debts ticket Greeting reply done sent = at_close-fresh gone debts ticket (closes_in Greeting None reply.code)
reply-fresh gone debts ticket Asking reply done sent = at_close-fresh gone debts ticket (closes_in Asking None reply.code)
reply-fresh gone debts ticket Streaming reply done sent = mode-fresh gone debts ticket Streaming reply.code (answered_now Streaming reply done sent) (λ c. refl)
reply-fresh gone debts ticket OneByOne reply done sent = mode-fresh gone debts ticket OneByOne reply.code (answered_now OneByOne reply done sent) (λ c. refl)
reply-fresh gone debts ticket Leaving reply done sent = at_close-fresh gone debts ticket (Some Left)

-- what comes out by an event
abbrev pub ends_by : Options → List Event → Event → List End
ends_by options h (Came reply) =
    ends_by_answer (held options h) reply.code (answered_ask options h reply) ++ ends_at_close (closes options h (Came reply)) (held options h)
ends_by options h (Handed number handing) = ends_by_loss handing (held_wanting h (story options h) number)
ends_by options h (Faulted fault) = ends_at_close (closes options h (Faulted fault)) (held options h)
ends_by options h (Tick now) = ends_at_close (closes options h (Tick now)) (held options h)
ends_by options h Broke = ends_at_close (closes options h Broke) (held options h)
ends_by options h (Offered debt) = []
ends_by options h (Put command) = []
ends_by options h (Sent count) = []
ends_by options h Leave = []
ends_by options h Taken = []

offered-step : (options : Options) (h : List Event) (b : Bool) (wants : List Want)
    → (if b then record (story options h) { wants = wants } else story options h).ends ≡ ends options h
offered-step options h true wants = refl
offered-step options h false wants = refl

pub ends-more : (options : Options) (h : List Event) (e : Event) → ends options (e ∷ h) ≡ ends options h ++ ends_by options h e
unfolding story
ends-more options h (Came reply) = append_assoc (ends options h) _ _
ends-more options h (Handed number handing) = refl
ends-more options h (Faulted fault) = refl
ends-more options h (Tick now) = refl
ends-more options h Broke = refl
ends-more options h (Offered debt) = offered-step options h _ _ ∙ sym (append-nil (ends options h))
ends-more options h (Put command) = sym (append-nil (ends options h))
ends-more options h (Sent count) = sym (append-nil (ends options h))
ends-more options h Leave = sym (append-nil (ends options h))
ends-more options h Taken = sym (append-nil (ends options h))

pub by-fresh : (options : Options) (h : List Event) (e : Event) (ticket : ℕ) → Fresh (held options h) (ended_tickets (ends_by options h e)) ticket
by-fresh options h (Came reply) ticket =
    reply-fresh (ended_tickets (ends options h)) (accepted h) ticket (phase options h) reply (answered options h) (asks h)
by-fresh options h (Handed number handing) ticket = by_want-fresh (held options h) ticket handing (first_want (story options h) number)
by-fresh options h (Faulted fault) ticket = at_close-fresh (ended_tickets (ends options h)) (accepted h) ticket (closes options h (Faulted fault))
by-fresh options h (Tick now) ticket = at_close-fresh (ended_tickets (ends options h)) (accepted h) ticket (closes options h (Tick now))
by-fresh options h Broke ticket = at_close-fresh (ended_tickets (ends options h)) (accepted h) ticket (closes options h Broke)
by-fresh options h (Offered debt) ticket = nothing-fresh (held options h) ticket
by-fresh options h (Put command) ticket = nothing-fresh (held options h) ticket
by-fresh options h (Sent count) ticket = nothing-fresh (held options h) ticket
by-fresh options h Leave ticket = nothing-fresh (held options h) ticket
by-fresh options h Taken ticket = nothing-fresh (held options h) ticket

pub tickets-more : (options : Options) (h : List Event) (e : Event)
    → ended_tickets (ends options (e ∷ h)) ≡ ended_tickets (ends options h) ++ ended_tickets (ends_by options h e)
tickets-more options h e = ap ended_tickets (ends-more options h e) ∙ ended_tickets-append (ends options h) (ends_by options h e)

-- each debt comes out at most once
pub at_most_once : (options : Options) (h : List Event) (ticket : ℕ) → times_out options h ticket ≤ 1
unfolding story
at_most_once options [] ticket = omega arith
at_most_once options (e ∷ h) ticket =
    let f = by-fresh options h e ticket in
    let gone : List ℕ = ended_tickets (ends options h) in
    let more : List ℕ = ended_tickets (ends_by options h e) in
    subst (λ ps. times ps ticket ≤ 1) (sym (tickets-more options h e))
    (once-more gone more ticket (at_most_once options h ticket) f.once (λ q. held-fresh gone 0 (accepted h) ticket (f.among q)))

-- held or out, once
held-or-out-step : (options : Options) (h : List Event) (ticket : ℕ) (b : Bool) → has (ended_tickets (ends options h)) ticket ≡ b → ticket < length (accepted h)
    → times_held options h ticket + times_out options h ticket ≡ 1
held-or-out-step options h ticket true e few =
    let gone : List ℕ = ended_tickets (ends options h) in
    let out = times-some gone ticket e in
    let most = at_most_once options h ticket in
    let none = times-none (tickets (held options h)) ticket (out-step _ (held options h) gone ticket refl (held-fresh gone 0 (accepted h) ticket) e) in
    omega arith
held-or-out-step options h ticket false e few =
    let gone : List ℕ = ended_tickets (ends options h) in
    let none = times-none gone ticket e in
    let one = held-once gone 0 (accepted h) ticket in
    let some = times-some (tickets (held options h)) ticket (in-held gone 0 (accepted h) ticket (omega arith) (omega arith) e) in
    omega arith

pub held_or_out : (options : Options) (h : List Event) (ticket : ℕ) → ticket < length (accepted h)
    → times_held options h ticket + times_out options h ticket ≡ 1
held_or_out options h ticket few = held-or-out-step options h ticket _ refl few

pub neither-beyond : (options : Options) (h : List Event) (ticket : ℕ) → length (accepted h) ≤ ticket
    → times_held options h ticket + times_out options h ticket ≡ 0
neither-beyond options h ticket far =
    let out = times-none (ended_tickets (ends options h)) ticket (ends_below options h ticket far) in
    let hold = times-none (tickets (held options h)) ticket (tickets-below options h ticket far) in
    omega arith

-- a debt held is the one accepted at its ticket
abbrev pub IsOwn : List Owing → Held → Type 0
IsOwn debts x = slice_get debts x.ticket ≡ Some x.debt

own-step : (all : List Owing) (b : Bool) (y : Held) (left : List Held) → IsOwn all y → AllByRecursion (IsOwn all) left
    → AllByRecursion (IsOwn all) (if b then left else y ∷ left)
own-step all true y left p q = q
own-step all false y left p q = (p, q)

own-held : (all : List Owing) (gone : List ℕ) (n : ℕ) (debts : List Owing) → ((k : ℕ) (d : Owing) → slice_get debts k ≡ Some d → slice_get all (n + k) ≡ Some d)
    → AllByRecursion (IsOwn all) (held_from n debts gone)
own-held all gone n [] at = tt
own-held all gone n (d ∷ debts) at =
    let here : n + 0 ≡ n = omega arith in
    own-step all (has gone n) _ _ (rw here at (at 0 d refl))
    (own-held all gone (n + 1) debts (λ k x e. let there : n + suc k ≡ n + 1 + k = omega arith in rw there at (at (suc k) x e)))

own-found : (all : List Owing) (b : Bool) (y x : Held) (rest : Option Held) → cond b (Some y) rest ≡ Some x → IsOwn all y → (rest ≡ Some x → IsOwn all x) → IsOwn all x
own-found all true y x rest e p later = let same : y ≡ x = cc in subst (λ z. IsOwn all z) same p
own-found all false y x rest e p later = later e

pub find-own : (all : List Owing) (k : ℕ) (hs : List Held) (x : Held) → AllByRecursion (IsOwn all) hs → find (is_at k) hs ≡ Some x → IsOwn all x
find-own all k [] x p e = cc
find-own all k (y ∷ hs) x p e = own-found all (y.ticket == k) y x _ e p.0 (find-own all k hs x p.1)

-- a debt that came out is, too
abbrev IsOwnEnd : List Owing → End → Type 0
IsOwnEnd debts x = slice_get debts x.ticket ≡ Some (debt_in x.outcome)

own-backs : (all : List Owing) (hs : List Held) → AllByRecursion (IsOwn all) hs → AllByRecursion (IsOwnEnd all) (backs hs)
own-backs all [] p = tt
own-backs all (x ∷ hs) p = (p.0, own-backs all hs p.1)

own-close : (all : List Owing) (o : Option Reason) (hs : List Held) → AllByRecursion (IsOwn all) hs → AllByRecursion (IsOwnEnd all) (ends_at_close o hs)
own-close all None hs p = tt
own-close all (Some why) hs p = own-backs all hs p

own-meaning : (all : List Owing) (k : ℕ) (hs : List Held) (m : Option Meaning) (o : Option Held) → find (is_at k) hs ≡ o → AllByRecursion (IsOwn all) hs
    → AllByRecursion (IsOwnEnd all) (ends_by_meaning m o)
own-meaning all k hs m None e p = tt
own-meaning all k hs None (Some x) e p = tt
own-meaning all k hs (Some Wanted) (Some x) e p = tt
own-meaning all k hs (Some SendBlock) (Some x) e p = tt
own-meaning all k hs (Some Later) (Some x) e p = (find-own all k hs x p e, tt)
own-meaning all k hs (Some (Final code)) (Some x) e p = (find-own all k hs x p e, tt)

own-answer : (all : List Owing) (hs : List Held) (code : ℕ) (o : Option (ℕ × Ask)) → AllByRecursion (IsOwn all) hs → AllByRecursion (IsOwnEnd all) (ends_by_answer hs code o)
own-answer all hs code None p = tt
own-answer all hs code (Some command) p = own-meaning all command.1.ticket hs (meaning command.1.verb code) _ refl p

own-loss : (all : List Owing) (k : ℕ) (hs : List Held) (handing : Handing) (o : Option Held) → find (is_at k) hs ≡ o → AllByRecursion (IsOwn all) hs
    → AllByRecursion (IsOwnEnd all) (ends_by_loss handing o)
own-loss all k hs handing None e p = tt
own-loss all k hs (Sendable block) (Some x) e p = tt
own-loss all k hs Gone (Some x) e p = (find-own all k hs x p e, tt)
own-loss all k hs Unsendable (Some x) e p = (find-own all k hs x p e, tt)

own-want : (all : List Owing) (hs : List Held) (handing : Handing) (want : Option (ℕ × Want)) → AllByRecursion (IsOwn all) hs
    → AllByRecursion (IsOwnEnd all) (ends_by_loss handing (held_for hs (option_map (λ (w : ℕ × Want). w.1) want)))
own-want all hs handing None p = tt
own-want all hs handing (Some want) p = own-loss all want.1.ticket hs handing _ refl p

pub held-own : (options : Options) (h : List Event) → AllByRecursion (IsOwn (accepted h)) (held options h)
held-own options h =
    own-held (accepted h) (ended_tickets (ends options h)) 0 (accepted h) (λ k d e. let here : 0 + k ≡ k = omega arith in rw here e)

own-by : (options : Options) (h : List Event) (e : Event) → AllByRecursion (IsOwnEnd (accepted h)) (ends_by options h e)
own-by options h (Came reply) =
    All-append (IsOwnEnd (accepted h)) (ends_by_answer (held options h) reply.code (answered_ask options h reply)) _
    (own-answer (accepted h) (held options h) reply.code (answered_ask options h reply) (held-own options h))
    (own-close (accepted h) (closes options h (Came reply)) (held options h) (held-own options h))
own-by options h (Handed number handing) = own-want (accepted h) (held options h) handing (first_want (story options h) number) (held-own options h)
own-by options h (Faulted fault) = own-close (accepted h) (closes options h (Faulted fault)) (held options h) (held-own options h)
own-by options h (Tick now) = own-close (accepted h) (closes options h (Tick now)) (held options h) (held-own options h)
own-by options h Broke = own-close (accepted h) (closes options h Broke) (held options h) (held-own options h)
own-by options h (Offered debt) = tt
own-by options h (Put command) = tt
own-by options h (Sent count) = tt
own-by options h Leave = tt
own-by options h Taken = tt

get-more : {X : Type 0} (xs ys : List X) (k : ℕ) (x : X) → slice_get xs k ≡ Some x → slice_get (xs ++ ys) k ≡ Some x
get-more [] ys k x e = cc
get-more (y ∷ xs) ys zero x e = e
get-more (y ∷ xs) ys (suc k) x e = get-more xs ys k x e

still-own : (h : List Event) (e : Event) (x : End) → IsOwnEnd (accepted h) x → IsOwnEnd (accepted (e ∷ h)) x
still-own h (Offered debt) x p = get-more (accepted h) (debt ∷ []) x.ticket (debt_in x.outcome) p
still-own h (Came reply) x p = p
still-own h (Handed number handing) x p = p
still-own h (Faulted fault) x p = p
still-own h (Tick now) x p = p
still-own h Broke x p = p
still-own h (Put command) x p = p
still-own h (Sent count) x p = p
still-own h Leave x p = p
still-own h Taken x p = p

-- what comes out is the debt that was accepted
pub all_own : (options : Options) (h : List Event) → AllAreTheirOwn options h
unfolding story
all_own options [] = tt
all_own options (e ∷ h) =
    let all = All-append (IsOwnEnd (accepted h)) (ends options h) (ends_by options h e) (all_own options h) (own-by options h e) in
    subst (λ xs. AllByRecursion (IsOwnEnd (accepted (e ∷ h))) xs) (sym (ends-more options h e))
    (All-map (IsOwnEnd (accepted h)) (IsOwnEnd (accepted (e ∷ h))) (still-own h e) (ends options h ++ ends_by options h e) all)

-- once closed, each debt accepted has come out exactly once
pub exactly_once : (options : Options) (h : List Event) (ticket : ℕ) → Arises options h → is_some (reason options h) ≡ true → ticket < length (accepted h)
    → times_out options h ticket ≡ 1
exactly_once options h ticket a closed few =
    let none : times_held options h ticket ≡ 0 = ap (λ hs. times (tickets hs) ticket) (none_held options h a closed) in
    let both = held_or_out options h ticket few in
    omega arith
